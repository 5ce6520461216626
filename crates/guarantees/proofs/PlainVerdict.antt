-- How a plain run is judged: by the run call's verdict, and by 49.
use Prim.Native.Nat.{ℕ, ◌≤◌}
use mathlib.Core.Path.{◌≡◌, refl}
use mathlib.Core.List.{List, []}
use mathlib.Core.Logic.{◌⊎◌, inl, ⊎_elim}
use native.Mathlib.Omega.{arith}
use lib.IntN.{ℤ}
use Rattle.std.specs.Prelude.{Err, Ok}
use Rattle.engine.specs.declared.From.TheVariants.{Scratch}
use Rattle.engine.specs.declared.Ending.TheVariants as run
use Rattle.plain.specs.declared.PlainEnding.TheVariants.{Done, Stopped}
use Rattle.engine.specs.Run.{Ran, ran, run_from}
use Rattle.plain.specs.Answer.{PlainAnswer}
use Rattle.plain.specs.Run.{Played, played, plain_run}
use Rattle.plain.proofs.Sim.{plain_of}
use Rattle.plain.proofs.PlainIsRun.{plain_same}
use Rattle.plain.proofs.TooDeep.{deep_of, plain_deep}
use Rattle.guarantees.specs.Run.{OutOfTable, Misplaced, Damaged}
use Rattle.guarantees.specs.Plain.{TooDeep}
use Rattle.guarantees.proofs.PlainTwin.{lent, lent_room, deep_or_not}
use Rattle.guarantees.proofs.Verdict.{Ended, Verdict, out, misplaced, damaged, at_last, started, Judged, verdict}

-- the answer is done, or a stop with a stop's number
abbrev GoesAs : PlainAnswer → Type 0
GoesAs (Err n) = ⊥
GoesAs (Ok (Done slot steps used)) = Unit {0}
GoesAs (Ok (Stopped n steps used)) = (31 ≤ n) × (n ≤ 33)

abbrev pub Goes : Played → Type 0
Goes (played w a) = GoesAs a

goes_of : (r : Ran) → Ended r → Goes (plain_of r)
goes_of (ran w j (Err n)) h = h
goes_of (ran w j (Ok (run.Done slot steps used))) h = h
goes_of (ran w j (Ok (run.Stopped why f x steps used waiting))) h = h

deep_of_lem : (w : List ℕ) (r : Ran) → Ended r → deep_of w r ≡ played w (Err 49)
deep_of_lem w (ran v j (Err n)) h = absurd h
deep_of_lem w (ran v j (Ok (run.Done slot steps used))) h = refl
deep_of_lem w (ran v j (Ok (run.Stopped why f x steps used waiting))) h = refl

abbrev pub PlainJudged : List ℕ → ℤ → ℤ → ℤ → ℕ → ℕ → ℕ → Played → Type 0
PlainJudged w base f x used fuel places =
    Verdict (λ (n : ℕ). played w (Err n)) 49 Goes (OutOfTable w base used) (Misplaced used f ⊎ Misplaced used x) (Damaged w base used)
    (TooDeep fuel places)

module _ (w : List ℕ) (base f x : ℤ) (used fuel places : ℕ) where
  abbrev P : Played → Type 0
  P = PlainJudged w base f x used fuel places

  -- with fuel and room up to 1,000, as the run call is
  judged : (j : List ℕ) (n : ℕ) → (TooDeep fuel places → ⊥) → {r : Ran} → Judged Scratch w j base f x used n r → P (plain_of r)
  judged j n low (out a) = out a
  judged j n low (misplaced a b) = misplaced a b
  judged j n low (damaged a b (inl c)) = damaged a b c
  judged j n low (at_last a b c d) = absurd d
  judged j n low {r} (started a b c d h) = started a b (λ z. c (inl z)) low (goes_of r h)
  judged j n low (damaged a b (mathlib.Core.Logic.inr x4)) = elim x4 [ ]

  -- above that, as a run with no fuel is, and by 49
  judged_deep : (n : ℕ) → TooDeep fuel places → {r : Ran} → Judged Scratch w [] base f x used n r → P (deep_of w r)
  judged_deep n deep (out a) = out a
  judged_deep n deep (misplaced a b) = misplaced a b
  judged_deep n deep (damaged a b (inl c)) = damaged a b c
  judged_deep n deep (at_last a b c d) = absurd d
  judged_deep n deep {r} (started a b c d h) = rw (deep_of_lem w r h) (at_last a b (λ z. c (inl z)) deep)
  judged_deep n deep (damaged a b (mathlib.Core.Logic.inr x4)) = elim x4 [ ]

  -- every plain run has its verdict
  pub plain_verdict : P (plain_run w base f x used fuel places)
  plain_verdict = ⊎_elim above within (deep_or_not fuel places)
    where
      above : TooDeep fuel places → P (plain_run w base f x used fuel places)
      above deep = rw (plain_deep fuel places deep w base f x used) (judged_deep 0 deep (verdict Scratch w [] base f x used 0))

      within : (fuel ≤ 1000) × (places ≤ 1000) → P (plain_run w base f x used fuel places)
      within (low, few) =
          let j = lent places in
          let same = lent_room places few in
          let e : plain_run w base f x used fuel places ≡ plain_of (run_from Scratch w base f x used fuel j)
          = rw same at (plain_same w j base f x used fuel low (rw same few))
          in
          rw e (judged j fuel (⊎_elim (λ g. omega arith) (λ g. omega arith)) (verdict Scratch w j base f x used fuel))
