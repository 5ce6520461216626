-- With fuel or job room above 1,000 the plain engine refuses: with the run call's number, or with 49.
use Prim.Native.Nat.{ℕ, ◌<◌}
use mathlib.Core.Path.{◌≡◌, refl, sym, ap, ◌∙◌}
use mathlib.Core.Bool.{Bool, true, false}
use mathlib.Core.List.{List, [], ◌∷◌, ◌++◌}
use mathlib.Core.Logic.{◌⊎◌, ⊎_elim}
use native.Mathlib.Omega.{arith}
use native.Mathlib.Decide.{dec_lt}
use lib.Dec.{eqb}
use lib.IntN.{ℤ}
use lib.ListN.{take, drop, take-append-drop}
use borrow.Author.Tests.{eqb-true, eqb-false, lt-ltb}
use Rattle.refusals.specs.Refusals.{Row, ◌when◌, answer}
use Rattle.refusals.proofs.Rows.{answer_clear, refused_first, passed_first}
use Rattle.table.proofs.BaseLaws.{from_through}
use Rattle.engine.specs.declared.From.TheVariants.{Scratch}
use Rattle.engine.specs.declared.Ending.TheVariants as run
use Rattle.engine.specs.Admission.{slot_rows, run_rows}
use Rattle.engine.specs.Run.{Ran, ran, drive, run_tail, ran_with, run_from}
use Rattle.engine.proofs.AdmissionLaws.{slot_numbered}
use Rattle.std.specs.Prelude.{Ok, Err}
use Rattle.plain.specs.Run.{Played, played, most_plain, too_deep, plain_rows, plain_tail, played_with, plain_run}
use Rattle.plain.proofs.CallWays.{deep_fuel, deep_places}

-- what refuses a run refuses; 49 where it would start
abbrev pub deep_of : List ℕ → Ran → Played
deep_of w (ran v j (Err n)) = played w (Err n)
deep_of w (ran v j (Ok (run.Done slot steps used))) = played w (Err 49)
deep_of w (ran v j (Ok (run.Stopped why f x steps used waiting))) = played w (Err 49)

module _ (fuel places : ℕ) (deep : (most_plain < fuel) ⊎ (most_plain < places)) where
  -- either test finds it
  is_deep : too_deep fuel places ≡ true
  is_deep =
      elim (dec_lt most_plain fuel) [
        | yes h ↦ deep_fuel fuel places h
        | no h ↦
            let l : most_plain < places = ⊎_elim (λ g. absurd (h g)) (λ g. g) deep in
            deep_places fuel places (omega (arith, h)) ∙ lt-ltb most_plain places l
      ]

  -- so that 49 is answered where no slot's row is
  module _ (w : List ℕ) (f x : ℤ) (used : ℕ) where
    abbrev rows : List Row
    rows = slot_rows w f x used

    abbrev later : List Row
    later = (49 when too_deep fuel places) ∷ []

    by_slots : (b : Bool) → eqb (answer rows) 0 ≡ b → plain_tail w f x used fuel places ≡ deep_of w (run_tail Scratch w f x used 0 [])
    unfolding plain_tail run_tail plain_rows run_rows drive answer
    by_slots true e =
        let clear = answer_clear rows (slot_numbered w f x used) (sym (eqb-true (answer rows) 0 e)) refl in
        let deeper : answer (rows ++ later) ≡ 49 = passed_first later clear ∙ (rw is_deep) in
        let none : answer (rows ++ []) ≡ 0 = passed_first [] clear in
        rw (deeper, none)
    by_slots false e =
        let z = eqb-false (answer rows) 0 e in
        rw (← refused_first rows later refl z, ← refused_first rows [] refl z, e)

    tail_deep : plain_tail w f x used fuel places ≡ deep_of w (run_tail Scratch w f x used 0 [])
    tail_deep = by_slots (eqb (answer rows) 0) refl

  after_deep : (w : List ℕ) (b : ℕ) (r : Ran) → played_with (take b w) (deep_of (drop b w) r) ≡ deep_of w (ran_with (take b w) r)
  after_deep w b (ran v j (Err n)) = rw (take-append-drop b w)
  after_deep w b (ran v j (Ok (run.Done slot steps used))) = rw (take-append-drop b w)
  after_deep w b (ran v j (Ok (run.Stopped why f x steps used waiting))) = rw (take-append-drop b w)

  pub plain_deep : (w : List ℕ) (base f x : ℤ) (used : ℕ) →
      plain_run w base f x used fuel places ≡ deep_of w (run_from Scratch w base f x used 0 [])
  unfolding plain_run run_from
  plain_deep w base f x used =
      from_through (deep_of w) w base _ _ _ _ refl
      (λ b. ap (played_with (take b w)) (tail_deep (drop b w) f x used) ∙ after_deep w b (run_tail Scratch (drop b w) f x used 0 []))
