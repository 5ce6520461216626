-- Slot zero is the leaf after every plain run that was let start: it leaves the words that a run leaves.
use Prim.Native.Nat.{ℕ, ◌≤◌}
use mathlib.Core.Path.{◌≡◌, refl, sym, ap, ◌∙◌, subst}
use mathlib.Core.Bool.{true, false, false≢true}
use mathlib.Core.List.{List}
use mathlib.Core.Logic.{◌⊎◌, inl, inr}
use lib.IntN.{ℤ}
use Rattle.engine.specs.declared.From.TheVariants.{Scratch}
use Rattle.engine.specs.Answer as run
use Rattle.engine.specs.Run.{Ran, ran, run_from}
use Rattle.plain.specs.Answer.{PlainAnswer, plain_numbers}
use Rattle.plain.specs.Run.{Played, played, plain_run}
use Rattle.plain.specs.Meaning.{Shown, shown, of_run}
use Rattle.plain.proofs.PlainIsRun.{plain_is_run}
use Rattle.guarantees.specs.Run.{started as let-start}
use Rattle.guarantees.specs.Plain.{TooDeep, refused}
use Rattle.guarantees.specs.Demands.{ZeroIsLeaf}
use Rattle.guarantees.proofs.RunZero.{run_zero}
use Rattle.guarantees.proofs.Verdict.{out, misplaced, damaged, at_last, started}
use Rattle.guarantees.proofs.PlainVerdict.{PlainJudged, plain_verdict}
use Rattle.guarantees.proofs.PlainTwin.{lent, deep_or_not, twin}

-- with fuel or room above 1,000 it is refused
deep_refused : {w : List ℕ} {base f x : ℤ} {used fuel places : ℕ} → TooDeep fuel places → {r : Played} →
    PlainJudged w base f x used fuel places r → (n : ℕ) × (let-start n ≡ false) × (shown r ≡ refused n w)
deep_refused deep (out a) = (21, refl, refl)
deep_refused deep (misplaced a b) = (23, refl, refl)
deep_refused deep (damaged a b c) = (24, refl, refl)
deep_refused deep (at_last a b c d) = (49, refl, refl)
deep_refused deep (started a b c d h) = absurd (d deep)

module _ (w v : List ℕ) (base f x : ℤ) (used fuel places : ℕ) (a : PlainAnswer) (e : plain_run w base f x used fuel places ≡ played v a)
    (s : let-start (plain_numbers a).number ≡ true) where
  -- what a run leaves that answers the same number
  zero_of : (r : Ran) → run_from Scratch w base f x used fuel (lent places) ≡ r → shown (played v a) ≡ of_run r → ZeroIsLeaf base v
  zero_of (ran u j b) q same =
      let words : v ≡ u = ap (λ (n : Shown). n.words) same in
      let goes : let-start (run.run_numbers b).number ≡ true
      = subst (λ (n : Shown). let-start n.answer.number ≡ true) same s
      in
      subst (ZeroIsLeaf base) (sym words) (run_zero Scratch w u (lent places) j base f x used fuel b q goes)

  zero : TooDeep fuel places ⊎ ((fuel ≤ 1000) × (places ≤ 1000)) → ZeroIsLeaf base v
  zero (inl deep) =
      let (n, unstarted, r) = deep_refused deep (plain_verdict w base f x used fuel places) in
      let m : shown (played v a) ≡ refused n w = sym (ap shown e) ∙ r in
      absurd (false≢true (sym unstarted ∙ sym (ap (λ (q : Shown). let-start q.answer.number) m) ∙ s))
  zero (inr (low, few)) =
      zero_of (run_from Scratch w base f x used fuel (lent places)) refl
      (sym (ap shown e) ∙ twin plain_run plain_is_run w base f x used fuel places low few)

pub plain_zero : (w v : List ℕ) (base f x : ℤ) (used fuel places : ℕ) (a : PlainAnswer) →
    plain_run w base f x used fuel places ≡ played v a → let-start (plain_numbers a).number ≡ true → ZeroIsLeaf base v
plain_zero w v base f x used fuel places a e s = zero w v base f x used fuel places a e s (deep_or_not fuel places)
