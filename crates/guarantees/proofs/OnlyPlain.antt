-- A call that keeps the promises of the plain engine does what it does: within 1,000 both are the run call's twins, above that what
-- refuses the one refuses the other.
use Prim.Native.Nat.{ℕ, ◌≤◌}
use mathlib.Core.Path.{◌≡◌, refl, ap, ap₂, sym, ◌∙◌}
use mathlib.Core.List.{List}
use mathlib.Core.Logic.{◌⊎◌, inl, inr}
use lib.IntN.{ℤ}
use Rattle.plain.specs.Answer.{PlainAnswer}
use Rattle.plain.specs.Run.{Played, played, plain_run}
use Rattle.plain.specs.Meaning.{PlainCall, Shown, shown, PlainIsRun}
use Rattle.plain.proofs.PlainIsRun.{plain_is_run}
use Rattle.guarantees.specs.Plain.{TooDeep, PlainRefusedExactly, PlainTells, OnlyPlain}
use Rattle.guarantees.proofs.PlainRefused.{plain_number_tells, plain_one_answer}
use Rattle.guarantees.proofs.Verdict.{out, misplaced, damaged, at_last, started}
use Rattle.guarantees.proofs.PlainVerdict.{PlainJudged, plain_verdict}
use Rattle.guarantees.proofs.PlainTwin.{deep_or_not, twin}

module _ (call : PlainCall) (same : PlainIsRun call) (refuses : PlainRefusedExactly call) (w : List ℕ) (base f x : ℤ)
    (used fuel places : ℕ) where
  -- the reason that refuses ours refuses the other
  alike : TooDeep fuel places → (r : Played) → PlainJudged w base f x used fuel places r →
      shown (call w base f x used fuel places) ≡ shown r
  alike deep r (out a) = (refuses w base f x used fuel places).0.1 a
  alike deep r (misplaced a b) = (refuses w base f x used fuel places).1.1 (a, b)
  alike deep r (damaged a b c) = (refuses w base f x used fuel places).2.1 (a, b, c)
  alike deep r (at_last a b c d) = (refuses w base f x used fuel places).3.1 (a, b, c, d)
  alike deep r (started a b c d h) = absurd (d deep)

  both : TooDeep fuel places ⊎ ((fuel ≤ 1000) × (places ≤ 1000)) →
      shown (call w base f x used fuel places) ≡ shown (plain_run w base f x used fuel places)
  both (inl deep) = alike deep (plain_run w base f x used fuel places) (plain_verdict w base f x used fuel places)
  both (inr (low, few)) =
      twin call same w base f x used fuel places low few
      ∙ sym (twin plain_run plain_is_run w base f x used fuel places low few)

-- what shows the same is the same, where the number tells the case
told_same : (p q : Played) → ((v : List ℕ) (a : PlainAnswer) → p ≡ played v a → PlainTells a) →
    ((v : List ℕ) (a : PlainAnswer) → q ≡ played v a → PlainTells a) → shown p ≡ shown q → p ≡ q
told_same (played w a) (played v b) h g e =
    ap₂ played (ap (λ (s : Shown). s.words) e) (plain_one_answer a b (h w a refl) (g v b refl) (ap (λ (s : Shown). s.answer) e))

pub only_plain : OnlyPlain
only_plain call same refuses tells w base f x used fuel places =
    told_same (call w base f x used fuel places) (plain_run w base f x used fuel places)
    (λ v a e. tells w v base f x used fuel places a e) (λ v a e. plain_number_tells w v base f x used fuel places a e)
    (both call same refuses w base f x used fuel places (deep_or_not fuel places))
