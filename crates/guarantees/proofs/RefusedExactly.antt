-- A call is refused exactly for its reasons, the lowest number first: by the call's verdict.
use Prim.Native.Nat.{ℕ, ◌<◌}
use mathlib.Core.Path.{◌≡◌, refl, sym, ap, ◌∙◌}
use mathlib.Core.Bool.{false, false≢true}
use mathlib.Core.List.{List}
use mathlib.Core.Logic.{◌↔◌}
use native.Mathlib.Omega.{arith}
use Rattle.std.specs.Prelude.{Err}
use Rattle.engine.specs.Run.{Ran, ran, run_from}
use Rattle.engine.specs.Answer.{RunNumbers}
use Rattle.guarantees.specs.Run.{started as let-start, RefusedWith, InOrder, RefusedExactly}
use Rattle.guarantees.proofs.Verdict.{Ended, Unrefused, unrefused, Verdict, out, misplaced, damaged, at_last, started, verdict}

-- of any kind of calls: a refusal has its own number and no other, and what was let start has none of those
module _ {R : Type 0} (refused : ℕ → R) (last : ℕ) (Goes : R → Type 0) (With : ℕ → R → Type 0) (above : 24 < last)
    (unstarted : let-start last ≡ false) (own : (n : ℕ) → With n (refused n)) (other : (n m : ℕ) → With n (refused m) → m ≡ n)
    (none : (n : ℕ) → let-start n ≡ false → (r : R) → Goes r → With n r → ⊥) where
  -- one refusal is not another
  apart : {P : Type 0} (n m : ℕ) → (m ≡ n → ⊥) → With n (refused m) → P
  apart n m h e = absurd (h (other n m e))

  -- and what was let start is none
  begun : {P : Type 0} (n : ℕ) (r : R) → let-start n ≡ false → Goes r → With n r → P
  begun n r z h e = absurd (none n z r h e)

  module _ (A B C D : Type 0) where
    abbrev Judged : R → Type 0
    Judged = Verdict refused last Goes A B C D

    exactly_21 : {r : R} → Judged r → With 21 r ↔ A
    exactly_21 (out a) = (λ _. a, λ _. own 21)
    exactly_21 (misplaced a b) = (apart 21 23 (omega arith), λ h. absurd (a h))
    exactly_21 (damaged a b c) = (apart 21 24 (omega arith), λ h. absurd (a h))
    exactly_21 (at_last a b c d) = (apart 21 last (omega arith), λ h. absurd (a h))
    exactly_21 {r} (started a b c d h) = (begun 21 r refl h, λ k. absurd (a k))

    exactly_23 : {r : R} → Judged r → With 23 r ↔ ((A → ⊥) × B)
    exactly_23 (out a) = (apart 23 21 (omega arith), λ h. absurd (h.0 a))
    exactly_23 (misplaced a b) = (λ _. (a, b), λ _. own 23)
    exactly_23 (damaged a b c) = (apart 23 24 (omega arith), λ h. absurd (b h.1))
    exactly_23 (at_last a b c d) = (apart 23 last (omega arith), λ h. absurd (b h.1))
    exactly_23 {r} (started a b c d h) = (begun 23 r refl h, λ k. absurd (b k.1))

    exactly_24 : {r : R} → Judged r → With 24 r ↔ ((A → ⊥) × (B → ⊥) × C)
    exactly_24 (out a) = (apart 24 21 (omega arith), λ h. absurd (h.0 a))
    exactly_24 (misplaced a b) = (apart 24 23 (omega arith), λ h. absurd (h.1 b))
    exactly_24 (damaged a b c) = (λ _. (a, b, c), λ _. own 24)
    exactly_24 (at_last a b c d) = (apart 24 last (omega arith), λ h. absurd (c h.2))
    exactly_24 {r} (started a b c d h) = (begun 24 r refl h, λ k. absurd (c k.2))

    exactly_last : {r : R} → Judged r → With last r ↔ ((A → ⊥) × (B → ⊥) × (C → ⊥) × D)
    exactly_last (out a) = (apart last 21 (omega arith), λ h. absurd (h.0 a))
    exactly_last (misplaced a b) = (apart last 23 (omega arith), λ h. absurd (h.1 b))
    exactly_last (damaged a b c) = (apart last 24 (omega arith), λ h. absurd (h.2 c))
    exactly_last (at_last a b c d) = (λ _. (a, b, c, d), λ _. own last)
    exactly_last {r} (started a b c d h) = (begun last r unstarted h, λ k. absurd (d k.3))

    pub in_order : {r : R} → Judged r → InOrder (λ n. With n r) A B C last D
    in_order v = (exactly_21 v, exactly_23 v, exactly_24 v, exactly_last v)

-- ---- of a run or a carry-on

module _ (w j : List ℕ) where
  number_of : (n m : ℕ) → RefusedWith n w j (ran w j (Err m)) → m ≡ n
  number_of n m e = ap (λ (a : RunNumbers). a.number) e.0

  not_started : (n : ℕ) → let-start n ≡ false → (r : Ran) → Ended r → RefusedWith n w j r → ⊥
  not_started n z (ran v k a) h e =
      let s : Unrefused (ran v k a) = unrefused (ran v k a) h in
      false≢true (sym z ∙ sym (ap (λ (b : RunNumbers). let-start b.number) e.0) ∙ s)

pub refused_exactly : RefusedExactly run_from
refused_exactly from w j base f x used fuel =
    in_order (λ (n : ℕ). ran w j (Err n)) 40 Ended (λ n r. RefusedWith n w j r) (omega arith) refl (λ n. (refl, refl, refl))
    (number_of w j) (not_started w j) _ _ _ _ (verdict from w j base f x used fuel)
