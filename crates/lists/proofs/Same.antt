-- Laws of the test of byte strings: it means equality.
use Rattle.std.specs.Prelude.{nat_eq, cond, ◌&&◌}
use Rattle.std.specs.Cmp.Lexicographic.{pointwise}
use Prim.Native.Nat.{ℕ}
use mathlib.Core.Path.{◌≡◌, refl}
use mathlib.Core.List.{List, [], ◌∷◌}
use mathlib.Core.Bool.{Bool, true, false}
use mathlib.Core.Logic.{◌↔◌}
use native.Mathlib.Omega.{arith}
use borrow.Author.Tests.{eq-eqb, eqb-true}
use lib.Dec.{eqb}
use Rattle.lists.specs.Lists.{same_bytes}

-- no test answers both
pub not_both : {A : Type 0} {b : Bool} → b ≡ true → b ≡ false → A
not_both p q = let z : ◌≡◌ {A = ℕ} 0 1 = cc in absurd (omega arith)

pub same_sound : (a b : List ℕ) → same_bytes a b ≡ true → a ≡ b
unfolding same_bytes
same_sound [] [] h = refl
same_sound [] (y ∷ ys) h = not_both h refl
same_sound (x ∷ xs) [] h = not_both h refl
same_sound (x ∷ xs) (y ∷ ys) h = first (eqb x y) refl (same_sound xs ys)
  where
    first : (t : Bool) → eqb x y ≡ t → (same_bytes xs ys ≡ true → xs ≡ ys) → x ∷ xs ≡ y ∷ ys
    first true q rest = cc (eqb-true x y q, rest (rw q at h))
    first false q rest = not_both (rw q at h) refl

pub same_complete : (a : List ℕ) → same_bytes a a ≡ true
unfolding same_bytes
same_complete [] = refl
same_complete (x ∷ xs) = rw (eq-eqb x x refl) (same_complete xs)

pub same_true : {a b : List ℕ} → a ≡ b → same_bytes a b ≡ true
same_true {a} e = rw (← e) (same_complete a)

pub same_exactly : (a b : List ℕ) → (same_bytes a b ≡ true) ↔ (a ≡ b)
same_exactly a b = (same_sound a b, same_true)

pub same_false : (a b : List ℕ) → same_bytes a b ≡ false → a ≡ b → ⊥
same_false a b h e = not_both (same_true e) h

pub same_differ : (a b : List ℕ) → (a ≡ b → ⊥) → same_bytes a b ≡ false
same_differ a b d = test (same_bytes a b) refl
  where
    test : (t : Bool) → same_bytes a b ≡ t → same_bytes a b ≡ false
    test true q = absurd (d (same_sound a b q))
    test false q = q

-- what `==` answers of two slices is the test
pub same_is : (a b : List ℕ) → pointwise nat_eq a b ≡ same_bytes a b
unfolding same_bytes
same_is [] [] = refl
same_is [] (y ∷ ys) = refl
same_is (x ∷ xs) [] = refl
same_is (x ∷ xs) (y ∷ ys) = first (nat_eq x y) (same_is xs ys)
  where
    first : (t : Bool) → pointwise nat_eq xs ys ≡ same_bytes xs ys →
        (t && pointwise nat_eq xs ys) ≡ cond t (same_bytes xs ys) false
    first true rest = rest
    first false rest = refl
