-- Among more than n numbers below n two are equal.
use Prim.Native.Nat.{ℕ, zero, suc, ◌≤◌, ◌<◌}
use mathlib.Core.Path.{◌≡◌, refl, sym, ap, ◌∙◌}
use mathlib.Core.Bool.{Bool, true, false, cond}
use mathlib.Core.Logic.{◌⊎◌, inl, inr}
use native.Mathlib.Omega.{arith}
use native.Mathlib.Decide.{dec_lt, ℕ_discrete}
use lib.Dec.{eqb}
use borrow.Author.Tests.{eqb-true, eqb-false}

-- f has one value at two numbers up to m
pub record Twice (f : ℕ → ℕ) (m : ℕ) : Type 0 where
  pub a : ℕ
  pub b : ℕ
  pub earlier : a < b
  pub last : b ≤ m
  pub same : f a ≡ f b

-- f has the value v below m, or has it nowhere below m
abbrev Seen : (ℕ → ℕ) → ℕ → ℕ → Type 0
Seen f v m = ((a : ℕ) × (a < m) × (f a ≡ v)) ⊎ ((a : ℕ) → a < m → f a ≡ v → ⊥)

seek : (f : ℕ → ℕ) (v m : ℕ) → Seen f v m
seek f v zero = inr (λ a l e. absurd (omega arith))
seek f v (suc m) = go (ℕ_discrete (f m) v) (seek f v m)
  where
    go : Dec (f m ≡ v) → Seen f v m → Seen f v (suc m)
    go (yes e) s = inl (m, omega arith, e)
    go (no g) (inl h) = inl (h.0, omega arith, h.2)
    go (no g) (inr h) =
        inr (λ a l e. elim (dec_lt a m) [ yes k ↦ h a k e | no k ↦ let q : a ≡ m = omega arith in g (ap f (sym q) ∙ e) ])

-- where the last value of f stands nowhere before, it can take the place of n, and then all are below n
module _ (f : ℕ → ℕ) (n : ℕ) (h : (k : ℕ) → k ≤ suc n → f k < suc n)
    (none : (a : ℕ) → a < suc n → f a ≡ f (suc n) → ⊥) where
  abbrev swap : ℕ → ℕ
  swap k = cond (eqb (f k) n) (f (suc n)) (f k)

  swap_bound : (k : ℕ) → k ≤ n → swap k < n
  swap_bound k l = go (eqb (f k) n) refl
    where
      go : (b : Bool) → eqb (f k) n ≡ b → cond b (f (suc n)) (f k) < n
      go true q =
          let e : f k ≡ n = eqb-true _ _ q in
          let d : f (suc n) ≡ n → ⊥ = λ z. none k (omega arith) (e ∙ sym z) in
          omega (arith, h (suc n) (omega arith))
      go false q = omega (arith, eqb-false (f k) n q, h k (omega arith))

  swap_back : Twice swap n → Twice f (suc n)
  swap_back t =
      record {
        a = t.a;
        b = t.b;
        earlier = t.earlier;
        last = omega arith;
        same = go (eqb (f t.a) n) refl (eqb (f t.b) n) refl t.same;
      }
    where
      go : (x : Bool) → eqb (f t.a) n ≡ x → (y : Bool) → eqb (f t.b) n ≡ y →
          cond x (f (suc n)) (f t.a) ≡ cond y (f (suc n)) (f t.b) → f t.a ≡ f t.b
      go true q true r e = eqb-true _ _ q ∙ sym (eqb-true _ _ r)
      go true q false r e = absurd (none t.b (omega arith) (sym e))
      go false q true r e = absurd (none t.a (omega arith) e)
      go false q false r e = e

pub pigeon : (n : ℕ) (f : ℕ → ℕ) → ((k : ℕ) → k ≤ n → f k < n) → Twice f n
pigeon zero f h = absurd (omega (arith, h 0 (omega arith)))
pigeon (suc n) f h =
    go (seek f (f (suc n)) (suc n)) (λ none. pigeon n (swap f n h none) (swap_bound f n h none))
  where
    go : Seen f (f (suc n)) (suc n) →
        ((none : (a : ℕ) → a < suc n → f a ≡ f (suc n) → ⊥) → Twice (swap f n h none) n) → Twice f (suc n)
    go (inl s) ih = record { a = s.0; b = suc n; earlier = s.1; last = omega arith; same = s.2 }
    go (inr none) ih = swap_back f n h none (ih none)
