-- Laws of the base: what the test tells, and what comes of a table by it.
use Prim.Native.Nat.{ℕ, ◌≤◌, ◌<◌}
use mathlib.Core.Path.{◌≡◌, refl, sym, ap, ◌∙◌}
use mathlib.Core.Bool.{Bool, true, false, cond}
use mathlib.Core.List.{List, ◌++◌}
use native.Mathlib.Omega.{arith}
use lib.ListN.{length, take, drop, length-append}
use lib.Seq.{take-append_seam, drop-append_seam}
use lib.Dec.{ltb}
use lib.IntN.{ℤ, pos, negsuc}
use borrow.Author.Tests.{lt-ltb, le-ltb, ltb-true, ltb-false}
use Rattle.std.specs.Prelude.{Option, Some, None}
use Rattle.table.specs.Base.{base_of, at_base, from_base}

-- ---- what the test tells

odd : {P : Type 0} {b : ℕ} → None ≡ Some b → P
odd e = let z : ◌≡◌ {A = ℕ} 0 1 = cc in absurd (omega arith)

pub base_at : (z : ℤ) (b len : ℕ) → base_of z len ≡ Some b → (z ≡ pos b) × (b ≤ len)
unfolding base_of
base_at (negsuc n) b len e = odd e
base_at (pos n) b len e = go (ltb len n) refl e
  where
    go : (t : Bool) → ltb len n ≡ t → cond t None (Some n) ≡ Some b → (pos n ≡ pos b) × (b ≤ len)
    go true l q = odd q
    go false l q = let same : n ≡ b = cc in (ap pos same, omega (arith, ltb-false len n l))

pub base_told : (z : ℤ) (b len : ℕ) {p : Option ℕ} → p ≡ base_of z len → p ≡ Some b → b ≤ len
base_told z b len e h = (base_at z b len (sym e ∙ h)).1

-- ---- what comes of a table

module _ {A : Type 0} (w : List ℕ) (refused : A) (comes : List ℕ → List ℕ → A) where
  pub from_negative : (b : ℕ) → from_base w (negsuc b) refused comes ≡ refused
  unfolding from_base base_of
  from_negative b = refl

  pub from_past : (b : ℕ) → length w < b → from_base w (pos b) refused comes ≡ refused
  unfolding from_base base_of
  from_past b h = simp (lt-ltb _ _ h)

  pub from_inside : (b : ℕ) → b ≤ length w → from_base w (pos b) refused comes ≡ comes (take b w) (drop b w)
  unfolding from_base base_of
  from_inside b h = simp (le-ltb _ _ h)

  -- by what the test answered
  module _ (base : ℤ) (p : Option ℕ) (e : p ≡ base_of base (length w)) where
    pub from_outside : p ≡ None → refused ≡ from_base w base refused comes
    unfolding from_base
    from_outside h = ap (at_base w refused comes) (sym h ∙ e)

    pub from_at : (b : ℕ) → p ≡ Some b → comes (take b w) (drop b w) ≡ from_base w base refused comes
    unfolding from_base
    from_at b h = ap (at_base w refused comes) (sym h ∙ e)

  -- what holds of a refusal and of what comes of our part holds, wherever the base is
  pub by_base : (P : ℤ → A → Type 0) → ((b : ℕ) → P (negsuc b) refused) → ((b : ℕ) → length w < b → P (pos b) refused)
      → ((b : ℕ) → b ≤ length w → P (pos b) (comes (take b w) (drop b w))) → (base : ℤ) → P base (from_base w base refused comes)
  unfolding from_base base_of
  by_base P negative past inside (negsuc b) = negative b
  by_base P negative past inside (pos b) = go (ltb (length w) b) refl
    where
      go : (t : Bool) → ltb (length w) b ≡ t → P (pos b) (at_base w refused comes (cond t None (Some b)))
      go true l = past b (ltb-true (length w) b l)
      go false l = inside b (ltb-false (length w) b l)

module _ {A : Type 0} (refused : A) where
  -- a base that is a part's end: what comes of that part and of what stands after it
  pub from_after : (before w : List ℕ) (comes : List ℕ → List ℕ → A)
      → from_base (before ++ w) (pos (length before)) refused comes ≡ comes before w
  from_after before w comes =
      from_inside (before ++ w) refused comes (length before) (simp length-append (omega arith))
      ∙ (rw (take-append_seam before w, drop-append_seam before w))

  -- what does not look at the words before the base is the same for two tables of one length and one part
  pub from_blind : (w v : List ℕ) (base : ℤ) (comes : List ℕ → A) → length w ≡ length v
      → ((b : ℕ) → base ≡ pos b → drop b w ≡ drop b v)
      → from_base w base refused (λ _ part. comes part) ≡ from_base v base refused (λ _ part. comes part)
  unfolding from_base
  from_blind w v base comes long same = rw long (go (base_of base (length v)) refl)
    where
      go : (p : Option ℕ) → base_of base (length v) ≡ p
          → at_base w refused (λ _ part. comes part) p ≡ at_base v refused (λ _ part. comes part) p
      go None e = refl
      go (Some b) e = ap comes (same b (base_at base b (length v) e).0)

-- what comes of a table goes through a function
pub from_through : {A B : Type 0} (g : A → B) (w : List ℕ) (base : ℤ) (refused : A) (comes : List ℕ → List ℕ → A) (refused' : B)
    (comes' : List ℕ → List ℕ → B) → refused' ≡ g refused
    → ((b : ℕ) → comes' (take b w) (drop b w) ≡ g (comes (take b w) (drop b w)))
    → from_base w base refused' comes' ≡ g (from_base w base refused comes)
unfolding from_base
from_through g w base refused comes refused' comes' e each = go (base_of base (length w))
  where
    go : (p : Option ℕ) → at_base w refused' comes' p ≡ g (at_base w refused comes p)
    go None = e
    go (Some b) = each b
