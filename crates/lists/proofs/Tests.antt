-- What tests mean: of numbers, the opposite, one of two, and one that is asked only where another holds or does not.
use Prim.Native.Nat.{ℕ, ◌≤◌}
use mathlib.Core.Path.{◌≡◌, refl}
use mathlib.Core.Bool.{Bool, true, false, not, cond}
use mathlib.Core.Logic.{◌↔◌}
use borrow.Author.Tests.{ltb-false, le-ltb, eqb-true, eq-eqb, not-false}
use lib.Dec.{ltb, eqb}
use Rattle.lists.proofs.Same.{not_both}

pub below_exactly : (a b : ℕ) → (ltb a b ≡ false) ↔ (b ≤ a)
below_exactly a b = (ltb-false a b, le-ltb a b)

pub equal_exactly : (a b : ℕ) → (eqb a b ≡ true) ↔ (a ≡ b)
equal_exactly a b = (eqb-true a b, eq-eqb a b)

pub not_exactly : {A : Type 0} (t : Bool) → (t ≡ true) ↔ A → (not t ≡ false) ↔ A
not_exactly t f = (λ e. f.0 (not-false t e), λ a. rw (f.1 a))

-- the choice between true and false by a test is the test
pub cond_test : (b : Bool) → cond b true false ≡ b
cond_test true = refl
cond_test false = refl

-- neither of two tests holds
pub either_false : (a b : Bool) → (cond a true b ≡ false) ↔ ((a ≡ false) × (b ≡ false))
either_false true b = (λ e. not_both refl e, λ h. h.0)
either_false false b = (λ e. (refl, e), λ h. h.1)

-- t is asked only where b holds, or only where it does not
module _ {A : Type 0} (t : Bool) (means : (t ≡ false) ↔ A) where
  pub where_exactly : (b : Bool) → (cond b t false ≡ false) ↔ (b ≡ true → A)
  where_exactly true = (λ e q. means.0 e, λ h. means.1 (h refl))
  where_exactly false = (λ e q. not_both q refl, λ h. refl)

  pub unless_exactly : (b : Bool) → (cond b false t ≡ false) ↔ (b ≡ false → A)
  unless_exactly true = (λ e q. not_both refl q, λ h. refl)
  unless_exactly false = (λ e q. means.0 e, λ h. means.1 (h refl))
