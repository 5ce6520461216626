-- What the test of a size means.
use Prim.Native.Nat.{ℕ, ◌≤◌}
use mathlib.Core.Path.{◌≡◌, refl}
use mathlib.Core.Bool.{Bool, true, false, cond}
use mathlib.Core.Logic.{◌↔◌}
use native.Mathlib.Omega.{arith}
use borrow.Author.Tests.{le-leb, leb-true}
use lib.Dec.{leb}
use Rattle.sizes.specs.Sizes.{within}
use Rattle.sizes.specs.declared.Size.{Size}

pub within_exactly : (size : Size) (n : ℕ) → (within size n ≡ true) ↔ ((size.least ≤ n) × (n ≤ size.most))
unfolding within
within_exactly size n = (there (leb size.least n) refl, λ h. rw (le-leb _ _ h.0) (le-leb _ _ h.1))
  where
    there : (b : Bool) → leb size.least n ≡ b → cond b (leb n size.most) false ≡ true →
        (size.least ≤ n) × (n ≤ size.most)
    there true q h = (leb-true _ _ q, leb-true _ _ h)
    there false q h = let z : ◌≡◌ {A = ℕ} 0 1 = cc in absurd (omega arith)
