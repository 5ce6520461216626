-- What is known of a signed argument: its bits, what its test against 0 tells, and its casts.
use Prim.Native.Nat.{ℕ}
use mathlib.Core.Path.{◌≡◌, refl, subst}
use mathlib.Core.Bool.{Bool, false}
use native.Mathlib.Omega.{arith}
use lib.IntN.{ℤ, pos, negsuc, nat_abs}
use lib.Signed.{lt_z, non_neg}
use lib.Dec.{T}
use mir.Syntax.{w32, w64}
use mir.Val.{Fits, SFits, to_z, of_z}
use mir.ValLaws.{to_z-of_z}

plain : (z : ℤ) → lt_z z (pos 0) ≡ false → z ≡ pos (nat_abs z)
plain (pos n) e = refl
plain (negsuc n) e = absurd (subst (λ (b : Bool). T b) e tt)

natural_fits : (z : ℤ) → SFits w32 z → z ≡ pos (nat_abs z) → T (non_neg z) × Fits w64 (nat_abs z)
natural_fits (pos n) f e = (tt, record { fits = omega (arith, f.sfits) })
natural_fits (negsuc n) f e = absurd (let z : ◌≡◌ {A = ℕ} 0 1 = cc in omega arith)

module _ (z : ℤ) (f : SFits w32 z) where
  -- a signed argument of a call is read back from its bits
  pub as_passed : to_z w32 (of_z w32 z) ≡ z
  as_passed = to_z-of_z w32 z f

  -- a number that is not negative may be cast to usize
  pub cast_natural : z ≡ pos (nat_abs z) → T (non_neg (to_z w32 (of_z w32 z))) × Fits w64 (nat_abs (to_z w32 (of_z w32 z)))
  cast_natural e = rw as_passed (natural_fits z f e)

  module _ (e : lt_z (to_z w32 (of_z w32 z)) (pos 0) ≡ false) where
    -- a number that the test `z < 0` passes over is its own cast
    pub not_below : z ≡ pos (nat_abs (to_z w32 (of_z w32 z)))
    not_below = rw as_passed (plain z (rw as_passed at e))

    -- and may be cast to usize
    pub cast_64 : T (non_neg (to_z w32 (of_z w32 z))) × Fits w64 (nat_abs (to_z w32 (of_z w32 z)))
    cast_64 = cast_natural (plain z (rw as_passed at e))
