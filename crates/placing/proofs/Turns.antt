-- The search for the earliest by the numbers in turn, and placing one step on.
use Rattle.std.specs.Prelude.{Option, Some, None}
use Prim.Native.Nat.{ℕ, zero, suc, ◌+◌, ◌-◌, ◌≤◌, ◌<◌}
use mathlib.Core.Path.{◌≡◌, refl, sym, ap, ◌∙◌}
use mathlib.Core.Bool.{cond}
use mathlib.Core.List.{List}
use native.Mathlib.Omega.{arith}
use Rattle.std.specs.List.{find, range_with_len}
use Rattle.std.specs.Option.{option_map}
use Rattle.std.proofs.lemmas.Iterator.Adapters.{option_map_id}
use Rattle.placing.specs.Placing.{ready, earliest, Placed, put, placing}

-- the search goes over the numbers of the records in turn
earliest_found : (L S : List ℕ) (n i : ℕ) → find (ready L S) (range_with_len i n) ≡ earliest L S n i
unfolding earliest
earliest_found L S zero i = refl
earliest_found L S (suc n) i = ap (cond (ready L S i) (Some i)) (earliest_found L S n (i + 1))

pub earliest_from : (L S : List ℕ) (n : ℕ) (r : Option ℕ) → option_map (λ i. i) r ≡ find (ready L S) (range_with_len 0 n) →
    r ≡ earliest L S n 0
earliest_from L S n r e = sym (option_map_id r) ∙ e ∙ earliest_found L S n 0

-- with k of n records placed
module _ (L S : List ℕ) (n k : ℕ) where
  abbrev at : Placed
  at = record { slots = S; count = k }

  module _ {r : Option ℕ} (e : r ≡ earliest L S n 0) where
    pub place_next : {i : ℕ} → r ≡ Some i → k < n → placing (n - k) L n at ≡ placing (n - (k + 1)) L n (put at i)
    unfolding placing
    place_next f l = let m : n - k ≡ suc (n - (k + 1)) = omega arith in rw (m, ← e, f)

    pub place_stuck : r ≡ None → k < n → placing (n - k) L n at ≡ at
    unfolding placing
    place_stuck f l = let m : n - k ≡ suc (n - (k + 1)) = omega arith in rw (m, ← e, f)

  pub place_last : n ≤ k → k ≤ n → placing (n - k) L n at ≡ record { slots = S; count = n }
  unfolding placing
  place_last l m = let e : k ≡ n = omega arith in let z : n - n ≡ 0 = omega arith in rw (e, z)
