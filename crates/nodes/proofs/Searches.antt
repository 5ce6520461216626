-- Laws of a search for a record by its hash: by the numbers of the records, and by a walk over them.
use Rattle.std.specs.Prelude.{Option, Some, None, is_some}
use Rattle.std.specs.List.{find, range_with_len}
use Rattle.std.specs.Option.{option_map}
use Rattle.std.proofs.lemmas.Iterator.Adapters.{option_map_id}
use Prim.Native.Nat.{ℕ, zero, suc, ◌+◌, ◌-◌, ◌≤◌, ◌<◌}
use mathlib.Core.Path.{◌≡◌, refl, sym, ap, ◌∙◌}
use mathlib.Core.List.{List, [], ◌∷◌}
use mathlib.Core.Bool.{Bool, true, false, cond}
use native.Mathlib.Omega.{arith}
use lib.ListN.{length, drop, drop_of_length-le}
use Rattle.wire.specs.Wire.{span}
use Rattle.lists.specs.Lists.{same_bytes, index_of}
use Rattle.nodes.specs.Records.{NodeRecord, record_end, records, hashes}
use Rattle.nodes.specs.Starts.{nth_record}
use Rattle.nodes.proofs.Children.{record_next}
use Rattle.nodes.proofs.Walks.{records_on, records_past}

-- whether something is found, however it is counted
pub found_counted : (t : List ℕ) (i j : ℕ) (xs : List (List ℕ)) → is_some (index_of t i xs) ≡ is_some (index_of t j xs)
unfolding index_of
found_counted t i j [] = refl
found_counted t i j (x ∷ xs) = first (same_bytes x t) refl (found_counted t (i + 1) (j + 1) xs)
  where
    first : (b : Bool) → same_bytes x t ≡ b → is_some (index_of t (i + 1) xs) ≡ is_some (index_of t (j + 1) xs) →
        is_some (index_of t i (x ∷ xs)) ≡ is_some (index_of t j (x ∷ xs))
    first true q e = rw q
    first false q e = rw q e

-- by the numbers, from record i on
abbrev pub has_hash : List NodeRecord → List ℕ → ℕ → Bool
has_hash rs h k = same_bytes (nth_record rs k).hash h

found_from : (rs : List NodeRecord) (h : List ℕ) (n i : ℕ) → n ≡ length rs - i →
    find (has_hash rs h) (range_with_len i n) ≡ index_of h i (hashes (drop i rs))
unfolding index_of hashes
found_from rs h zero i e = rw (drop_of_length-le rs {i = i} (omega arith))
found_from rs h (suc n) i e =
    rw (record_next rs i (omega arith))
    (ap (cond (has_hash rs h i) (Some i)) (found_from rs h n (i + 1) (omega arith)))

pub search_from : (rs : List NodeRecord) (h : List ℕ) (n i : ℕ) (r : Option ℕ) → n ≡ length rs - i →
    option_map (λ k. k) r ≡ find (has_hash rs h) (range_with_len i n) → r ≡ index_of h i (hashes (drop i rs))
search_from rs h n i r e f = sym (option_map_id r) ∙ f ∙ found_from rs h n i e

-- by a walk, where k of n are passed and the next one stands at p; x stands for its end, as the call answered it
module _ (s h : List ℕ) (n k p : ℕ) (l : k < n) {x : Option ℕ} (e : x ≡ record_end s p) where
  pub find_past : x ≡ None → index_of h k (hashes (records s (n - k) p)) ≡ None
  unfolding index_of hashes
  find_past f = rw (records_past s n k p l e f)

  -- w is the record's hash, and t whether it is the one
  module _ {q : ℕ} (f : x ≡ Some q) {w : List ℕ} (ew : w ≡ span s p 32) {t : Bool} (et : t ≡ same_bytes w h) where
    pub find_hit : t ≡ true → index_of h k (hashes (records s (n - k) p)) ≡ Some k
    unfolding index_of hashes
    find_hit g = rw (records_on s n k p l e f, ← ew, ← et, g)

    pub find_on : t ≡ false → index_of h k (hashes (records s (n - k) p)) ≡ index_of h (k + 1) (hashes (records s (n - (k + 1)) q))
    unfolding index_of hashes
    find_on g = rw (records_on s n k p l e f, ← ew, ← et, g)

pub find_none : (s h : List ℕ) (n k p : ℕ) → n ≤ k → index_of h k (hashes (records s (n - k) p)) ≡ None
unfolding index_of hashes records
find_none s h n k p l = let z : n - k ≡ 0 = omega arith in rw z
