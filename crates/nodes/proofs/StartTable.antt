-- Laws of where records start: the table says it of each record of a section, and the records after it follow.
use Rattle.std.specs.Prelude.{Option, Some, None, IsSome}
use Rattle.lists.specs.Options.{on_some}
use Prim.Native.Nat.{ℕ, zero, suc, ◌+◌, ◌-◌, ◌≤◌, ◌<◌}
use mathlib.Core.Path.{◌≡◌, refl, sym, ap, ◌∙◌}
use mathlib.Core.Bool.{true}
use mathlib.Core.List.{List, [], ◌∷◌, ◌++◌}
use native.Mathlib.Nat.{sub-zero}
use native.Mathlib.Omega.{arith}
use lib.ListN.{length, take, drop, get_or, replicate, length-take, length-replicate}
use lib.Seq.{get_or-take, take_at}
use Rattle.wire.specs.Wire.{span}
use Rattle.nodes.specs.Records.{NodeRecord, record_end, record_at, records, count, nodes_of, shaped}
use Rattle.nodes.specs.Links.{Sized}
use Rattle.nodes.specs.Starts.{starts, Starts, nth_record}
use Rattle.nodes.proofs.Children.{record_next}
use Rattle.nodes.proofs.Walks.{record_in, records_on, records_past}
use Rattle.nodes.proofs.Placing.{shaped_sized}

module _ (s : List ℕ) where
  -- there are as many as records
  pub starts_length : (n p : ℕ) → length (starts s n p) ≡ length (records s n p)
  unfolding starts records
  starts_length zero p = refl
  starts_length (suc n) p = first (record_end s p) (starts_length n)
    where
      first : (x : Option ℕ) → ((q : ℕ) → length (starts s n q) ≡ length (records s n q)) →
          length (on_some x (λ q. p ∷ starts s n q) []) ≡ length (on_some x (λ q. record_at s p q ∷ records s n q) [])
      first (Some q) e = ap suc (e q)
      first None e = refl

  -- the records from record k on stand where it starts
  pub starts_at : (n p k : ℕ) → k < length (records s n p) →
      drop k (records s n p) ≡ records s (n - k) (get_or (starts s n p) k 0)
  unfolding records starts
  starts_at zero p k l = absurd (omega arith)
  starts_at (suc n) p k l = first (record_end s p) refl k l (starts_at n)
    where
      first : (x : Option ℕ) → x ≡ record_end s p → (k : ℕ) →
          k < length (on_some x (λ q. record_at s p q ∷ records s n q) []) →
          ((p k : ℕ) → k < length (records s n p) → drop k (records s n p) ≡ records s (n - k) (get_or (starts s n p) k 0)) →
          drop k (on_some x (λ q. record_at s p q ∷ records s n q) [])
          ≡ records s (suc n - k) (get_or (on_some x (λ q. p ∷ starts s n q) []) k 0)
      first (Some q) e zero l rest = rw (sub-zero, ← e)
      first (Some q) e (suc k) l rest = let m : suc n - suc k ≡ n - k = omega arith in rw m (rest q k (omega arith))
      first None e k l rest = absurd (omega arith)

-- a table of 512 words has a place for the start of each record
pub room_for_starts : (s : List ℕ) {n : ℕ} → n ≡ count s → shaped s ≡ true → Sized s n × (n ≤ length (replicate {A = ℕ} 512 0))
room_for_starts s e h =
    let size = shaped_sized s e h in
    (size, omega (arith, size.few, length-replicate {A = ℕ} 512 0))

-- the table that was filled in, of a section that has the shape
pub starts_filled : (s : List ℕ) {n : ℕ} → n ≡ count s → shaped s ≡ true → (out old : List ℕ) →
    out ≡ starts s n 8 ++ old → Starts s (count s) out
starts_filled s {n} e h out old f =
    let size = shaped_sized s e h in
    rw (← e)
    record { sized = size; starts_are = rw f (take_at (starts s n 8) old n (starts_length s n 8 ∙ size.all)) }

-- the table of a section's records
module _ {s table : List ℕ} (t : Starts s (count s) table) where
  pub starts_space : count s ≤ length table
  starts_space =
      let l : length (take (count s) table) ≡ count s = ap length t.starts_are ∙ starts_length s (count s) 8 ∙ t.sized.all in
      omega (arith, length-take (count s) table)

  pub nodes_counted : length (nodes_of s) ≡ count s
  unfolding nodes_of
  nodes_counted = t.sized.all

  -- record k
  module _ (k : ℕ) (l : k < count s) where
    from_start : drop k (nodes_of s) ≡ records s (count s - k) (get_or table k 0)
    unfolding nodes_of
    from_start =
        let word = sym (get_or-take (count s) table k 0 l) ∙ ap (λ (w : List ℕ). get_or w k 0) t.starts_are in
        starts_at s (count s) 8 k (omega (arith, t.sized.all)) ∙ ap (λ (p : ℕ). records s (count s - k) p) (sym word)

    node_first : drop k (nodes_of s) ≡ nth_record (nodes_of s) k ∷ drop (k + 1) (nodes_of s)
    node_first = record_next (nodes_of s) k (omega (arith, nodes_counted))

    -- x stands for its end, as the call answered it
    start_node : {x : Option ℕ} {q : ℕ} → x ≡ record_end s (get_or table k 0) → x ≡ Some q →
        nth_record (nodes_of s) k ≡ record_at s (get_or table k 0) q
    start_node e f = let z = sym node_first ∙ from_start ∙ records_on s (count s) k (get_or table k 0) l e f in cc

    pub start_payload : {x : Option ℕ} {q : ℕ} → x ≡ record_end s (get_or table k 0) → x ≡ Some q →
        span s (get_or table k 0 + 36) (q - (get_or table k 0 + 36)) ≡ (nth_record (nodes_of s) k).payload
    start_payload e f = sym (ap (λ (r : NodeRecord). r.payload) (start_node e f))

    start_past : {A : Type 0} → None ≡ record_end s (get_or table k 0) → A
    start_past e =
        let z = sym node_first ∙ from_start ∙ records_past s (count s) k (get_or table k 0) l e refl in
        absurd (omega (arith, ap length z))

    pub start_some : {x : Option ℕ} → x ≡ record_end s (get_or table k 0) → IsSome x
    start_some {x = Some q} e = refl
    start_some {x = None} e = start_past e

    -- its hash and the length of its payload are in s
    pub start_in_lem : get_or table k 0 + 36 ≤ length s
    start_in_lem = ended (record_end s (get_or table k 0)) refl
      where
        ended : (x : Option ℕ) → x ≡ record_end s (get_or table k 0) → get_or table k 0 + 36 ≤ length s
        ended (Some q) e = omega (arith, record_in s (get_or table k 0) e refl)
        ended None e = start_past e

    pub start_hash : (nth_record (nodes_of s) k).hash ≡ span s (get_or table k 0) 32
    start_hash = ended (record_end s (get_or table k 0)) refl
      where
        ended : (x : Option ℕ) → x ≡ record_end s (get_or table k 0) → (nth_record (nodes_of s) k).hash ≡ span s (get_or table k 0) 32
        ended (Some q) e = ap (λ (r : NodeRecord). r.hash) (start_node e refl)
        ended None e = start_past e
