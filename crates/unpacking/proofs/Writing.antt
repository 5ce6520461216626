-- Laws of writing the records of a section: the number of them, and a turn of the loop that writes one.
use Prim.Native.Nat.{ℕ, ◌+◌, ◌*◌, ◌≤◌, ◌<◌}
use mathlib.Core.Path.{◌≡◌, refl, sym, ap, ◌∙◌}
use mathlib.Core.Bool.{true}
use mathlib.Core.List.{List, []}
use native.Mathlib.Omega.{arith}
use native.Mathlib.Numerals.{add-one}
use lib.ListN.{length, get_or, drop, drop_of_length-le}
use lib.Seq.{drop-cons}
use Rattle.table.specs.declared.slots.Slot.{Slot}
use Rattle.table.specs.Slots.{room, put_node}
use Rattle.table.proofs.SlotLaws.{room_long, length_put}
use Rattle.nodes.specs.Records.{NodeRecord as Record, nodes_of, count, shaped}
use Rattle.nodes.proofs.Children.{children_at}
use Rattle.nodes.proofs.Placing.{shaped_sized}
use Rattle.unpacking.specs.Written.{record_slot, record_node, written}
use Rattle.unpacking.specs.Ready.{RecordsReady, PlacedAt, slot_at, linked}
use Rattle.unpacking.proofs.Placements.{slot_is, slot_low, placed_at, node_linked}

-- the records of a section are as many as it says; n stands for the count, as the call answered it
pub count_is : (s : List ℕ) {n : ℕ} → n ≡ count s → shaped s ≡ true → n ≡ length (nodes_of s)
unfolding nodes_of
count_is s e h = rw (← e) (sym (shaped_sized s e h).all)

written_next : (all : List Record) (i : ℕ) → i < length all → (w : List ℕ) →
    written all i (drop i all) w ≡
    written all (i + 1) (drop (i + 1) all) (put_node w (record_slot all i).0 (record_node all (children_at all i)))
unfolding written
written_next all i l w = rw (drop-cons all i (record { hash = []; payload = [] }) l, ← add-one i)

written_end : (all : List Record) (i : ℕ) → length all ≤ i → (w : List ℕ) → written all i (drop i all) w ≡ w
unfolding written
written_end all i l w = rw (drop_of_length-le all {i = i} l)

-- the first i records are written in w, which was `old`
pub record Stored (rs : List Record) (old w : List ℕ) (i : ℕ) : Type 0 where
  pub below : i ≤ length rs
  pub long : length w ≡ length old
  pub rest : written rs i (drop i rs) w ≡ written rs 0 rs old

module _ (s : List ℕ) (old : List ℕ) where
  pub stored_start : Stored (nodes_of s) old old 0
  stored_start = record { below = omega arith; long = refl; rest = refl }

  module _ {w : List ℕ} {i : ℕ} (f : Stored (nodes_of s) old w i) where
    pub stored_end : length (nodes_of s) ≤ i → w ≡ written (nodes_of s) 0 (nodes_of s) old
    stored_end l = sym (written_end (nodes_of s) i l w) ∙ f.rest

    -- where some are left
    module _ {links slots : List ℕ} (h : RecordsReady s links slots) (l : i < length (nodes_of s)) where
      pub stored_fits : length (nodes_of s) ≤ room old → PlacedAt links slots i × (get_or slots i 0 ≤ room w)
      stored_fits m = (placed_at h i l, omega (arith, slot_low h.slotted i l, room_long old w f.long))

      pub stored_on : {v : List ℕ} →
          v ≡ put_node w (slot_at slots i).0 (linked slots (get_or links (2 * i) 0) (get_or links (2 * i + 1) 0)) →
          Stored (nodes_of s) old v (i + 1)
      stored_on e =
          rw (e, node_linked h i l, ap (λ (x : Slot). x.0) (slot_is h.slotted i))
          record {
            below = omega arith;
            long = length_put _ _ _ ∙ f.long;
            rest = sym (written_next (nodes_of s) i l w) ∙ f.rest;
          }
