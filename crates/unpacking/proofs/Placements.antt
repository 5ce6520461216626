-- Where all records are placed: each has its slot, its children have lower ones, and its node is that of its links.
use Rattle.std.specs.Prelude.{Option, Some, None}
use Prim.Native.Nat.{ℕ, suc, ◌+◌, ◌*◌, ◌≤◌, ◌<◌}
use mathlib.Core.Path.{◌≡◌, refl, sym, ap, ◌∙◌}
use mathlib.Core.List.{List}
use native.Mathlib.Omega.{arith}
use native.Mathlib.Numerals.{add-one}
use lib.ListN.{length, get_or}
use lib.Seq.{get_or-take}
use borrow.Author.Tests.{ltb-false}
use Rattle.lists.specs.Lists.{index_of}
use Rattle.lists.specs.Among.{Among, here, there}
use Rattle.lists.proofs.Index.{index_is, index_none}
use Rattle.table.specs.declared.slots.Slot.{Slot}
use Rattle.table.specs.Slots.{slot}
use Rattle.placing.specs.Circles.{ChildLink as Linked, first, second}
use Rattle.nodes.specs.Records.{NodeRecord as Record, nodes_of, hashes}
use Rattle.nodes.specs.Links.{link_to, link_of, first_link, second_link, links_of, placed_of, circular}
use Rattle.nodes.proofs.Children.{children_at, hashes_length, record_at_lem, links_first, links_second}
use Rattle.nodes.proofs.Children.{Kids, none, one, two, kids_view}
use Rattle.nodes.proofs.Slots.{slots_laid, slot_some, slot_most, slot_lower}
use Rattle.nodes.proofs.FaultTests.{there_exactly}
use Rattle.unpacking.specs.Written.{record_slot, slot_named, record_node}
use Rattle.unpacking.specs.Ready.{Slotted, RecordsReady, PlacedAt, slot_at, linked}

module _ {rs : List Record} {slots : List ℕ} (h : Slotted rs slots) where
  all : length rs ≤ (placed_of rs).count
  unfolding circular
  all = ltb-false _ _ h.whole

  -- each record is placed, in a slot below their number
  pub slot_there : (i : ℕ) → i < length rs → (i < length slots) × (0 < get_or slots i 0)
  slot_there i l =
      rw h.slots_are (omega (arith, (slots_laid rs h.few).long), slot_some rs h.few all i l)

  pub slot_low : (i : ℕ) → i < length rs → get_or slots i 0 ≤ length rs
  slot_low i l = rw h.slots_are (slot_most rs h.few all i l)

  child_lower : (i j : ℕ) → i < length rs → Linked (links_of rs) i j →
      (j < length slots) × (0 < get_or slots j 0) × (get_or slots j 0 < get_or slots i 0)
  child_lower i j l c =
      let (m, lower) = slot_lower rs h.few all i j l c in
      let (a, b) = slot_there j m in
      (a, b, rw h.slots_are lower)

  pub slot_is : (i : ℕ) → slot_at slots i ≡ record_slot rs i
  unfolding record_slot
  slot_is i = rw h.slots_are

  -- the slot of the record with a hash; f and x stand for what the calls found
  module _ (t : List ℕ) {f : Option ℕ} (e : f ≡ index_of t 0 (hashes rs)) where
    pub named_there : {i : ℕ} → f ≡ Some i → (i < length slots) × (0 < get_or slots i 0)
    named_there {i} g =
        slot_there i (omega (arith, (index_is t 0 (hashes rs) i (sym e ∙ g)).1, hashes_length rs))

    pub named_found : {i : ℕ} → f ≡ Some i → {x : Slot} → x ≡ slot_at slots i → x ≡ slot_named rs t
    unfolding slot_named
    named_found {i} g k = k ∙ slot_is i ∙ rw (← e, g)

    pub named_lost : f ≡ None → slot 0 ≡ slot_named rs t
    unfolding slot_named
    named_lost g = rw (← e, g)

  -- a hash that has a record: its link is that record's number plus one
  named : (t : List ℕ) → Among t (hashes rs) → (j : ℕ) × (link_of rs t ≡ suc j) × (slot_at slots j ≡ slot_named rs t)
  unfolding link_of
  named t a = told (index_of t 0 (hashes rs)) refl
    where
      told : (f : Option ℕ) → index_of t 0 (hashes rs) ≡ f →
          (j : ℕ) × (link_to (index_of t 0 (hashes rs)) ≡ suc j) × (slot_at slots j ≡ slot_named rs t)
      told (Some j) e = (j, ap link_to e ∙ add-one j, named_found t (sym e) refl refl)
      told None e = absurd (index_none t 0 (hashes rs) e a)

  -- the node of the links of some children is the node of the children
  node_named : {cs : List (List ℕ)} → Kids cs → ((t : List ℕ) → Among t cs → Among t (hashes rs)) →
      linked slots (first_link rs cs) (second_link rs cs) ≡ record_node rs cs
  unfolding linked record_node first_link second_link
  node_named none there-all = refl
  node_named (one {a = a}) there-all =
      let (j, e, f) = named a (there-all a here) in rw (e, f)
  node_named (two {a = a} {b = b}) there-all =
      let (j, e, f) = named a (there-all a here) in
      let (k, g, q) = named b (there-all b (there here)) in
      rw (e, g, f, q)

-- the same by the tables that are lent
module _ {s links slots : List ℕ} (h : RecordsReady s links slots) where
  abbrev rs : List Record
  rs = nodes_of s

  link_same : (k : ℕ) → k < 2 * length rs → get_or links k 0 ≡ get_or (links_of rs) k 0
  link_same k l = sym (get_or-take (2 * length rs) links k 0 l) ∙ ap (λ (ls : List ℕ). get_or ls k 0) h.links_are

  module _ (i : ℕ) (l : i < length rs) where
    linked_same : (j : ℕ) → Linked links i j → Linked (links_of rs) i j
    linked_same j (first e) = first (sym (link_same (2 * i) (omega arith)) ∙ e)
    linked_same j (second e) = second (sym (link_same (2 * i + 1) (omega arith)) ∙ e)

    pub placed_at : PlacedAt links slots i
    placed_at =
        let (a, b) = slot_there h.slotted i l in
        record {
          linked = omega (arith, h.space);
          here = a;
          placed = b;
          lower = λ j c. child_lower h.slotted i j l (linked_same j c);
        }

    pub node_linked : linked slots (get_or links (2 * i) 0) (get_or links (2 * i + 1) 0) ≡ record_node rs (children_at rs i)
    node_linked =
        rw (
          link_same (2 * i) (omega arith),
          link_same (2 * i + 1) (omega arith),
          links_first rs rs i l,
          links_second rs rs i l,
        )
        (node_named h.slotted (kids_view _) ((there_exactly rs rs).0 h.closed _ (record_at_lem rs i l)))
