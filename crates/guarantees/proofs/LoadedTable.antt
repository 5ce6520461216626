-- What the slots hold once all records are written: each the tree that its record's hash names.
use Rattle.std.specs.Prelude.{Option, Some, None}
use Prim.Native.Nat.{ℕ, suc, ◌+◌, ◌-◌, ◌≤◌, ◌<◌}
use mathlib.Core.Path.{◌≡◌, refl, sym, ap, ◌∙◌, subst}
use mathlib.Core.List.{List, [], ◌∷◌}
use native.Mathlib.Omega.{arith}
use native.Mathlib.Nat.{zero-add}
use lib.ListN.{length, get_or}
use Rattle.lists.specs.Lists.{index_of}
use Rattle.lists.specs.Among.{Among, here, there, Distinct}
use Rattle.lists.proofs.Index.{index_none}
use Rattle.sizes.specs.Sizes.{nodes_size}
use Rattle.calculus.specs.Tree.{Tree}
use Rattle.table.specs.declared.slots.Slot.{Slot}
use Rattle.table.specs.declared.slots.Node.TheVariants.{Leaf}
use Rattle.table.specs.Slots.{room, Below}
use Rattle.table.specs.Sound.{SoundSlots}
use Rattle.table.specs.Holds.{Holds, holds_leaf, holds_stem, holds_fork, HoldsFrom, Untouched}
use Rattle.table.proofs.SlotLaws.{Has, room_long}
use Rattle.table.proofs.SoundLaws.{node_sound}
use Rattle.table.proofs.HoldsLaws.{zero_leaf}
use Rattle.nodes.specs.Records.{NodeRecord as Record, children, hashes}
use Rattle.nodes.specs.Links.{link_to, link_of, placed_of}
use Rattle.nodes.proofs.Children.{at, hash_at, children_at, number_of, record_at_lem, Kids, none, one, two, kids_view, link_hash, child_link, one_number}
use Rattle.nodes.proofs.Slots.{slot_some, slot_most, slot_single, slot_onto, slot_lower}
use Rattle.soundness.specs.Graph.{Names, names_leaf, names_stem, names_fork}
use Rattle.soundness.specs.NodesGrammar.{IsPayload, IsNodes}
use Rattle.soundness.specs.NodesMeaning.{Closed}
use Rattle.soundness.proofs.NodesHashes.{payload_children, payload_at, few_nodes}
use Rattle.unpacking.specs.Written.{record_slot, slot_found, slot_named, record_node, written}
use Rattle.guarantees.specs.Session.{Holding}
use Rattle.guarantees.specs.Order.{TreesOf, none as no-trees, more as more-trees}
use Rattle.guarantees.proofs.PlacingOrder.{hash_among, order, order_long, at_slot}
use Rattle.guarantees.proofs.WrittenSlots.{written_long, written_over, written_each}

module _ (rs : List Record) {s : List ℕ} (are : IsNodes rs s) (apart : Distinct (hashes rs)) (closed : Closed rs)
    (whole : length rs ≤ (placed_of rs).count) where
  few : length rs ≤ nodes_size.most
  few = few_nodes are

  -- ---- the slots of records

  slot_below : (i : ℕ) → i < length rs → (record_slot rs i).0 < length rs
  unfolding record_slot
  slot_below i l = omega (arith, slot_some rs few whole i l, slot_most rs few whole i l)

  slot_apart : (i j : ℕ) → i < length rs → j < length rs → (record_slot rs i).0 ≡ (record_slot rs j).0 → i ≡ j
  unfolding record_slot
  slot_apart i j l m e =
      slot_single rs few whole i j l m (omega (arith, slot_some rs few whole i l, slot_some rs few whole j m))

  -- the record with a hash has the slot that the hash names
  pub named_slot_lem : (h : List ℕ) (i : ℕ) → i < length rs → hash_at rs i ≡ h → slot_named rs h ≡ record_slot rs i
  unfolding slot_named link_of
  named_slot_lem h i l e = told (index_of h 0 (hashes rs)) refl
    where
      told : (f : Option ℕ) → index_of h 0 (hashes rs) ≡ f → slot_found rs f ≡ record_slot rs i
      told (Some k) q =
          let (m, g) = link_hash rs h k (ap link_to q) in
          ap (record_slot rs) (one_number rs apart k i m l (g ∙ sym e))
      told None q =
          absurd (index_none h 0 (hashes rs) q (subst (λ (x : List ℕ). Among x (hashes rs)) e (hash_among (record_at_lem rs i l))))

  -- slot k is that of the k-th placed record
  pub order_slot : (k : ℕ) → k < length rs → (slot_named rs (hash_at (order rs are apart closed whole) k)).0 ≡ k
  unfolding record_slot
  order_slot k l =
      let (i, m, e) = slot_onto rs few whole k l in
      let z : get_or (placed_of rs).slots i 0 - 1 ≡ k = omega arith in
      let o : at (order rs are apart closed whole) k ≡ at rs i = rw z at (at_slot rs are apart closed whole i m) in
      subst (λ (r : Record). (slot_named rs r.hash).0 ≡ k) (sym o)
      (ap (λ (s : Slot). s.0) (named_slot_lem (hash_at rs i) i m refl) ∙ z)

  -- and the record of a hash is placed there
  pub slot_order : (h : List ℕ) (i : ℕ) → i < length rs → hash_at rs i ≡ h →
      hash_at (order rs are apart closed whole) (slot_named rs h).0 ≡ h
  unfolding record_slot
  slot_order h i l e =
      rw (named_slot_lem h i l e) (ap (λ (r : Record). r.hash) (at_slot rs are apart closed whole i l) ∙ e)

  -- ---- the written table

  module _ (w : List ℕ) (fits : length rs ≤ room w) where
    abbrev v : List ℕ
    v = written rs 0 rs w

    each_has : (i : ℕ) → i < length rs → Has v (record_slot rs i).0 (record_node rs (children_at rs i))
    each_has i l =
        subst (λ (x : ℕ). Has v (record_slot rs x).0 (record_node rs (children_at rs i))) (zero-add i)
        (written_each rs 0 rs w
        (λ j k m n e. slot_apart j k m n (rw (zero-add j, zero-add k) at e))
        (λ j m. rw (zero-add j) (omega (arith, slot_below j m)))
        i l)

    -- the slot of a hash holds the tree that the hash names
    pub named_holds : {h : List ℕ} {t : Tree} → Names rs h t → Holds v (length rs) (slot_named rs h).0 t
    unfolding record_node
    named_holds {h} (names_leaf a e k) =
        let (i, l, f) = number_of a in
        let c : children_at rs i ≡ [] = ap children f ∙ payload_children k in
        rw (named_slot_lem h i l (ap (λ (q : Record). q.hash) f ∙ e))
        (holds_leaf {i = (record_slot rs i).0} (slot_below i l) (rw c at (each_has i l)))
    named_holds {h} (names_stem {a = x} a e k n) =
        let (i, l, f) = number_of a in
        let c : children_at rs i ≡ x ∷ [] = ap children f ∙ payload_children k in
        rw (named_slot_lem h i l (ap (λ (q : Record). q.hash) f ∙ e))
        (holds_stem {i = (record_slot rs i).0} {a = (slot_named rs x).0} (slot_below i l) (rw c at (each_has i l)) (named_holds n))
    named_holds {h} (names_fork {a = x} {b = y} a e k n m) =
        let (i, l, f) = number_of a in
        let c : children_at rs i ≡ x ∷ y ∷ [] = ap children f ∙ payload_children k in
        rw (named_slot_lem h i l (ap (λ (q : Record). q.hash) f ∙ e))
        (holds_fork {i = (record_slot rs i).0} {a = (slot_named rs x).0} {b = (slot_named rs y).0} (slot_below i l)
        (rw c at (each_has i l)) (named_holds n) (named_holds m))

    -- the slots from 0 on hold the trees of the order
    trees_from : (ps : List Record) (ts : List Tree) (k : ℕ) → TreesOf rs ps ts →
        ((j : ℕ) → j < length ps → (slot_named rs (hash_at ps j)).0 ≡ k + j) → HoldsFrom v (length rs) k ts
    trees_from _ _ k no-trees slots = tt
    trees_from (p ∷ ps) (t ∷ ts) k (more-trees n later) slots =
        let s : (slot_named rs p.hash).0 ≡ k = slots 0 (omega arith) ∙ (let z : k + 0 ≡ k = omega arith in z) in (
          rw s at (named_holds n),
          trees_from ps ts (suc k) later
              (λ j l. slots (suc j) (omega arith) ∙ (let z : k + suc j ≡ suc k + j = omega arith in z)),
        )

    pub written_untouched : Untouched w 0 v (length rs)
    written_untouched =
        record {
          long = written_long rs 0 rs w;
          under = λ k l. absurd (omega arith);
          over = λ k l. written_over rs (length rs) 0 rs w k (λ j m. rw (zero-add j) (slot_below j m)) l;
        }

    -- ---- soundness of the used slots

    child_below : (i : ℕ) → i < length rs → {h : List ℕ} → Among h (children_at rs i) → (slot_named rs h).0 < (record_slot rs i).0
    unfolding record_slot
    child_below i l {h} a =
        let (j, m, e, c) = child_link rs i l a (closed _ _ (record_at_lem rs i l) (payload_at are i l) h a) in
        rw (named_slot_lem h j m e) (omega (arith, slot_some rs few whole j m, (slot_lower rs few whole i j l c).1))

    node_below : (i : ℕ) → i < length rs → Below (record_slot rs i).0 (record_node rs (children_at rs i))
    unfolding record_node
    node_below i l = go (children_at rs i) refl (kids_view _)
      where
        go : (cs : List (List ℕ)) → children_at rs i ≡ cs → Kids cs → Below (record_slot rs i).0 (record_node rs cs)
        go [] e none = tt
        go (a ∷ []) e one = child_below i l {h = a} (rw e here)
        go (a ∷ b ∷ []) e two = (child_below i l {h = a} (rw e here), child_below i l {h = b} (rw e (there here)))
        go (a ∷ (b ∷ (_ ∷ _))) e x8 = elim x8 [ ]

    leaf_childless : (cs : List (List ℕ)) → Kids cs → record_node rs cs ≡ Leaf → cs ≡ []
    unfolding record_node
    leaf_childless [] none e = refl
    leaf_childless (a ∷ []) one e = let z : ◌≡◌ {A = ℕ} 0 1 = cc in absurd (omega arith)
    leaf_childless (a ∷ b ∷ []) two e = let z : ◌≡◌ {A = ℕ} 0 1 = cc in absurd (omega arith)
    leaf_childless (a ∷ (b ∷ (_ ∷ _))) x8 e = elim x8 [ ]

    module _ (one_leaf : (r q : Record) → Among r rs → Among q rs → IsPayload [] r.payload → IsPayload [] q.payload →
        r ≡ q) (some : 0 < length rs) where
      -- a record with no children is in slot 0, since the one in slot 0 has none
      leaf_zero : (i : ℕ) → i < length rs → children_at rs i ≡ [] → (record_slot rs i).0 ≡ 0
      unfolding record_slot
      leaf_zero i l e =
          let (j, m, f) = slot_onto rs few whole 0 some in
          let z : (record_slot rs j).0 ≡ 0 = omega arith in
          let c : children_at rs j ≡ [] = first_childless j m z (children_at rs j) refl (kids_view _) in
          let same : at rs i ≡ at rs j =
          one_leaf (at rs i) (at rs j) (record_at_lem rs i l) (record_at_lem rs j m) (rw e at (payload_at are i l))
          (rw c at (payload_at are j m)) in
          let q : i ≡ j = one_number rs apart i j l m (ap (λ (r : Record). r.hash) same) in
          rw q z
        where
          first_childless : (j : ℕ) → j < length rs → (record_slot rs j).0 ≡ 0 → (cs : List (List ℕ)) → children_at rs j ≡ cs →
              Kids cs → children_at rs j ≡ []
          first_childless j m z [] g none = g
          first_childless j m z (a ∷ []) g one = absurd (omega (arith, child_below j m {h = a} (rw g here)))
          first_childless j m z (a ∷ b ∷ []) g two = absurd (omega (arith, child_below j m {h = a} (rw g here)))
          first_childless j m z (a ∷ (b ∷ (_ ∷ _))) g x8 = elim x8 [ ]

      slots_sound : SoundSlots v (length rs)
      unfolding record_slot
      slots_sound =
          record {
            fits = rw (room_long w v (written_long rs 0 rs w)) fits;
            each = λ k l.
                let (i, m, e) = slot_onto rs few whole k l in
                let z : (record_slot rs i).0 ≡ k = omega arith in
                node_sound v k (record_node rs (children_at rs i)) (rw z at (each_has i m)) (rw z at (node_below i m))
                (λ f. sym z ∙ leaf_zero i m (leaf_childless (children_at rs i) (kids_view _) f));
          }

      pub table_holds : (store : List Tree) → TreesOf rs (order rs are apart closed whole) store → length store ≡ length rs →
          Holding v (length rs) store
      table_holds store trees long =
          record {
            slots = slots_sound;
            some = some;
            long = long;
            each =
                trees_from (order rs are apart closed whole) store 0 trees
                (λ j l. order_slot j (omega (arith, order_long rs are apart closed whole)) ∙ sym (zero-add j));
            zero = zero_leaf v (length rs) slots_sound some;
          }
