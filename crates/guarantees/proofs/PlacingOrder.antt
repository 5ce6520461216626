-- The order in which records get slots by their numbers is the order of placing: record i stands in it at the place of its slot.
use Prim.Native.Nat.{ℕ, zero, suc, ◌+◌, ◌-◌, ◌≤◌, ◌<◌}
use mathlib.Core.Path.{◌≡◌, refl, sym, ap, ◌∙◌, subst}
use mathlib.Core.Bool.{true, false}
use mathlib.Core.List.{List, [], ◌∷◌, ◌++◌}
use mathlib.Core.Logic.{◌⊎◌, inl, inr, ⊎_elim}
use native.Mathlib.Omega.{arith}
use native.Mathlib.Decide.{dec_lt, ℕ_discrete}
use lib.ListN.{length, get_or, take, drop, length-append, get_or-replicate}
use Rattle.lists.specs.Among.{Among, here, there, Distinct}
use Rattle.lists.proofs.Index.{among_index}
use Rattle.sizes.specs.Sizes.{nodes_size}
use Rattle.placing.specs.Placing.{Placed, ready, put, unplaced, placed}
use Rattle.placing.proofs.Views.{ready_view, ready_if, child_ok}
use Rattle.placing.proofs.Steps.{placing_keeps_first}
use Rattle.placing.proofs.Laid.{Laid, mine, unlike, put_laid, start_laid}
use Rattle.nodes.specs.Records.{NodeRecord, hashes}
use Rattle.nodes.specs.Links.{links_of, placed_of}
use Rattle.nodes.proofs.Slots.{slots_count, slot_some}
use Rattle.nodes.proofs.Children.{at, hash_at, number_of, record_at_lem, links_ok, link_child, child_link, one_number}
use Rattle.soundness.specs.NodesGrammar.{IsPayload, leaf, stem, fork, IsNodes}
use Rattle.soundness.specs.NodesMeaning.{Closed}
use Rattle.soundness.proofs.Each.{each_exactly}
use Rattle.soundness.proofs.NodesHashes.{payload_children, node_payload, few_nodes}
use Rattle.guarantees.specs.Order.{ChildrenPlaced, Earliest, Placing, leaf_record, next_record, Order}

-- ---- lists

-- the hashes of some records are just those that one of them has
pub hash_among : {r : NodeRecord} {rs : List NodeRecord} → Among r rs → Among r.hash (hashes rs)
unfolding hashes
hash_among {r} {rs} a =
    (each_exactly (λ (q : NodeRecord). q.hash) hashes refl (λ q qs. refl) (λ h. Among h (hashes rs)) rs).0 (λ h k. k) r a

pub among_hash : {h : List ℕ} (rs : List NodeRecord) → Among h (hashes rs) → (r : NodeRecord) × Among r rs × (r.hash ≡ h)
unfolding hashes
among_hash {h} rs a =
    (each_exactly (λ (q : NodeRecord). q.hash) hashes refl (λ q qs. refl) (λ b. (r : NodeRecord) × Among r rs × (r.hash ≡ b)) rs).1
    (λ q k. (q, k, refl)) h a

-- the list around its element i
pub around : (rs : List NodeRecord) (i : ℕ) → i < length rs → rs ≡ take i rs ++ (at rs i ∷ drop (suc i) rs)
around [] i l = absurd (omega arith)
around (r ∷ rs) zero l = refl
around (r ∷ rs) (suc i) l = ap (λ (xs : List NodeRecord). r ∷ xs) (around rs i (omega arith))

-- an element of the first i stands at a number below i
pub among_take : {q : NodeRecord} (rs : List NodeRecord) (i : ℕ) → Among q (take i rs) → (j : ℕ) × (j < i) × (j < length rs) × (at rs j ≡ q)
among_take [] zero a = absurd (omega (arith, (number_of a).1))
among_take [] (suc i) a = absurd (omega (arith, (number_of a).1))
among_take (r ∷ rs) (suc i) here = (0, omega arith, omega arith, refl)
among_take (r ∷ rs) (suc i) (there a) =
    let (j, l, m, e) = among_take rs i a in (suc j, omega arith, omega arith, e)
among_take {q = q} (r ∷ rs) zero a = elim a [ ]

-- an element of a list that is joined at the end
pub among_join : {r : NodeRecord} (ps : List NodeRecord) {q : NodeRecord} → Among r (ps ++ (q ∷ [])) → Among r ps ⊎ (r ≡ q)
among_join [] here = inr refl
among_join (p ∷ ps) here = inl here
among_join (p ∷ ps) (there a) = ⊎_elim (λ b. inl (there b)) inr (among_join ps a)
among_join {r = r} [] {q = q} (there a) = elim a [ ]

at_front : (ps : List NodeRecord) (r : NodeRecord) (j : ℕ) → j < length ps → at (ps ++ (r ∷ [])) j ≡ at ps j
at_front [] r j l = absurd (omega arith)
at_front (p ∷ ps) r zero l = refl
at_front (p ∷ ps) r (suc j) l = at_front ps r j (omega arith)

at_end_lem : (ps : List NodeRecord) (r : NodeRecord) → at (ps ++ (r ∷ [])) (length ps) ≡ r
at_end_lem [] r = refl
at_end_lem (p ∷ ps) r = at_end_lem ps r

-- ---- one step after the other

-- the records placed so far, with none at the start
pub data Stages (rs : List NodeRecord) : List NodeRecord → Type 0 where
  start : Stages rs []
  step : {ps : List NodeRecord} {r : NodeRecord} → Stages rs ps → Earliest rs ps r → Stages rs (ps ++ (r ∷ []))

-- of the first record the children are all placed where none is, so it has none
childless : {cs : List (List ℕ)} {p : List ℕ} → IsPayload cs p → ((h : List ℕ) → Among h cs → Among h (hashes [])) →
    IsPayload [] p
unfolding hashes
childless leaf f = leaf
childless (stem {a = a} l) f = absurd (omega (arith, (among_index [] (f a here)).1))
childless (fork {a = a} l m) f = absurd (omega (arith, (among_index [] (f a here)).1))

module _ (rs : List NodeRecord) where
  pub among_middle : (r : NodeRecord) (before after : List NodeRecord) → Among r (before ++ (r ∷ after))
  among_middle r [] after = here
  among_middle r (q ∷ before) after = there (among_middle r before after)

  pub earliest_among : {ps : List NodeRecord} {r : NodeRecord} → Earliest rs ps r → Among r rs
  earliest_among {r = r} e = rw e.there (among_middle r e.before e.after)

  -- a placed record is one of the records
  pub placing_among : {ps : List NodeRecord} {r : NodeRecord} → Placing rs ps → Among r ps → Among r rs
  placing_among (leaf_record a e) here = a
  placing_among {r = r} (next_record {placed = ps} {r = q} p e) a =
      ⊎_elim (λ b. placing_among p b)
      (λ z. subst (λ (n : NodeRecord). Among n rs) (sym z) (earliest_among e)) (among_join ps a)
  placing_among {r = r} (leaf_record a e) (there x6) = elim x6 [ ]

  stages_placing : {s : List ℕ} → IsNodes rs s → {ps : List NodeRecord} → Stages rs ps → (ps ≡ []) ⊎ Placing rs ps
  stages_placing are start = inl refl
  stages_placing are (step {ps = ps} {r = r} s e) = inr (go (stages_placing are s))
    where
      go : (ps ≡ []) ⊎ Placing rs ps → Placing rs (ps ++ (r ∷ []))
      go (inl q) =
          let i = node_payload are (earliest_among e) in
          rw q (leaf_record (earliest_among e) (childless i (rw q at (e.ready _ i))))
      go (inr p) = next_record p e

module _ (rs : List NodeRecord) {s : List ℕ} (are : IsNodes rs s) (apart : Distinct (hashes rs)) (closed : Closed rs) where
  few : length rs ≤ nodes_size.most
  few = few_nodes are

  -- the records placed so far are those that have a slot, at the place of their slot
  pub record Traced (p : Placed) : Type 0 where
    pub laid : Laid (links_of rs) (length rs) p
    pub ps : List NodeRecord
    pub long : length ps ≡ p.count
    pub slots : (i : ℕ) → i < length rs → 0 < get_or p.slots i 0 → at ps (get_or p.slots i 0 - 1) ≡ at rs i
    pub stages : Stages rs ps

  module _ (p : Placed) (t : Traced p) where
    -- a record has a slot exactly if it is placed
    slot_placed : (i : ℕ) → i < length rs → 0 < get_or p.slots i 0 → Among (at rs i) t.ps
    slot_placed i l g =
        subst (λ (r : NodeRecord). Among r t.ps) (t.slots i l g)
        (record_at_lem t.ps (get_or p.slots i 0 - 1) (omega (arith, t.long, t.laid.low i l)))

    placed_slot : {r : NodeRecord} → Among r t.ps → (i : ℕ) × (i < length rs) × (0 < get_or p.slots i 0) × (at rs i ≡ r)
    placed_slot a =
        let (j, l, e) = number_of a in
        let (i, m, f) = t.laid.onto j (omega (arith, t.long)) in
        let g : 0 < get_or p.slots i 0 = omega arith in
        let z : get_or p.slots i 0 - 1 ≡ j = omega arith in
        (i, m, g, sym (t.slots i m g) ∙ rw z e)

    -- the hash of a record with a slot is among the hashes of the placed, and the other way round
    slot_of_hash : {h : List ℕ} → Among h (hashes t.ps) →
        (i : ℕ) × (i < length rs) × (0 < get_or p.slots i 0) × (hash_at rs i ≡ h)
    slot_of_hash a =
        let (r, b, e) = among_hash t.ps a in
        let (i, l, g, f) = placed_slot b in
        (i, l, g, ap (λ (q : NodeRecord). q.hash) f ∙ e)

    module _ (i : ℕ) (l : i < length rs) (r : ready (links_of rs) p.slots i ≡ true)
        (f : (j : ℕ) → j < i → ready (links_of rs) p.slots j ≡ false) where
      is_unplaced : Among (at rs i) t.ps → ⊥
      is_unplaced a =
          let (j, m, g, e) = placed_slot a in
          let z : j ≡ i = one_number rs apart j i m l (ap (λ (q : NodeRecord). q.hash) e) in
          let o : 0 < get_or p.slots i 0 = rw z at g in
          omega (arith, (ready_view (links_of rs) p.slots i r).0)

      children_placed : ChildrenPlaced t.ps (at rs i)
      children_placed cs k h a =
          let (j, m, e, c) =
          child_link rs i l (rw (payload_children k) a) (closed (at rs i) cs (record_at_lem rs i l) k h a) in
          subst (λ (x : List ℕ). Among x (hashes t.ps)) e
          (hash_among (slot_placed j m (child_ok (links_of rs) p.slots i j r c)))

      none_before : (q : NodeRecord) → Among q (take i rs) → (Among q t.ps → ⊥) → ChildrenPlaced t.ps q → ⊥
      none_before q a unplaced placed =
          let (j, b, m, e) = among_take rs i a in
          ready_if (links_of rs) p.slots j
          (elim (dec_lt 0 (get_or p.slots j 0)) [
            | yes g ↦ absurd (unplaced (rw e at (slot_placed j m g)))
            | no g ↦ omega (arith, g)
          ])
          (λ k c.
          let (o, d) = link_child rs j k m c in
          let kids = node_payload are (rw e at (record_at_lem rs j m)) in
          let (x, y, g, u) = slot_of_hash (placed _ kids (hash_at rs k) (rw e at d)) in
          let z : x ≡ k = one_number rs apart x k y o u in
          rw z at g)
          (f j b)

      is_earliest : Earliest rs t.ps (at rs i)
      is_earliest =
          record {
            before = take i rs;
            after = drop (suc i) rs;
            there = around rs i l;
            unplaced = is_unplaced;
            ready = children_placed;
            first = none_before;
          }

      put_slots : (j : ℕ) → j < length rs → 0 < get_or (put p i).slots j 0 →
          at (t.ps ++ (at rs i ∷ [])) (get_or (put p i).slots j 0 - 1) ≡ at rs j
      put_slots j m g =
          elim (ℕ_discrete j i) [
            | yes e ↦
                let o : get_or (put p i).slots j 0 ≡ p.count + 1 = rw e (mine p i (omega (arith, t.laid.long))) in
                let z : get_or (put p i).slots j 0 - 1 ≡ length t.ps = omega (arith, t.long) in
                rw (z, e) (at_end_lem t.ps (at rs i))
            | no d ↦
                let o = unlike p i j d in
                let k : 0 < get_or p.slots j 0 = omega arith in
                rw o
                (at_front t.ps (at rs i) (get_or p.slots j 0 - 1) (omega (arith, t.long, t.laid.low j m))
                ∙ t.slots j m k)
          ]

      put_traced : Traced (put p i)
      unfolding put
      put_traced =
          record {
            laid = put_laid (links_of rs) (length rs) (links_ok rs few).small p i t.laid l r;
            ps = t.ps ++ (at rs i ∷ []);
            long = simp length-append (omega (arith, t.long));
            slots = put_slots;
            stages = step t.stages is_earliest;
          }

  start_traced : Traced (unplaced nodes_size.most)
  start_traced =
      record {
        laid = start_laid (links_of rs) (length rs) nodes_size.most few;
        ps = [];
        long = refl;
        slots = λ i l g. absurd (omega (arith, get_or-replicate {A = ℕ} nodes_size.most i 0 0 (omega (arith, few))));
        stages = start;
      }

  all_traced : Traced (placed_of rs)
  unfolding placed_of placed
  all_traced =
      placing_keeps_first (links_of rs) (length rs) Traced (λ p i t l r f. put_traced p t i l r f) (length rs)
      (unplaced nodes_size.most) start_traced

  -- ---- where all are placed

  module _ (whole : length rs ≤ (placed_of rs).count) where
    pub order : List NodeRecord
    order = all_traced.ps

    pub order_long : length order ≡ length rs
    unfolding order all_traced
    order_long = all_traced.long ∙ slots_count rs few whole

    -- record i stands in the order at the place of its slot
    pub at_slot : (i : ℕ) → i < length rs → at order (get_or (placed_of rs).slots i 0 - 1) ≡ at rs i
    unfolding order all_traced
    at_slot i l = all_traced.slots i l (slot_some rs few whole i l)

    pub in_order : 0 < length rs → Order rs order
    unfolding order all_traced
    in_order some = record { placing = go (stages_placing rs are all_traced.stages); whole = order_long }
      where
        go : (order ≡ []) ⊎ Placing rs order → Placing rs order
        go (inl e) = absurd (omega (arith, ap length e, order_long))
        go (inr p) = p
