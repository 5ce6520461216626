-- Laws of slots: what a slot holds after a node was written, and which numbers name a slot.
use Prim.Native.Nat.{ℕ, ◌+◌, ◌*◌, ◌/◌, ◌%◌, ◌≤◌, ◌<◌}
use mathlib.Core.Path.{◌≡◌, refl, sym, ap, ◌∙◌}
use mathlib.Core.Bool.{true, false≢true}
use mathlib.Core.List.{List}
use mathlib.Core.Logic.{inl, inr}
use native.Mathlib.Omega.{arith}
use native.Mathlib.Numerals.{add-one}
use native.Mathlib.Decide.{dec_lt, ℕ_discrete}
use lib.ListN.{length, get_or, length-set}
use lib.Seq.{get_or-set_same, get_or-set_other}
use lib.IntN.{ℤ, pos, negsuc, nat_abs}
use borrow.Author.Tests.{lt-ltb, ltb-true}
use Rattle.table.specs.declared.slots.Node.{Node}
use Rattle.table.specs.declared.slots.Node.TheVariants.{Leaf, Stem, Fork}
use Rattle.table.specs.Limits.{max_slots, at_most}
use Rattle.table.specs.Slots.{width, room, RoomIs, is_used, first_word, second_word, first_at, second_at}
use Rattle.table.specs.Slots.{put_words, node_at, put_node, SameSlots}
use Rattle.table.specs.Holds.{Words}

-- a table's room depends on its length alone
pub room_long : (w v : List ℕ) → length v ≡ length w → room v ≡ room w
unfolding room
room_long w v e = ap (λ (l : ℕ). at_most max_slots (l / width)) e

-- it is at most the limit
pub room_most : (w : List ℕ) → room w ≤ max_slots
unfolding room
room_most w = omega arith

-- Room is the smaller of the limit and half the words, rounded down.
pub room_is : RoomIs
unfolding room
room_is w = (
  omega arith,
  omega arith,
  elim (dec_lt (length w) (2 * room w + 2)) [
    | yes h ↦ inr h
    | no h ↦ inl (omega (arith, h))
  ],
)

-- both words of a slot in the room are words of the table
pub in_room : (w : List ℕ) (i : ℕ) → i < room w → width * i + 1 < length w
unfolding room
in_room w i h = omega arith

-- slot i has the words of this node
abbrev pub Has : List ℕ → ℕ → Node → Type 0
Has w i n = Words w i (first_word n) (second_word n)

-- then it holds that node
pub has_node : {w : List ℕ} {i : ℕ} (n : Node) → Has w i n → node_at w i ≡ n
unfolding node_at first_at second_at
has_node Leaf h = rw h.first
has_node (Stem a) h = rw (h.first, h.second) (simp add-one)
has_node (Fork a b) h = rw (h.first, h.second) (simp add-one)

-- a node is written in slot i
module _ (w : List ℕ) (i : ℕ) (n : Node) where
  -- the table is as long, and has the same room
  pub length_put : length (put_node w i n) ≡ length w
  unfolding put_node put_words
  length_put = simp length-set

  pub room_put : room (put_node w i n) ≡ room w
  room_put = room_long w (put_node w i n) length_put

  -- every word but the slot's two stays
  pub put_outside : (k : ℕ) → (k ≡ width * i → ⊥) → (k ≡ width * i + 1 → ⊥) → get_or (put_node w i n) k 0 ≡ get_or w k 0
  unfolding put_node put_words
  put_outside k h g = simp (get_or-set_other, h, g)

  -- the slot has the node's words, and holds it
  pub put_here : i < room w → Has (put_node w i n) i n
  unfolding put_node put_words
  put_here h =
      let l = in_room w i h in
      let m : width * i < length w = omega arith in
      let one : width * i ≡ width * i + 1 → ⊥ = omega arith in
      record {
        inside = omega (arith, length_put);
        first = search (get_or-set_other, get_or-set_same);
        second = search (get_or-set_same, length-set);
      }

  pub node_here : i < room w → node_at (put_node w i n) i ≡ n
  node_here h = has_node n (put_here h)

  -- another slot has the words that it had, and holds what it held
  pub first_other : (k : ℕ) → (k ≡ i → ⊥) → get_or (put_node w i n) (width * k) 0 ≡ get_or w (width * k) 0
  first_other k h = put_outside (width * k) (omega (arith, h)) (omega arith)

  pub second_other : (k : ℕ) → (k ≡ i → ⊥) → get_or (put_node w i n) (width * k + 1) 0 ≡ get_or w (width * k + 1) 0
  second_other k h = put_outside (width * k + 1) (omega arith) (omega (arith, h))

  pub put_other : (k : ℕ) (m : Node) → (k ≡ i → ⊥) → Has w k m → Has (put_node w i n) k m
  put_other k m h g =
      record {
        inside = omega (arith, g.inside, length_put);
        first = first_other k h ∙ g.first;
        second = second_other k h ∙ g.second;
      }

  pub node_other : (k : ℕ) → (k ≡ i → ⊥) → node_at (put_node w i n) k ≡ node_at w k
  unfolding node_at first_at second_at
  node_other k h = rw (first_other k h, second_other k h)

-- a number below the used slots names one of them
pub used_in : {z : ℤ} {n used : ℕ} → z ≡ pos n → n < used → is_used z used ≡ true
unfolding is_used
used_in e h = rw e (lt-ltb _ _ h)

-- what does is a slot's number, and below them
pub used_slot : (z : ℤ) (used : ℕ) → is_used z used ≡ true → (z ≡ pos (nat_abs z)) × (nat_abs z < used)
unfolding is_used
used_slot (pos n) used e = (refl, ltb-true n used e)
used_slot (negsuc n) used e = absurd (false≢true e)

-- tables with the same words in the first n slots
module _ {n : ℕ} (w v : List ℕ) (same : SameSlots n w v) where
  -- hold the same nodes there
  pub same_node : (i : ℕ) → i < n → node_at w i ≡ node_at v i
  unfolding node_at first_at second_at
  same_node i h = rw ((same i h).0, (same i h).1)

  -- are the same up to there, word by word
  pub same_below : (k : ℕ) → k < width * n → get_or w k 0 ≡ get_or v k 0
  same_below k l =
      let (first, second) = same (k / width) (omega arith) in
      elim (ℕ_discrete (k % width) 0) [
        | yes e ↦ let z : width * (k / width) ≡ k = omega arith in rw z at first
        | no e ↦ let z : width * (k / width) + 1 ≡ k = omega (arith, e) in rw z at second
      ]

  -- and have the same words in one slot more where the same node is written
  pub same_put : (node : Node) → n < room w → n < room v → SameSlots (n + 1) (put_node w n node) (put_node v n node)
  same_put node h l i b =
      elim (dec_lt i n) [
        | yes g ↦
            let o : i ≡ n → ⊥ = omega arith in (
              first_other w n node i o ∙ (same i g).0 ∙ sym (first_other v n node i o),
              second_other w n node i o ∙ (same i g).1 ∙ sym (second_other v n node i o),
            )
        | no g ↦
            let e : i ≡ n = omega (arith, g) in
            let p = put_here w n node h in
            let q = put_here v n node l in
            rw e (p.first ∙ sym q.first, p.second ∙ sym q.second)
      ]
