-- Slots: slot i of the part of the table that is ours is its words 2i and 2i + 1.
use Rattle.std.specs.Prelude.{ℕ, zero, suc, ◌+◌, ◌*◌, ◌/◌, ◌≤◌, ◌<◌, ◌≡◌, Bool, false, List, ◌⊎◌, length, get_or, set, ltb, ℤ, pos, negsuc, nat_abs}
use Rattle.table.specs.declared.slots.Slot.{Slot}
use Rattle.table.specs.declared.slots.Node.{Node}
use Rattle.table.specs.declared.slots.Node.TheVariants.{Leaf, Stem, Fork}
use Rattle.table.specs.Limits.{max_slots, at_most}

-- the words of a slot
abbrev pub width : ℕ
width = 2

abbrev pub slot : ℕ → Slot
slot n = record { 0 = n }

-- room is the smaller of 65,535 and half the words, rounded down
unfoldable pub room : List ℕ → ℕ
room w = at_most max_slots (length w / width)

-- "Room is the smaller of 65,535 and half the words from the base on, rounded down"
abbrev pub RoomIs : Type 0
RoomIs = (w : List ℕ) → (2 * room w ≤ length w) × (room w ≤ 65535) × ((room w ≡ 65535) ⊎ (length w < 2 * room w + 2))

-- a number names one of the first `used` slots; a negative one names none
unfoldable pub is_used : ℤ → ℕ → Bool
is_used (pos n) used = ltb n used
is_used (negsuc n) used = false

-- the slot that a number names
abbrev pub named_slot : ℤ → Slot
named_slot z = slot (nat_abs z)

-- leaf is (0, 0); a stem on slot a is (a + 1, 0); a fork of a and b is (a + 1, b + 1)
abbrev pub first_word : Node → ℕ
first_word Leaf = 0
first_word (Stem a) = a.0 + 1
first_word (Fork a b) = a.0 + 1

abbrev pub second_word : Node → ℕ
second_word Leaf = 0
second_word (Stem a) = 0
second_word (Fork a b) = b.0 + 1

-- the node of two words; no sound slot has 0 before another word
abbrev pub node_of : ℕ → ℕ → Node
node_of zero q = Leaf
node_of (suc a) zero = Stem (slot a)
node_of (suc a) (suc b) = Fork (slot a) (slot b)

-- the two words of slot i
unfoldable pub first_at : List ℕ → ℕ → ℕ
first_at w i = get_or w (width * i) 0

unfoldable pub second_at : List ℕ → ℕ → ℕ
second_at w i = get_or w (width * i + 1) 0

unfoldable pub put_words : List ℕ → ℕ → ℕ → ℕ → List ℕ
put_words w i p q = set (set w (width * i) p) (width * i + 1) q

-- what slot i holds
unfoldable pub node_at : List ℕ → ℕ → Node
node_at w i = node_of (first_at w i) (second_at w i)

-- the table with a node written in slot i
unfoldable pub put_node : List ℕ → ℕ → Node → List ℕ
put_node w i n = put_words w i (first_word n) (second_word n)

-- the children's slots are lower than i
abbrev pub Below : ℕ → Node → Type 0
Below i Leaf = Unit {0}
Below i (Stem a) = a.0 < i
Below i (Fork a b) = (a.0 < i) × (b.0 < i)

-- the first n slots of two tables have the same words
abbrev pub SameSlots : ℕ → List ℕ → List ℕ → Type 0
SameSlots n w v =
    (i : ℕ) → i < n → (get_or w (2 * i) 0 ≡ get_or v (2 * i) 0) × (get_or w (2 * i + 1) 0 ≡ get_or v (2 * i + 1) 0)
