-- What an accepted load writes: the nodes in their slots, and the slots of the exports.
use Rattle.std.specs.Prelude.{ℕ, ◌+◌, ◌-◌, List, [], ◌∷◌, get_or, Option, Some, None}
use Rattle.lists.specs.Lists.{index_of}
use Rattle.table.specs.declared.slots.Slot.{Slot}
use Rattle.table.specs.declared.slots.Node.{Node}
use Rattle.table.specs.declared.slots.Node.TheVariants.{Leaf, Stem, Fork}
use Rattle.table.specs.Slots.{slot, put_node}
use Rattle.nodes.specs.Records.{NodeRecord as Record, children, hashes}
use Rattle.nodes.specs.Links.{placed_of}

-- the slot that record i gets: its place in the order of placing, which counts from 1
unfoldable pub record_slot : List Record → ℕ → Slot
record_slot rs i = slot (get_or (placed_of rs).slots i 0 - 1)

abbrev pub slot_found : List Record → Option ℕ → Slot
slot_found rs (Some i) = record_slot rs i
slot_found rs None = slot 0

-- the slot of the record with a hash; a sound bundle asks for none that is not there
unfoldable pub slot_named : List Record → List ℕ → Slot
slot_named rs h = slot_found rs (index_of h 0 (hashes rs))

-- the node of a record: its children by their slots
unfoldable pub record_node : List Record → List (List ℕ) → Node
record_node rs [] = Leaf
record_node rs (a ∷ []) = Stem (slot_named rs a)
record_node rs (a ∷ b ∷ cs) = Fork (slot_named rs a) (slot_named rs b)

-- the table with some records in their slots, of which the first has the number i
unfoldable pub written : List Record → ℕ → List Record → List ℕ → List ℕ
written all i [] w = w
written all i (r ∷ rs) w = written all (i + 1) rs (put_node w (record_slot all i).0 (record_node all (children r)))

-- the slots of the records with some hashes, in their order
unfoldable pub slots_named : List Record → List (List ℕ) → List ℕ
slots_named rs [] = []
slots_named rs (h ∷ hs) = (slot_named rs h).0 ∷ slots_named rs hs
