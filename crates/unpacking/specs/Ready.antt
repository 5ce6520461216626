-- What the writing works on: the records of a sound bundle, all placed, with their slots and links. And what is written of a
-- record, by its number.
use Rattle.std.specs.Prelude.{ℕ, zero, suc, ◌+◌, ◌-◌, ◌*◌, ◌≤◌, ◌<◌, ◌≡◌, true, false, List, length, get_or, take}
use Rattle.table.specs.declared.slots.Slot.{Slot}
use Rattle.table.specs.declared.slots.Node.{Node}
use Rattle.table.specs.declared.slots.Node.TheVariants.{Leaf, Stem, Fork}
use Rattle.table.specs.Slots.{slot}
use Rattle.sizes.specs.Sizes.{exports_size, nodes_size}
use Rattle.manifest.specs.Judged.{exports_of}
use Rattle.placing.specs.Circles.{ChildLink as Linked}
use Rattle.nodes.specs.declared.faults.RecordFault.TheVariants.{Child}
use Rattle.nodes.specs.Records.{NodeRecord as Record, shaped, nodes_of, some_record}
use Rattle.nodes.specs.Links.{links_of, placed_of, circular}
use Rattle.manifest.specs.declared.listed.Reference.TheVariants.{Export}
use Rattle.references.specs.References.{export_hashes, hashes_from}
use Rattle.unpacking.specs.declared.exports.ExportList.{ExportList}

-- all records are placed, and their slots are at hand
pub record Slotted (rs : List Record) (slots : List ℕ) : Type 0 where
  pub few : length rs ≤ nodes_size.most
  pub whole : circular rs ≡ false
  pub slots_are : slots ≡ (placed_of rs).slots

-- every child of a section's records has a record, all are placed, and their links and slots are at hand
pub record RecordsReady (s links slots : List ℕ) : Type 0 where
  pub shape : shaped s ≡ true
  pub closed : some_record Child (nodes_of s) (nodes_of s) ≡ false
  pub slotted : Slotted (nodes_of s) slots
  pub space : 2 * length (nodes_of s) ≤ length links
  pub links_are : take (2 * length (nodes_of s)) links ≡ links_of (nodes_of s)

-- record i is placed, and so are its children, in lower slots
pub record PlacedAt (links slots : List ℕ) (i : ℕ) : Type 0 where
  pub linked : 2 * i + 1 < length links
  pub here : i < length slots
  pub placed : 0 < get_or slots i 0
  pub lower : (j : ℕ) → Linked links i j → (j < length slots) × (0 < get_or slots j 0) × (get_or slots j 0 < get_or slots i 0)

-- the slot of record i, and the node of two links
abbrev pub slot_at : List ℕ → ℕ → Slot
slot_at slots i = slot (get_or slots i 0 - 1)

unfoldable pub linked : List ℕ → ℕ → ℕ → Node
linked slots zero b = Leaf
linked slots (suc a) zero = Stem (slot_at slots a)
linked slots (suc a) (suc b) = Fork (slot_at slots a) (slot_at slots b)

-- how many exports a manifest section lists, and where they stand
pub record ListedIn (m : List ℕ) (x : ExportList) : Type 0 where
  pub all : x.count ≡ length (exports_of m)
  pub hashes : hashes_from m Export x.count x.at ≡ export_hashes (exports_of m)
  pub few : x.count ≤ exports_size.most
