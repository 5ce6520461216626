-- What the calls on exports answer, over what the file is. The proofs are in proofs/ExportCalls.antt.
use Rattle.std.specs.Prelude.{ℕ, ◌+◌, ◌≤◌, ◌<◌, ◌≡◌, List, [], ◌++◌, length, get_or, take, Err}
use Rattle.wire.specs.Relations.{Number, Sequence}
use Rattle.lists.specs.Among.{Among}
use Rattle.manifest.specs.Content.{names}
use Rattle.wire.specs.declared.Part.{Part}
use Rattle.bundle.specs.Exports.{name_part, name_call, index_call, IndexNumbers, index_numbers}
use Rattle.soundness.specs.FileGrammar.{SectionOf}
use Rattle.soundness.specs.ManifestGrammar.{Contents, IsHead, IsExport}
use Rattle.soundness.specs.Sound.{Described}
use Rattle.soundness.specs.Applies.{Applies, Smallest}

-- ---- name by index

-- the part of a file that any call answers, by the file and an index
abbrev pub NameCall : Type 0
NameCall = List ℕ → ℕ → Part

-- the bytes of a manifest before its export i: its head, the count of its exports, and the i exports before it
pub data BeforeExport (m : Contents) (i : ℕ) : List ℕ → Type 0 where
  before_export : {head count earlier : List ℕ} → IsHead m head → Number 4 (length m.exports) count →
      Sequence IsExport (take i m.exports) earlier → BeforeExport m i (head ++ (count ++ earlier))

-- the part of the file that is the name of export i: its manifest section is `before`, a u32 length, the name and `after`
pub data IsNamePart (file : List ℕ) (m : Contents) (i : ℕ) (name : List ℕ) : Part → Type 0 where
  part_of_name : {before size : List ℕ} → BeforeExport m i before → Number 4 (length name) size → (after : List ℕ) →
      (section : SectionOf file 1 (before ++ (size ++ (name ++ after)))) →
      IsNamePart file m i name (record { start = section.entry.offset + (length before + 4); size = length name })

-- in a described file it is the part that is the name of the export with that index, and past the last index (0, 0)
abbrev pub NameByIndex : NameCall → Type 0
NameByIndex call =
    (file : List ℕ) (d : Described file) (i : ℕ) →
    (i < length d.manifest.exports →
    IsNamePart file d.manifest i (get_or (names d.manifest.exports) i []) (call file i)) ×
    (length d.manifest.exports ≤ i → call file i ≡ record { start = 0; size = 0 })

-- where one of 1 to 14 applies it is (0, 0)
abbrev pub NameRefused : NameCall → Type 0
NameRefused call = (file : List ℕ) (n i : ℕ) → Applies file n → n ≤ 14 → call file i ≡ record { start = 0; size = 0 }

-- the bytes that `export_name` answers are those of that part: the name, or none
abbrev pub NameBytes : Type 0
NameBytes =
    (file : List ℕ) (i : ℕ) →
    ((d : Described file) → name_call file i ≡ get_or (names d.manifest.exports) i []) ×
    ((n : ℕ) → Applies file n → n ≤ 14 → name_call file i ≡ [])

-- the part lies in the file, whatever the file
abbrev pub NameInFile : Type 0
NameInFile = (file : List ℕ) (i : ℕ) → (name_part file i).start + (name_part file i).size ≤ length file

-- nothing is left open: a call that keeps these promises is this one
abbrev pub OnlyName : Type 0
OnlyName =
    (call : NameCall) → NameByIndex call → NameRefused call → (file : List ℕ) (i : ℕ) → call file i ≡ name_part file i

-- ---- index by name

-- the numbers that any call answers, by the file and a name
abbrev pub IndexCall : Type 0
IndexCall = List ℕ → List ℕ → IndexNumbers

-- those of this one
abbrev pub index : IndexCall
index file name = index_numbers (index_call file name)

-- in a described file the index by name is that of the export with that name
abbrev pub IndexByName : IndexCall → Type 0
IndexByName call =
    (file : List ℕ) (d : Described file) (i : ℕ) → i < length d.manifest.exports →
    call file (get_or (names d.manifest.exports) i []) ≡ record { number = 0; index = i }

-- with no such name it is 25
abbrev pub NoSuchName : IndexCall → Type 0
NoSuchName call =
    (file : List ℕ) (d : Described file) (name : List ℕ) → (name ≡ [] → ⊥) →
    (Among name (names d.manifest.exports) → ⊥) → call file name ≡ record { number = 25; index = 0 }

-- the empty name is the first export
abbrev pub EmptyName : IndexCall → Type 0
EmptyName call = (file : List ℕ) → Described file → call file [] ≡ record { number = 0; index = 0 }

-- where one of 1 to 14 applies it is the smallest
abbrev pub IndexRefused : IndexCall → Type 0
IndexRefused call =
    (file name : List ℕ) (n : ℕ) → Smallest (Applies file) n → n ≤ 14 → call file name ≡ record { number = n; index = 0 }

-- the number tells which case of the answer it is: no refusal has 0
abbrev pub IndexTells : Type 0
IndexTells = (file name : List ℕ) (n : ℕ) → index_call file name ≡ Err n → 0 < n

-- the index is below 32, the most exports that a bundle has, whatever the file and the name
abbrev pub IndexBelow : Type 0
IndexBelow = (file name : List ℕ) → (index file name).index < 32

-- nothing is left open: a call that keeps these promises is this one
abbrev pub OnlyIndex : Type 0
OnlyIndex =
    (call : IndexCall) → IndexByName call → NoSuchName call → EmptyName call → IndexRefused call →
    (file name : List ℕ) → call file name ≡ index file name
