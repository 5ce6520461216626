-- What is read of a file is what it has, and it has just one of each. The proofs are in proofs/FileMeaning.antt.
use Rattle.std.specs.Prelude.{ℕ, ◌+◌, ◌*◌, ◌≤◌, ◌≡◌, List, [], ◌∷◌, ◌++◌, map, ◌↔◌, length}
use Rattle.wire.specs.Wire.{big_endian}
use Rattle.container.specs.declared.directory.DirectoryEntry.{DirectoryEntry as Read}
use Rattle.container.specs.Header.{section_count, directory_offset}
use Rattle.container.specs.Directory.{digest_of, entries, section}
use Rattle.soundness.specs.FileGrammar.{Header, HasHeader, Entry, HasDirectory, IsSection, OccursOnce, SectionOf}

-- "Numbers in a bundle are big-endian": with a byte more at the end a number is 256 times as much, and the byte
abbrev pub BigEndian : Type 0
BigEndian = (big_endian [] ≡ 0) × ((b : List ℕ) (x : ℕ) → big_endian (b ++ (x ∷ [])) ≡ 256 * big_endian b + x)

-- a file has a header where it is long enough, and just one
abbrev pub HeaderExactly : Type 0
HeaderExactly = (file : List ℕ) → (32 ≤ length file) ↔ ((h : Header) × HasHeader h file)

abbrev pub OneHeader : Type 0
OneHeader = (file : List ℕ) (h g : Header) → HasHeader h file → HasHeader g file → h ≡ g

-- its section count and directory offset are those that are read
abbrev pub ReadsHeader : Type 0
ReadsHeader =
    (file : List ℕ) (h : Header) → HasHeader h file →
    (section_count file ≡ h.sections) × (directory_offset file ≡ h.directory)

-- a directory where the file is long enough, and just one
abbrev pub DirectoryExactly : Type 0
DirectoryExactly =
    (file : List ℕ) (h : Header) → HasHeader h file →
    (32 + 60 * h.sections ≤ length file) ↔ ((es : List Entry) × HasDirectory h es file)

abbrev pub OneDirectory : Type 0
OneDirectory =
    (file : List ℕ) (h g : Header) (es ds : List Entry) → HasDirectory h es file → HasDirectory g ds file → es ≡ ds

-- its entries are those that are read: all but their versions, and of a digest where it stands, so that `digest_of` reads it there
abbrev pub ReadsDirectory : Type 0
ReadsDirectory =
    (file : List ℕ) (h : Header) (es : List Entry) → HasDirectory h es file →
    map (λ (r : Read). r.kind ∷ r.flags ∷ r.compression ∷ r.algorithm ∷ r.offset ∷ r.size ∷ digest_of file r) (entries file) ≡
    map (λ (e : Entry). e.kind ∷ e.flags ∷ e.compression ∷ e.algorithm ∷ e.offset ∷ e.size ∷ e.digest) es

-- an entry names a section where offset plus length do not pass the end of file, and just one
abbrev pub SectionExactly : Type 0
SectionExactly =
    (file : List ℕ) (e : Entry) → (e.offset + e.size ≤ length file) ↔ ((s : List ℕ) × IsSection e s file)

abbrev pub OneSection : Type 0
OneSection = (file : List ℕ) (e : Entry) (s t : List ℕ) → IsSection e s file → IsSection e t file → s ≡ t

-- the section of a type that occurs once is the one that is read
abbrev pub ReadsSection : Type 0
ReadsSection =
    (file : List ℕ) (h : Header) (es : List Entry) (kind : ℕ) (s : List ℕ) → HasDirectory h es file → OccursOnce kind es →
    SectionOf file kind s → section file kind ≡ s
