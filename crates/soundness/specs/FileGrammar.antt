-- The file's format, as relations between bytes and what they are, in the order of document 01: its header, its directory, and the
-- sections that the directory names.
use Rattle.std.specs.Prelude.{ℕ, ◌≡◌, List, ◌∷◌, ◌++◌, ◌⊎◌, length}
use Rattle.wire.specs.Relations.{Number, Sequence}
use Rattle.lists.specs.Among.{Among}

-- what a header says
pub record Header : Type 0 where
  pub magic : List ℕ
  pub major : ℕ
  pub minor : ℕ
  pub sections : ℕ
  pub flags : ℕ
  pub directory : ℕ

-- eight bytes; u16 major, u16 minor; u32 section count; u64 flags; u64 directory offset
pub data IsHeader : Header → List ℕ → Type 0 where
  header : {h : Header} {major minor sections flags directory : List ℕ} →
      length h.magic ≡ 8 →
      Number 2 h.major major →
      Number 2 h.minor minor →
      Number 4 h.sections sections →
      Number 8 h.flags flags →
      Number 8 h.directory directory →
      IsHeader h (h.magic ++ (major ++ (minor ++ (sections ++ (flags ++ directory)))))

-- what an entry of the directory says
pub record Entry : Type 0 where
  pub kind : ℕ
  pub version : ℕ
  pub flags : ℕ
  pub compression : ℕ
  pub algorithm : ℕ
  pub offset : ℕ
  pub size : ℕ
  pub digest : List ℕ

-- u32 type; u16 version; u16 flags; u16 compression; u16 digest algorithm; u64 offset; u64 length; 32-byte digest
pub data IsEntry : Entry → List ℕ → Type 0 where
  entry : {e : Entry} {kind version flags compression algorithm offset size : List ℕ} →
      Number 4 e.kind kind →
      Number 2 e.version version →
      Number 2 e.flags flags →
      Number 2 e.compression compression →
      Number 2 e.algorithm algorithm →
      Number 8 e.offset offset →
      Number 8 e.size size →
      length e.digest ≡ 32 →
      IsEntry e
      (kind ++ (version ++ (flags ++ (compression ++ (algorithm ++ (offset ++ (size ++ e.digest)))))))

-- a file starts with a header
pub data HasHeader (h : Header) : List ℕ → Type 0 where
  starts : {b : List ℕ} → IsHeader h b → (rest : List ℕ) → HasHeader h (b ++ rest)

-- and goes on with a directory: as many entries as the header says
pub data HasDirectory (h : Header) (es : List Entry) : List ℕ → Type 0 where
  goes_on : {b d : List ℕ} → IsHeader h b → length es ≡ h.sections → Sequence IsEntry es d → (rest : List ℕ) →
      HasDirectory h es (b ++ (d ++ rest))

-- an entry of the directory
pub data HasEntry (file : List ℕ) (e : Entry) : Type 0 where
  listed : {h : Header} {es : List Entry} → HasDirectory h es file → Among e es → HasEntry file e

-- the section that an entry names: so many bytes, so far from the start of the file
pub data IsSection (e : Entry) (s : List ℕ) : List ℕ → Type 0 where
  section : (before after : List ℕ) → length before ≡ e.offset → length s ≡ e.size →
      IsSection e s (before ++ (s ++ after))

-- type 1 is the manifest, type 2 the nodes; any other type is unknown
abbrev pub Known : Entry → Type 0
Known e = (e.kind ≡ 1) ⊎ (e.kind ≡ 2)

-- a type stands among entries, and stands there more than once
abbrev pub Occurs : ℕ → List Entry → Type 0
Occurs kind es = (e : Entry) × Among e es × (e.kind ≡ kind)

pub data OccursAgain (kind : ℕ) : List Entry → Type 0 where
  again : {e : Entry} {es : List Entry} → e.kind ≡ kind → Occurs kind es → OccursAgain kind (e ∷ es)
  later : {e : Entry} {es : List Entry} → OccursAgain kind es → OccursAgain kind (e ∷ es)

abbrev pub OccursOnce : ℕ → List Entry → Type 0
OccursOnce kind es = Occurs kind es × (OccursAgain kind es → ⊥)

-- the bytes s are a section of that type in the file
pub record SectionOf (file : List ℕ) (kind : ℕ) (s : List ℕ) : Type 0 where
  pub entry : Entry
  pub has_entry : HasEntry file entry
  pub of_kind : entry.kind ≡ kind
  pub is_section : IsSection entry s file
