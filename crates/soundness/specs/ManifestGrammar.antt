-- The manifest's format, as relations between bytes and what they are, in the order of document 01.
use Rattle.std.specs.Prelude.{ℕ, ◌≤◌, ◌≡◌, List, ◌∷◌, ◌++◌, length}
use Rattle.wire.specs.Wire.{ascii}
use Rattle.wire.specs.Relations.{Number, Sequence}
use Rattle.utf8.specs.Rfc3629.{Utf8Octets}
use Rattle.manifest.specs.Content.{Root, Export}

pub record Field : Type 0 where
  pub tag : ℕ
  pub value : List ℕ

-- what a manifest says
pub record Contents : Type 0 where
  pub minor : ℕ
  pub strings : List (List ℕ)
  pub capabilities : List (List ℕ)
  pub closure : ℕ
  pub roots : List Root
  pub exports : List Export
  pub metadata : List Field
  pub extensions : List Field

-- a string is a u32 byte length and that many bytes of UTF-8
pub data IsString : List ℕ → List ℕ → Type 0 where
  string : {t n : List ℕ} → Number 4 (length t) n → Utf8Octets t → IsString t (n ++ t)

-- a root is 32 raw hash bytes and a role string
pub data IsRoot : Root → List ℕ → Type 0 where
  root : {h r a : List ℕ} → length h ≡ 32 → IsString r a → IsRoot (record { hash = h; role = r }) (h ++ a)

-- an export is a name string, 32 raw hash bytes, a kind string, an abi string
pub data IsExport : Export → List ℕ → Type 0 where
  export : {n h k i a b c : List ℕ} → IsString n a → length h ≡ 32 → IsString k b → IsString i c →
      IsExport (record { name = n; hash = h; kind = k; abi = i }) (a ++ (h ++ (b ++ c)))

-- a field is a u16 tag, a u32 length, that many bytes
pub data IsField : Field → List ℕ → Type 0 where
  field : {t : ℕ} {v a n : List ℕ} → Number 2 t a → Number 4 (length v) n →
      IsField (record { tag = t; value = v }) (a ++ (n ++ v))

-- a u32 count from `least` to `most`, and as many things
pub data IsCounted {A : Type 0} (Is : A → List ℕ → Type 0) (least most : ℕ) : List A → List ℕ → Type 0 where
  counted : {xs : List A} {n a : List ℕ} → Number 4 (length xs) n → least ≤ length xs → length xs ≤ most →
      Sequence Is xs a → IsCounted Is least most xs (n ++ a)

-- up to the exports: the eight bytes ARBMNFST; u16 major 1; u16 minor; nine strings; capability strings, any count that fits a
-- u32; one closure byte; 1 to 16 roots
pub data IsHead (m : Contents) : List ℕ → Type 0 where
  head : {major minor nine capabilities roots : List ℕ} →
      Number 2 1 major →
      Number 2 m.minor minor →
      length m.strings ≡ 9 →
      Sequence IsString m.strings nine →
      IsCounted IsString 0 4294967295 m.capabilities capabilities →
      m.closure ≤ 1 →
      IsCounted IsRoot 1 16 m.roots roots →
      IsHead m (ascii "ARBMNFST" ++ (major ++ (minor ++ (nine ++ (capabilities ++ (m.closure ∷ roots))))))

-- the whole manifest: then 1 to 32 exports; at most 16 metadata fields; at most 16 extension fields; then the end
pub data IsManifest (m : Contents) : List ℕ → Type 0 where
  manifest : {head exports metadata extensions : List ℕ} →
      IsHead m head →
      IsCounted IsExport 1 32 m.exports exports →
      IsCounted IsField 0 16 m.metadata metadata →
      IsCounted IsField 0 16 m.extensions extensions →
      IsManifest m (head ++ (exports ++ (metadata ++ extensions)))
