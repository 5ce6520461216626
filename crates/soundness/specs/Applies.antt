-- Document 01's table of refusals, in its words and over what the bytes are: when a number applies to a file. A row speaks of the
-- header, the entries, the manifest and the nodes that the file has: where it has none, a smaller number applies. And what the
-- answer of a check is: the smallest number that applies. The proofs are in proofs/Applies.antt.
use Rattle.std.specs.Prelude.{ℕ, ◌+◌, ◌*◌, ◌%◌, ◌≤◌, ◌<◌, ◌≡◌, List, [], ◌↔◌, ◌⊎◌, length}
use Rattle.wire.specs.Wire.{ascii}
use Rattle.lists.specs.Among.{Among, Distinct}
use Rattle.sha256_block.specs.Fips180.{sha256}
use Rattle.manifest.specs.Content.{Root, Export, names}
use Rattle.nodes.specs.Records.{NodeRecord, hashes}
use Rattle.bundle.specs.Checks.{name_refusal}
use Rattle.soundness.specs.FileGrammar.{Header, HasHeader, Entry, HasDirectory, HasEntry, IsSection, Known, Occurs}
use Rattle.soundness.specs.FileGrammar.{OccursAgain, SectionOf}
use Rattle.soundness.specs.ManifestGrammar.{Contents, IsManifest}
use Rattle.soundness.specs.ManifestMeaning.{NineStrings}
use Rattle.soundness.specs.NodesGrammar.{IsPayload, IsNodes}
use Rattle.soundness.specs.NodesMeaning.{hash_input}
use Rattle.soundness.specs.Graph.{Circle}

-- the file's manifest, and its nodes: what the sections of type 1 and 2 are
pub data HasManifest (file : List ℕ) (m : Contents) : Type 0 where
  manifest : {s : List ℕ} → SectionOf file 1 s → IsManifest m s → HasManifest file m

pub data HasNodes (file : List ℕ) (rs : List NodeRecord) : Type 0 where
  nodes : {s : List ℕ} → SectionOf file 2 s → IsNodes rs s → HasNodes file rs

pub data Applies (file : List ℕ) : ℕ → Type 0 where
  -- file over 65,536 bytes / under 32 / magic differs / major not 1
  over : 65536 < length file → Applies file 1
  under : length file < 32 → Applies file 2
  magic : {h : Header} → HasHeader h file → (h.magic ≡ ascii "ARBORICX" → ⊥) → Applies file 3
  major : {h : Header} → HasHeader h file → (h.major ≡ 1 → ⊥) → Applies file 4
  -- section count outside 1 to 16, directory offset not 32, or directory past the end of file
  sections : {h : Header} → HasHeader h file → (h.sections < 1) ⊎ (16 < h.sections) → Applies file 5
  directory_offset : {h : Header} → HasHeader h file → (h.directory ≡ 32 → ⊥) → Applies file 5
  directory_end : {h : Header} → HasHeader h file → length file < 32 + 60 * h.sections → Applies file 5
  -- some entry of unknown type is critical
  critical : {e : Entry} → HasEntry file e → (Known e → ⊥) → e.flags % 2 ≡ 1 → Applies file 6
  -- some entry has compression not 0 or digest algorithm not 1
  compression : {e : Entry} → HasEntry file e → (e.compression ≡ 0 → ⊥) → Applies file 7
  algorithm : {e : Entry} → HasEntry file e → (e.algorithm ≡ 1 → ⊥) → Applies file 7
  -- some entry's offset plus length, as whole numbers, passes the end of file
  outside : {e : Entry} → HasEntry file e → length file < e.offset + e.size → Applies file 8
  -- type 1 or 2 occurs more than once / is missing
  again : {h : Header} {es : List Entry} → HasDirectory h es file → OccursAgain 1 es ⊎ OccursAgain 2 es → Applies file 9
  missing : {h : Header} {es : List Entry} → HasDirectory h es file → (Occurs 1 es → ⊥) ⊎ (Occurs 2 es → ⊥) →
      Applies file 10
  -- the digest of the type 1 or type 2 section differs
  digest : {e : Entry} {s : List ℕ} → HasEntry file e → Known e → IsSection e s file → (sha256 s ≡ e.digest → ⊥) →
      Applies file 11
  -- the manifest doesn't have the stated shape
  manifest_shape : {s : List ℕ} → SectionOf file 1 s → ((m : Contents) → IsManifest m s → ⊥) → Applies file 12
  -- a fixed string or export abi differs, a capability is listed, or closure is 1
  fixed_string : {m : Contents} → HasManifest file m → (NineStrings m.strings → ⊥) → Applies file 13
  export_abi : {m : Contents} {e : Export} → HasManifest file m → Among e m.exports →
      (e.abi ≡ ascii "arboricx.abi.tree.v1" → ⊥) → Applies file 13
  capability : {m : Contents} → HasManifest file m → (m.capabilities ≡ [] → ⊥) → Applies file 13
  closure : {m : Contents} → HasManifest file m → m.closure ≡ 1 → Applies file 13
  -- an export name is empty, over 64 bytes, or used twice
  size_of_name : {m : Contents} {e : Export} → HasManifest file m → Among e m.exports →
      (length e.name < 1) ⊎ (64 < length e.name) → Applies file 14
  name_twice : {m : Contents} → HasManifest file m → (Distinct (names m.exports) → ⊥) → Applies file 14
  -- the nodes section doesn't have the stated shape, or count outside 1 to 512
  nodes_shape : {s : List ℕ} → SectionOf file 2 s → ((rs : List NodeRecord) → IsNodes rs s → ⊥) → Applies file 15
  -- a record's hash is wrong / two records carry the same hash
  hash : {rs : List NodeRecord} {r : NodeRecord} → HasNodes file rs → Among r rs →
      (r.hash ≡ sha256 (hash_input r.payload) → ⊥) → Applies file 16
  hash_twice : {rs : List NodeRecord} → HasNodes file rs → (Distinct (hashes rs) → ⊥) → Applies file 17
  -- a child has no record / a node is its own descendant
  child : {rs : List NodeRecord} {r : NodeRecord} {cs : List (List ℕ)} {h : List ℕ} → HasNodes file rs → Among r rs →
      IsPayload cs r.payload → Among h cs → (Among h (hashes rs) → ⊥) → Applies file 18
  circle : {rs : List NodeRecord} → HasNodes file rs → Circle rs → Applies file 19
  -- a root's or export's hash has no record
  root : {m : Contents} {rs : List NodeRecord} {r : Root} → HasManifest file m → HasNodes file rs → Among r m.roots →
      (Among r.hash (hashes rs) → ⊥) → Applies file 20
  export : {m : Contents} {rs : List NodeRecord} {e : Export} → HasManifest file m → HasNodes file rs → Among e m.exports →
      (Among e.hash (hashes rs) → ⊥) → Applies file 20

-- a number that applies, and no smaller one does
pub record Smallest (A : ℕ → Type 0) (n : ℕ) : Type 0 where
  pub applies : A n
  pub smallest : (m : ℕ) → m < n → A m → ⊥

-- a check answers n, and not 0, exactly where n is the smallest number that applies
abbrev pub NumberExactly : (List ℕ → ℕ) → Type 0
NumberExactly call = (file : List ℕ) (n : ℕ) → ((call file ≡ n) × (n ≡ 0 → ⊥)) ↔ Smallest (Applies file) n

-- and it answers 0 exactly where none applies
abbrev pub NoneExactly : (List ℕ → ℕ) → Type 0
NoneExactly call = (file : List ℕ) → (call file ≡ 0) ↔ ((n : ℕ) → Applies file n → ⊥)

-- the same of the checks 1 to 14
abbrev pub NameNumberExactly : Type 0
NameNumberExactly =
    (file : List ℕ) (n : ℕ) → ((name_refusal file ≡ n) × (n ≡ 0 → ⊥)) ↔ (Smallest (Applies file) n × (n ≤ 14))

abbrev pub NameNoneExactly : Type 0
NameNoneExactly = (file : List ℕ) → (name_refusal file ≡ 0) ↔ ((n : ℕ) → n ≤ 14 → Applies file n → ⊥)
