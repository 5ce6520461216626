-- What an accepted file is, in plain facts: sizes, digests, the manifest and the nodes that its sections are, and how they
-- hang together.
use Rattle.std.specs.Prelude.{ℕ, ◌%◌, ◌≤◌, ◌≡◌, List, length}
use Rattle.wire.specs.Wire.{ascii}
use Rattle.lists.specs.Among.{Among, Distinct}
use Rattle.sha256_block.specs.Fips180.{sha256}
use Rattle.manifest.specs.Content.{Root, Export}
use Rattle.nodes.specs.Records.{NodeRecord, hashes}
use Rattle.soundness.specs.FileGrammar.{Header, Entry, HasDirectory, IsSection, SectionOf, Known, OccursOnce}
use Rattle.soundness.specs.ManifestGrammar.{Contents, IsManifest}
use Rattle.soundness.specs.ManifestMeaning.{Supported, Named}
use Rattle.soundness.specs.Graph.{Circle}
use Rattle.soundness.specs.NodesGrammar.{IsNodes}
use Rattle.soundness.specs.NodesMeaning.{Hashed, Closed}

-- a sound entry: an unknown type is not critical, nothing is compressed, the digest is SHA-256, the section lies in the file,
-- and where the type is known the digest is the section's
pub record SoundEntry (file : List ℕ) (e : Entry) : Type 0 where
  pub optional : (Known e → ⊥) → e.flags % 2 ≡ 0
  pub compression : e.compression ≡ 0
  pub algorithm : e.algorithm ≡ 1
  pub bytes : List ℕ
  pub inside : IsSection e bytes file
  pub digest : Known e → sha256 bytes ≡ e.digest

-- what 1 to 14 ask of a file: its header, its directory and its manifest
pub record Described (file : List ℕ) : Type 0 where
  pub header : Header
  pub entries : List Entry
  pub manifest : Contents
  -- the header, and the directory right after it
  pub most : length file ≤ 65536
  pub has_directory : HasDirectory header entries file
  pub magic : header.magic ≡ ascii "ARBORICX"
  pub major : header.major ≡ 1
  pub sections_least : 1 ≤ header.sections
  pub sections_most : header.sections ≤ 16
  pub directory_offset : header.directory ≡ 32
  -- the directory
  pub sound_entries : (e : Entry) → Among e entries → SoundEntry file e
  pub one_manifest : OccursOnce 1 entries
  pub one_nodes : OccursOnce 2 entries
  -- the manifest: the section of type 1
  pub manifest_bytes : List ℕ
  pub section_of_manifest : SectionOf file 1 manifest_bytes
  pub is_manifest : IsManifest manifest manifest_bytes
  pub supported : Supported manifest
  pub named : Named manifest

-- what 1 to 20 ask of a file: its nodes too, and that every root and export is one of them
pub record Sound (file : List ℕ) : Type 0 where
  pub described : Described file
  pub nodes : List NodeRecord
  -- the section of type 2
  pub nodes_bytes : List ℕ
  pub section_of_nodes : SectionOf file 2 nodes_bytes
  pub is_nodes : IsNodes nodes nodes_bytes
  pub hashed : Hashed nodes
  pub distinct : Distinct (hashes nodes)
  pub closed : Closed nodes
  pub acyclic : Circle nodes → ⊥
  pub roots : (r : Root) → Among r described.manifest.roots → Among r.hash (hashes nodes)
  pub exports : (e : Export) → Among e described.manifest.exports → Among e.hash (hashes nodes)
