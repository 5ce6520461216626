-- The sections that are read are those of the file, where their types occur once.
use Prim.Native.Nat.{ℕ}
use mathlib.Core.Path.{◌≡◌, sym, subst, ◌∙◌}
use mathlib.Core.List.{List}
use Rattle.manifest.specs.Judged.{exports_of}
use Rattle.nodes.specs.Records.{NodeRecord, nodes_of}
use Rattle.container.specs.Directory.{entries, entry_of, section, manifest_section, nodes_section}
use Rattle.soundness.specs.FileGrammar.{HasDirectory, listed, SectionOf, Occurs, OccursAgain}
use Rattle.soundness.specs.ManifestGrammar.{Contents, IsManifest}
use Rattle.soundness.specs.NodesGrammar.{IsNodes}
use Rattle.soundness.specs.Sound.{Described, Sound}
use Rattle.soundness.specs.Applies.{HasManifest, manifest, HasNodes, nodes}
use Rattle.soundness.proofs.ManifestMeaning.{reads_exports}
use Rattle.soundness.proofs.NodesMeaning.{reads_nodes}
use Rattle.soundness.proofs.FileFormat.{read_header, read_directory, of_directory, entry_read, one_section, has_section}
use Rattle.soundness.proofs.Mirror.{once_mirrored, entry_mirrored, section_mirrored}
use Rattle.soundness.proofs.Directory.{Inside, All}

module _ (file : List ℕ) (kind : ℕ) (once : OccursAgain kind (read_directory file) → ⊥) where
  pub section_only : (s : List ℕ) → SectionOf file kind s → section file kind ≡ s
  section_only s k =
      section_mirrored file kind k.entry (entry_read k.has_entry) k.of_kind ((once_mirrored file kind).1 once)
      ∙ (one_section k.is_section).1

  -- where it starts
  pub section_start : {s : List ℕ} (k : SectionOf file kind s) → (entry_of kind (entries file)).offset ≡ k.entry.offset
  section_start k =
      (entry_mirrored file kind k.entry (entry_read k.has_entry) k.of_kind ((once_mirrored file kind).1 once)).0

  pub section_read : HasDirectory (read_header file) (read_directory file) file → All file (Inside file) →
      Occurs kind (read_directory file) → SectionOf file kind (section file kind)
  section_read dir inside (e, a, k) = record {
    entry = e;
    has_entry = listed dir a;
    of_kind = k;
    is_section = rw (section_mirrored file kind e a k ((once_mirrored file kind).1 once)) (has_section file e (inside e a));
  }

-- the manifest and the nodes of a described file are what is read
module _ {file : List ℕ} (d : Described file) where
  pub single_manifest : OccursAgain 1 (read_directory file) → ⊥
  single_manifest = of_directory (λ es. OccursAgain 1 es → ⊥) d.has_directory d.one_manifest.1

  pub single_nodes : OccursAgain 2 (read_directory file) → ⊥
  single_nodes = of_directory (λ es. OccursAgain 2 es → ⊥) d.has_directory d.one_nodes.1

  pub described_manifest : IsManifest d.manifest (manifest_section file)
  described_manifest =
      subst (IsManifest d.manifest) (sym (section_only file 1 single_manifest _ d.section_of_manifest)) d.is_manifest

  -- the nodes section is there
  pub nodes_there : SectionOf file 2 (nodes_section file)
  nodes_there =
      let (e, a, k) = d.one_nodes.0 in
      let sound = d.sound_entries e a in
      let there : SectionOf file 2 sound.bytes =
      record { entry = e; has_entry = listed d.has_directory a; of_kind = k; is_section = sound.inside } in
      subst (SectionOf file 2) (sym (section_only file 2 single_nodes _ there)) there

  -- and no others are
  pub one_nodes : {rs : List NodeRecord} → HasNodes file rs → nodes_of (nodes_section file) ≡ rs
  one_nodes {rs} (nodes k i) =
      reads_nodes (nodes_section file) rs (subst (IsNodes rs) (sym (section_only file 2 single_nodes _ k)) i)

  pub one_exports : {m : Contents} → HasManifest file m → exports_of (manifest_section file) ≡ m.exports
  one_exports {m} (manifest k i) =
      reads_exports (manifest_section file) m (subst (IsManifest m) (sym (section_only file 1 single_manifest _ k)) i)

pub sound_nodes : {file : List ℕ} (sound : Sound file) → IsNodes sound.nodes (nodes_section file)
sound_nodes {file} sound =
    subst (IsNodes sound.nodes) (sym (section_only file 2 (single_nodes sound.described) _ sound.section_of_nodes))
    sound.is_nodes
