-- The same numbers apply to two files alike in all that is read, so the answers are the same: proofs of specs/Skipped.antt.
use Prim.Native.Nat.{ℕ}
use mathlib.Core.Path.{◌≡◌, refl, sym, subst, ◌∙◌}
use mathlib.Core.List.{List, [], ◌++◌}
use mathlib.Core.Logic.Iff
use mathlib.Core.Logic.{◌↔◌, ◌⊎◌, inl, inr}
use native.Mathlib.Omega.{arith}
use native.Mathlib.Decide.{ℕ_discrete}
use borrow.Author.Tests.{ne_eqb}
use Rattle.lists.specs.Among.{Among}
use Rattle.wire.proofs.Spans.{span_none}
use Rattle.nodes.specs.Records.{NodeRecord}
use Rattle.container.specs.Directory.{manifest_section, nodes_section}
use Rattle.bundle.specs.Checks.{name_refusal, refusal}
use Rattle.bundle.specs.Exports.{manifest_start, name_at, name_part, name_call, index_call}
use Rattle.soundness.specs.FileGrammar.{Header, HasHeader, starts, Entry, HasDirectory, goes_on, HasEntry, listed, SectionOf}
use Rattle.soundness.specs.ManifestGrammar.{Contents}
use Rattle.soundness.specs.Sound.{Described}
use Rattle.soundness.specs.Applies.{Applies, HasManifest, manifest, HasNodes, nodes}
use Rattle.soundness.specs.Applies as rows
use Rattle.soundness.specs.Skipped.{ReadAlike, SkippedUnread}
use Rattle.soundness.proofs.FileFormat.{one_header, one_directory}
use Rattle.soundness.proofs.Sections.{section_only, section_start, single_manifest, single_nodes, nodes_there}
use Rattle.soundness.proofs.Smallest.{smallest_alike, one_number}
use Rattle.soundness.proofs.Applies.{number_exactly, name_number_exactly}
use Rattle.soundness.proofs.Meaning.{unrefused_described}
use Rattle.soundness.proofs.Calls.{name_read}

pub alike_back : {file other : List ℕ} → ReadAlike file other → ReadAlike other file
alike_back r = record {
  long = sym r.long;
  header = r.header;
  entries = r.entries;
  has_directory = r.has_directory';
  has_directory' = r.has_directory;
  sections = λ e a k s. Iff.symm (r.sections e a k s);
}

directory_header : {file : List ℕ} {h : Header} {es : List Entry} → HasDirectory h es file → HasHeader h file
directory_header (goes_on {d = d} i l j rest) = starts i (d ++ rest)

module _ {file other : List ℕ} (r : ReadAlike file other) where
  -- what the one has, the other has
  header_alike : {h : Header} → HasHeader h file → HasHeader h other
  header_alike k =
      subst (λ (g : Header). HasHeader g other) (sym (one_directory r.has_directory).0 ∙ (one_header k).0)
      (directory_header r.has_directory')

  same_entries : {h : Header} {es : List Entry} → HasDirectory h es file → r.entries ≡ es
  same_entries k = sym (one_directory r.has_directory).1 ∙ (one_directory k).1

  directory_alike : {h : Header} {es : List Entry} → HasDirectory h es file → HasDirectory h es other
  directory_alike k =
      let p = sym (one_directory r.has_directory).0 ∙ (one_directory k).0 in
      rw (← p, ← same_entries k) r.has_directory'

  entry_alike : {e : Entry} → HasEntry file e → HasEntry other e × Among e r.entries
  entry_alike (listed k a) = (listed (directory_alike k) a, rw (same_entries k) a)

  pub section_alike : {kind : ℕ} {s : List ℕ} → (kind ≡ 1) ⊎ (kind ≡ 2) → SectionOf file kind s → SectionOf other kind s
  section_alike {kind} {s} known k =
      let (there, among) = entry_alike k.has_entry in
      record {
        entry = k.entry;
        has_entry = there;
        of_kind = k.of_kind;
        is_section = (r.sections k.entry among (rw k.of_kind known) s).0 k.is_section;
      }

  pub manifest_alike : {m : Contents} → HasManifest file m → HasManifest other m
  manifest_alike (manifest k i) = manifest (section_alike (inl refl) k) i

  pub nodes_alike : {rs : List NodeRecord} → HasNodes file rs → HasNodes other rs
  nodes_alike (nodes k i) = nodes (section_alike (inr refl) k) i

  -- so what applies to the one applies to the other
  pub applies_to : {n : ℕ} → Applies file n → Applies other n
  applies_to (rows.over h) = rows.over (omega (arith, r.long))
  applies_to (rows.under h) = rows.under (omega (arith, r.long))
  applies_to (rows.magic k n) = rows.magic (header_alike k) n
  applies_to (rows.major k n) = rows.major (header_alike k) n
  applies_to (rows.sections k n) = rows.sections (header_alike k) n
  applies_to (rows.directory_offset k n) = rows.directory_offset (header_alike k) n
  applies_to (rows.directory_end k h) = rows.directory_end (header_alike k) (omega (arith, r.long))
  applies_to (rows.critical k u o) = rows.critical (entry_alike k).0 u o
  applies_to (rows.compression k n) = rows.compression (entry_alike k).0 n
  applies_to (rows.algorithm k n) = rows.algorithm (entry_alike k).0 n
  applies_to (rows.outside k h) = rows.outside (entry_alike k).0 (omega (arith, r.long))
  applies_to (rows.again k o) = rows.again (directory_alike k) o
  applies_to (rows.missing k o) = rows.missing (directory_alike k) o
  applies_to (rows.digest {e = e} {s = s} k u i n) =
      let (there, among) = entry_alike k in rows.digest there u ((r.sections e among u s).0 i) n
  applies_to (rows.manifest_shape k n) = rows.manifest_shape (section_alike (inl refl) k) n
  applies_to (rows.fixed_string k n) = rows.fixed_string (manifest_alike k) n
  applies_to (rows.export_abi k a n) = rows.export_abi (manifest_alike k) a n
  applies_to (rows.capability k n) = rows.capability (manifest_alike k) n
  applies_to (rows.closure k e) = rows.closure (manifest_alike k) e
  applies_to (rows.size_of_name k a h) = rows.size_of_name (manifest_alike k) a h
  applies_to (rows.name_twice k n) = rows.name_twice (manifest_alike k) n
  applies_to (rows.nodes_shape k n) = rows.nodes_shape (section_alike (inr refl) k) n
  applies_to (rows.hash k a n) = rows.hash (nodes_alike k) a n
  applies_to (rows.hash_twice k n) = rows.hash_twice (nodes_alike k) n
  applies_to (rows.child k a p b n) = rows.child (nodes_alike k) a p b n
  applies_to (rows.circle k c) = rows.circle (nodes_alike k) c
  applies_to (rows.root k o a n) = rows.root (manifest_alike k) (nodes_alike o) a n
  applies_to (rows.export k o a n) = rows.export (manifest_alike k) (nodes_alike o) a n

  -- where they are described, the sections of both types are the same, and stand at the same place
  module _ (d : Described file) (e : Described other) where
    pub same_manifest : manifest_section file ≡ manifest_section other
    same_manifest =
        let k = d.section_of_manifest in
        section_only file 1 (single_manifest d) _ k ∙
        sym (section_only other 1 (single_manifest e) _ (section_alike (inl refl) k))

    pub same_nodes : nodes_section file ≡ nodes_section other
    same_nodes = sym (section_only other 2 (single_nodes e) _ (section_alike (inr refl) (nodes_there d)))

    same_start : manifest_start file ≡ manifest_start other
    unfolding section_alike
    same_start =
        let k = d.section_of_manifest in
        section_start file 1 (single_manifest d) k ∙
        sym (section_start other 1 (single_manifest e) (section_alike (inl refl) k))

module _ {file other : List ℕ} (r : ReadAlike file other) where
  pub applies_alike : (n : ℕ) → Applies file n ↔ Applies other n
  applies_alike n = (applies_to r, applies_to (alike_back r))

  pub same_refusal : refusal file ≡ refusal other
  same_refusal = one_number (smallest_alike applies_alike) (number_exactly file) (number_exactly other)

  same_name_refusal : name_refusal file ≡ name_refusal other
  same_name_refusal =
      one_number (λ n. Iff.and (smallest_alike applies_alike n) Iff.rfl) (name_number_exactly file) (name_number_exactly other)

  both_described : name_refusal file ≡ 0 → Described file × Described other
  both_described z = ((unrefused_described file).0 z, (unrefused_described other).0 (sym same_name_refusal ∙ z))

  name_alike : (i : ℕ) → name_part file i ≡ name_part other i
  unfolding name_part name_at
  name_alike i = elim (ℕ_discrete (name_refusal file) 0) [
    | no k ↦ rw (← same_name_refusal, ne_eqb (name_refusal file) 0 k)
    | yes z ↦ let (d, e) = both_described z in rw (same_name_refusal, same_manifest r d e, same_start r d e)
  ]

  bytes_alike : (i : ℕ) → name_call file i ≡ name_call other i
  unfolding name_call name_part
  bytes_alike i = elim (ℕ_discrete (name_refusal file) 0) [
    | no k ↦ rw (refused_none file k, refused_none other (λ z. k (same_name_refusal ∙ z)))
    | yes z ↦
        let (d, e) = both_described z in
        name_read file z i ∙ rw (same_manifest r d e) (sym (name_read other (sym same_name_refusal ∙ z) i))
  ]
    where
      refused_none : (f : List ℕ) → (name_refusal f ≡ 0 → ⊥) → name_call f i ≡ []
      refused_none f k = rw (ne_eqb (name_refusal f) 0 k) (span_none f)

  index_alike : (name : List ℕ) → index_call file name ≡ index_call other name
  unfolding index_call
  index_alike name = elim (ℕ_discrete (name_refusal file) 0) [
    | no k ↦ rw (← same_name_refusal, ne_eqb (name_refusal file) 0 k)
    | yes z ↦ let (d, e) = both_described z in rw (same_name_refusal, same_manifest r d e)
  ]

pub skipped_unread : SkippedUnread
skipped_unread file other r = (same_refusal r, λ i. (name_alike r i, bytes_alike r i), index_alike r)
