-- What is read of a file is what it has: proofs of specs/FileMeaning.antt.
use Prim.Native.Nat.{ℕ, zero, suc, ◌+◌, ◌*◌, ◌≤◌}
use mathlib.Core.Path.{◌≡◌, refl, sym, ap, subst, ◌∙◌}
use mathlib.Core.List.{List, [], ◌∷◌, map}
use native.Mathlib.Omega.{arith}
use lib.ListN.{length}
use Rattle.wire.specs.Wire.{big_endian}
use Rattle.wire.proofs.Numbers.{big_endian_append}
use Rattle.container.specs.declared.directory.DirectoryEntry.{DirectoryEntry as Read}
use Rattle.container.specs.Header.{section_count, directory_offset}
use Rattle.container.specs.Directory.{entry_at, entries_from, entries, digest_of}
use Rattle.soundness.specs.FileGrammar.{Header, Entry, HasDirectory, OccursAgain}
use Rattle.soundness.specs.FileMeaning.{BigEndian, HeaderExactly, OneHeader, ReadsHeader, DirectoryExactly, OneDirectory}
use Rattle.soundness.specs.FileMeaning.{ReadsDirectory, SectionExactly, OneSection, ReadsSection}
use Rattle.soundness.proofs.FileFormat.{read_header, read_entry, read_entries, read_directory, one_header, has_header}
use Rattle.soundness.proofs.FileFormat.{one_directory, has_directory, entry_read, one_section, has_section}
use Rattle.soundness.proofs.Mirror.{once_mirrored, section_mirrored}

pub big_endian_lem : BigEndian
unfolding big_endian
big_endian_lem = (refl, λ b x. rw (big_endian_append b (x ∷ [])) (omega arith))

pub header_exactly : HeaderExactly
header_exactly file = (λ h. (_, has_header file h), λ k. (one_header k.1).1)

pub only_header : OneHeader
only_header file h g k l = sym (one_header k).0 ∙ (one_header l).0

pub reads_header : ReadsHeader
unfolding section_count directory_offset read_header
reads_header file h k =
    let e = (one_header k).0 in (ap (λ (x : Header). x.sections) e, ap (λ (x : Header). x.directory) e)

pub directory_exactly : DirectoryExactly
directory_exactly file h k = (
  λ l. subst (λ (g : Header). 32 + 60 * g.sections ≤ length file → (es : List Entry) × HasDirectory g es file)
      (one_header k).0 (λ m. (read_directory file, has_directory file m)) l,
  λ d. (one_directory d.1).2,
)

pub only_directory : OneDirectory
only_directory file h g es ds k l = sym (one_directory k).1 ∙ (one_directory l).1

-- entry by entry
entries_read : (file : List ℕ) (n p : ℕ) →
    map (λ (r : Read). r.kind ∷ r.flags ∷ r.compression ∷ r.algorithm ∷ r.offset ∷ r.size ∷ digest_of file r)
    (entries_from file n p) ≡
    map (λ (e : Entry). e.kind ∷ e.flags ∷ e.compression ∷ e.algorithm ∷ e.offset ∷ e.size ∷ e.digest) (read_entries file n p)
unfolding entries_from entry_at read_entries read_entry
entries_read file zero p = refl
entries_read file (suc n) p = rw (entries_read file n (p + 60))

pub reads_directory : ReadsDirectory
unfolding entries section_count read_header
reads_directory file h es k = rw (← (one_directory k).1) (entries_read file (section_count file) 32)

pub section_exactly : SectionExactly
section_exactly file e = (λ h. (_, has_section file e h), λ k. (one_section k.1).0)

pub only_section : OneSection
only_section file e s t k l = sym (one_section k).1 ∙ (one_section l).1

pub reads_section : ReadsSection
reads_section file h es kind s k (some, once) t =
    let few = (once_mirrored file kind).1 (λ o. once (subst (OccursAgain kind) (one_directory k).1 o)) in
    section_mirrored file kind t.entry (entry_read t.has_entry) t.of_kind few ∙ (one_section t.is_section).1
