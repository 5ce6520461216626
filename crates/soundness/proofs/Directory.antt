-- What it says that 1 to 11 do not hold, over the header and the entries that a file has.
use Prim.Native.Nat.{ℕ, ◌+◌, ◌*◌, ◌%◌, ◌≤◌}
use mathlib.Core.Path.{◌≡◌, refl, sym, ◌∙◌}
use mathlib.Core.List.{List}
use mathlib.Core.Bool.{Bool, true, false, cond}
use mathlib.Core.Logic.Iff
use mathlib.Core.Logic.{◌↔◌, ◌⊎◌, inl, inr, ⊎_elim}
use native.Mathlib.Omega.{arith}
use native.Mathlib.Decide.{ℕ_discrete}
use borrow.Author.Tests.{eqb-true, eqb-false, eq-eqb, ne_eqb}
use lib.Dec.{ltb, eqb}
use lib.ListN.{length}
use Rattle.wire.specs.Wire.{span, ascii}
use Rattle.lists.specs.Among.{Among}
use Rattle.lists.proofs.Same.{not_both, same_exactly}
use Rattle.wire.proofs.Spans.{span_in}
use Rattle.lists.proofs.Some.{any_none, any_more, none_exactly}
use Rattle.lists.proofs.Tests.{below_exactly, equal_exactly, not_exactly, where_exactly, unless_exactly}
use Rattle.sha256_block.specs.Fips180.{sha256}
use Rattle.sizes.specs.Sizes.{file_size, sections_size}
use Rattle.container.specs.declared.directory.DirectoryEntry.{DirectoryEntry as Read}
use Rattle.container.specs.Directory.{EntryFault}
use Rattle.container.specs.Directory.{Critical, Coded, Outside, Altered}
use Rattle.container.specs.Header.{section_count, directory_offset, other_magic, other_major, no_directory}
use Rattle.container.specs.Directory.{entry_at, entries, known, section_of, digest_of, entry_faulty, some_entry}
use Rattle.container.specs.Directory.{critical, coded, outside, altered}
use Rattle.container.specs.Directory.{occurrences, repeated, missing}
use Rattle.container.proofs.HeaderLaws.{magic_exactly, directory_exactly}
use Rattle.soundness.specs.FileGrammar.{Header, Entry, Known, Occurs, OccursAgain}
use Rattle.soundness.proofs.FileFormat.{read_header, read_entry, read_directory}
use Rattle.soundness.proofs.Decides.{dec_either}
use Rattle.soundness.proofs.Mirror.{each_mirrored, once_mirrored, there_mirrored}

-- ---- 3 to 5

-- what a header says of the directory
abbrev pub Directory : List ℕ → Header → Type 0
Directory file h =
    (sections_size.least ≤ h.sections) × (h.sections ≤ sections_size.most) × (h.directory ≡ 32) ×
    (32 + 60 * h.sections ≤ length file)

module _ (file : List ℕ) (long : file_size.least ≤ length file) where
  pub magic_fine : (other_magic file ≡ false) ↔ ((read_header file).magic ≡ ascii "ARBORICX")
  unfolding read_header
  magic_fine =
      let q = span_in file 0 8 (omega arith) in
      (λ e. sym q ∙ (magic_exactly file long).0 e, λ e. (magic_exactly file long).1 (q ∙ e))

pub major_fine : (file : List ℕ) → (other_major file ≡ false) ↔ ((read_header file).major ≡ 1)
unfolding other_major read_header
major_fine file = not_exactly _ (equal_exactly _ 1)

pub directory_fine : (file : List ℕ) → (no_directory file ≡ false) ↔ Directory file (read_header file)
unfolding section_count directory_offset read_header
directory_fine file = directory_exactly file

-- ---- 6 to 11

-- what a fine entry is
abbrev pub Optional : Entry → Type 0
Optional e = (Known e → ⊥) → e.flags % 2 ≡ 0

abbrev pub Plain : Entry → Type 0
Plain e = (e.compression ≡ 0) × (e.algorithm ≡ 1)

abbrev pub Inside : List ℕ → Entry → Type 0
Inside file e = e.offset + e.size ≤ length file

abbrev pub Digested : List ℕ → Entry → Type 0
Digested file e = Known e → sha256 (span file e.offset e.size) ≡ e.digest

known_true : (k : ℕ) → (known k ≡ true) ↔ ((k ≡ 1) ⊎ (k ≡ 2))
known_true k = go (eqb k 1) refl
  where
    go : (b : Bool) → eqb k 1 ≡ b → (cond b true (eqb k 2) ≡ true) ↔ ((k ≡ 1) ⊎ (k ≡ 2))
    go true q = (λ _. inl (eqb-true k 1 q), λ _. refl)
    go false q = (
      λ e. inr (eqb-true k 2 e),
      λ h. ⊎_elim (λ a. absurd (eqb-false k 1 q a)) (λ a. eq-eqb k 2 a) h,
    )

known_false : (k : ℕ) → (known k ≡ false) ↔ (((k ≡ 1) ⊎ (k ≡ 2)) → ⊥)
known_false k = go (known k) (known_true k)
  where
    go : (b : Bool) → (b ≡ true) ↔ ((k ≡ 1) ⊎ (k ≡ 2)) → (b ≡ false) ↔ (((k ≡ 1) ⊎ (k ≡ 2)) → ⊥)
    go true f = (λ e. not_both refl e, λ n. absurd (n (f.0 refl)))
    go false f = (λ _ h. not_both (f.1 h) refl, λ _. refl)

pub dec_known : (e : Entry) → Dec (Known e)
dec_known e = dec_either (ℕ_discrete e.kind 1) (ℕ_discrete e.kind 2)

module _ (file : List ℕ) where
  -- one entry does not have a fault
  optional_exactly : (e : Read) → (entry_faulty file Critical e ≡ false) ↔ (known e.kind ≡ false → e.flags % 2 ≡ 0)
  unfolding entry_faulty critical
  optional_exactly e =
      let even : (eqb (e.flags % 2) 1 ≡ false) ↔ (e.flags % 2 ≡ 0) =
      (λ q. omega (arith, eqb-false (e.flags % 2) 1 q), λ z. ne_eqb (e.flags % 2) 1 (omega arith)) in
      unless_exactly _ even (known e.kind)

  plain_exactly : (e : Read) → (entry_faulty file Coded e ≡ false) ↔ ((e.compression ≡ 0) × (e.algorithm ≡ 1))
  unfolding entry_faulty coded
  plain_exactly e =
      let tests =
      any_more _ (not_exactly _ (equal_exactly e.compression 0))
      (any_more _ (not_exactly _ (equal_exactly e.algorithm 1)) any_none) in
      (λ q. let (c, (a, _)) = tests.0 q in (c, a), λ h. tests.1 (h.0, (h.1, tt)))

  inside_exactly : (e : Read) → (entry_faulty file Outside e ≡ false) ↔ (e.offset + e.size ≤ length file)
  unfolding entry_faulty outside
  inside_exactly e = below_exactly (length file) (e.offset + e.size)

  digest_exactly : (e : Read) →
      (entry_faulty file Altered e ≡ false) ↔ (known e.kind ≡ true → sha256 (section_of file e) ≡ digest_of file e)
  unfolding entry_faulty altered
  digest_exactly e =
      where_exactly _ (not_exactly _ (same_exactly (sha256 (section_of file e)) (digest_of file e))) (known e.kind)

  -- none of some entries has it
  none_faulty : (fault : EntryFault) (Fine : Read → Type 0) → ((e : Read) → (entry_faulty file fault e ≡ false) ↔ Fine e) →
      (es : List Read) → (some_entry file fault es ≡ false) ↔ ((e : Read) → Among e es → Fine e)
  unfolding some_entry
  none_faulty fault Fine fine es = none_exactly (λ e rest. entry_faulty file fault e) Fine (λ e rest. fine e) es

  -- each entry is fine
  abbrev pub All : (Entry → Type 0) → Type 0
  All P = (e : Entry) → Among e (read_directory file) → P e

  pub optional_fine : (some_entry file Critical (entries file) ≡ false) ↔ All Optional
  unfolding entry_at read_entry
  optional_fine = Iff.trans (none_faulty Critical _ optional_exactly (entries file)) (each_mirrored file _ _ same)
    where
      same : (p : ℕ) → (known (entry_at file p).kind ≡ false → (entry_at file p).flags % 2 ≡ 0) ↔ Optional (read_entry file p)
      same p = (λ f n. f ((known_false _).1 n), λ f e. f ((known_false _).0 e))

  pub plain_fine : (some_entry file Coded (entries file) ≡ false) ↔ All Plain
  unfolding entry_at read_entry
  plain_fine = Iff.trans (none_faulty Coded _ plain_exactly (entries file)) (each_mirrored file _ _ same)
    where
      same : (p : ℕ) → (((entry_at file p).compression ≡ 0) × ((entry_at file p).algorithm ≡ 1)) ↔ Plain (read_entry file p)
      same p = (λ f. f, λ f. f)

  pub inside_fine : (some_entry file Outside (entries file) ≡ false) ↔ All (Inside file)
  unfolding entry_at read_entry
  inside_fine = Iff.trans (none_faulty Outside _ inside_exactly (entries file)) (each_mirrored file _ _ same)
    where
      same : (p : ℕ) → ((entry_at file p).offset + (entry_at file p).size ≤ length file) ↔ Inside file (read_entry file p)
      same p = (λ f. f, λ f. f)

  pub digest_fine : (some_entry file Altered (entries file) ≡ false) ↔ All (Digested file)
  unfolding entry_at read_entry
  digest_fine = Iff.trans (none_faulty Altered _ digest_exactly (entries file)) (each_mirrored file _ _ same)
    where
      same : (p : ℕ) →
          (known (entry_at file p).kind ≡ true → sha256 (section_of file (entry_at file p)) ≡ digest_of file (entry_at file p)) ↔
          Digested file (read_entry file p)
      same p = (λ f n. f ((known_true _).1 n), λ f e. f ((known_true _).0 e))

  -- 9 and 10
  pub again_fine : (repeated file ≡ false) ↔
      ((OccursAgain 1 (read_directory file) → ⊥) × (OccursAgain 2 (read_directory file) → ⊥))
  unfolding repeated
  again_fine =
      let once : (kind : ℕ) → (ltb 1 (occurrences kind (entries file)) ≡ false) ↔ (OccursAgain kind (read_directory file) → ⊥) =
      λ kind. Iff.trans (below_exactly 1 (occurrences kind (entries file))) (once_mirrored file kind) in
      let tests = any_more _ (once 1) (any_more _ (once 2) any_none) in
      (λ e. let (a, (b, _)) = tests.0 e in (a, b), λ h. tests.1 (h.0, (h.1, tt)))

  pub there_fine : (missing file ≡ false) ↔ (Occurs 1 (read_directory file) × Occurs 2 (read_directory file))
  unfolding missing
  there_fine =
      let some : (kind : ℕ) → (eqb (occurrences kind (entries file)) 0 ≡ false) ↔ Occurs kind (read_directory file) =
      λ kind. (
        λ e. (there_mirrored file kind).0 (omega (arith, eqb-false (occurrences kind (entries file)) 0 e)),
        λ o. let h = (there_mirrored file kind).1 o in ne_eqb (occurrences kind (entries file)) 0 (omega arith),
      ) in
      let tests = any_more _ (some 1) (any_more _ (some 2) any_none) in
      (λ e. let (a, (b, _)) = tests.0 e in (a, b), λ h. tests.1 (h.0, (h.1, tt)))
