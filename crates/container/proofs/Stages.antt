-- The header is checked first, then the directory: who answers, and what one that passes gives to the next.
use Rattle.std.specs.Prelude.{Ok, Err}
use Prim.Native.Nat.{ℕ, ◌+◌, ◌*◌, ◌≤◌}
use mathlib.Core.Path.{◌≡◌, refl, sym, ◌∙◌}
use mathlib.Core.List.{List}
use native.Mathlib.Omega.{arith}
use lib.ListN.{length}
use Rattle.refusals.specs.Refusals.{answer, Clear, row_holds}
use Rattle.refusals.proofs.Rows.{answer_clear, clear_row, clear_before, clear_after, refused_first, passed_first, by_refusal, by_pass}
use Rattle.container.specs.declared.Sections.{Sections}
use Rattle.container.specs.Header.{header_bytes, entry_bytes, section_count}
use Rattle.container.specs.Directory.{entries, entry_of}
use Rattle.container.specs.Checks.{header_checks, directory_checks, container_checks, sections_of, located}
use Rattle.container.proofs.HeaderLaws.{directory_exactly}
use Rattle.container.proofs.Entries.{section_inside}

module _ (file : List ℕ) where
  pub container_parts : Clear (container_checks file) → Clear (header_checks file) × Clear (directory_checks file)
  unfolding container_checks
  container_parts h =
      (clear_before (header_checks file) (directory_checks file) h, clear_after (header_checks file) (directory_checks file) h)

  -- the directory lies in the file
  pub directory_inside : Clear (header_checks file) → header_bytes + entry_bytes * section_count file ≤ length file
  unfolding header_checks row_holds
  directory_inside h = ((directory_exactly file).0 (clear_row 5 h)).3

  -- the section of a type lies in the file
  pub sections_inside : Clear (container_checks file) → (kind : ℕ) →
      (entry_of kind (entries file)).offset + (entry_of kind (entries file)).size ≤ length file
  unfolding directory_checks row_holds
  sections_inside h kind = section_inside file kind (entries file) (clear_row 8 (container_parts h).1)

  -- h and d stand for the answers of the header and of the directory: each refuses, or is 0
  pub by_header : {h : ℕ} → h ≡ answer (header_checks file) → (h ≡ 0 → ⊥) → Err h ≡ located file
  unfolding located container_checks
  by_header e n = by_refusal Err (Ok (sections_of file)) (refused_first (header_checks file) (directory_checks file) e n) n

  module _ (e : 0 ≡ answer (header_checks file)) where
    header_clear : Clear (header_checks file)
    unfolding header_checks
    header_clear = answer_clear (header_checks file) (omega arith) e refl

    pub header_inside : header_bytes + entry_bytes * section_count file ≤ length file
    header_inside = directory_inside header_clear

    after_header : {d : ℕ} → d ≡ answer (directory_checks file) → d ≡ answer (container_checks file)
    unfolding container_checks
    after_header f = f ∙ sym (passed_first (directory_checks file) header_clear)

    pub by_directory : {d : ℕ} → d ≡ answer (directory_checks file) → (d ≡ 0 → ⊥) → Err d ≡ located file
    unfolding located
    by_directory f n = by_refusal Err (Ok (sections_of file)) (after_header f) n

    pub in_sections : 0 ≡ answer (directory_checks file) → {s : Sections} → s ≡ sections_of file → Ok s ≡ located file
    unfolding located
    in_sections f g = rw g (by_pass Err (Ok (sections_of file)) (after_header f) refl)
