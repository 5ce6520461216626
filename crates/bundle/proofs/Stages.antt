-- The container is checked first, then the manifest, then the nodes, each by a table: who answers, and what no answer of the
-- tables before gives to the next.
use Prim.Native.Nat.{ℕ, ◌+◌, ◌≤◌}
use mathlib.Core.Path.{◌≡◌, refl, sym, ◌∙◌}
use mathlib.Core.List.{List}
use mathlib.Core.Bool.{true, false}
use native.Mathlib.Omega.{arith}
use borrow.Author.Tests.{not-false}
use lib.ListN.{length}
use Rattle.refusals.specs.Refusals.{answer, Clear, row_holds}
use Rattle.refusals.proofs.Rows.{accept, answer_clear, clear_row, clear_before, clear_after, refused_first, passed_first}
use Rattle.manifest.specs.Judged.{malformed, misnamed}
use Rattle.nodes.specs.declared.faults.RecordFault.TheVariants.{Child}
use Rattle.nodes.specs.Records.{shaped, nodes_of, some_record}
use Rattle.nodes.specs.Links.{circular}
use Rattle.container.specs.Directory.{entries, entry_of, manifest_section, nodes_section}
use Rattle.container.specs.Checks.{header_checks, directory_checks, container_checks}
use Rattle.container.proofs.Stages.{sections_inside}
use Rattle.bundle.specs.Checks.{manifest_checks, node_checks, name_checks, checks, name_refusal, refusal}

-- k stands for the answer of a stage
module _ (file : List ℕ) where
  pub container_first : {k : ℕ} → k ≡ answer (container_checks file) → (k ≡ 0 → ⊥) → k ≡ name_refusal file
  unfolding name_refusal name_checks
  container_first e n = refused_first (container_checks file) (manifest_checks (manifest_section file)) e n

  pub then_manifest : answer (container_checks file) ≡ 0 → {k : ℕ} → k ≡ answer (manifest_checks (manifest_section file)) →
      k ≡ name_refusal file
  unfolding name_refusal name_checks container_checks header_checks directory_checks
  then_manifest z e =
      e ∙ sym (passed_first (manifest_checks (manifest_section file))
      (answer_clear (container_checks file) (omega arith) refl z))

  pub names_first : {k : ℕ} → k ≡ name_refusal file → (k ≡ 0 → ⊥) → k ≡ refusal file
  unfolding name_refusal refusal checks
  names_first e n = refused_first (name_checks file) (node_checks (manifest_section file) (nodes_section file)) e n

  -- none of 1 to 14 holds: the manifest has its shape, and the section of a type lies in the file
  module _ (z : name_refusal file ≡ 0) where
    names_clear : Clear (name_checks file)
    unfolding name_refusal name_checks container_checks header_checks directory_checks manifest_checks
    names_clear = answer_clear (name_checks file) (omega arith) refl z

    pub then_nodes : {k : ℕ} → k ≡ answer (node_checks (manifest_section file) (nodes_section file)) → k ≡ refusal file
    unfolding refusal checks
    then_nodes e = e ∙ sym (passed_first (node_checks (manifest_section file) (nodes_section file)) names_clear)

    pub names_formed : malformed (manifest_section file) ≡ false
    unfolding name_checks manifest_checks row_holds
    names_formed = clear_row 12 (clear_after (container_checks file) (manifest_checks (manifest_section file)) names_clear)

    pub names_right : misnamed (manifest_section file) ≡ false
    unfolding name_checks manifest_checks row_holds
    names_right = clear_row 14 (clear_after (container_checks file) (manifest_checks (manifest_section file)) names_clear)

    pub names_section : (kind : ℕ) → (entry_of kind (entries file)).offset + (entry_of kind (entries file)).size ≤ length file
    unfolding name_checks
    names_section =
        sections_inside file (clear_before (container_checks file) (manifest_checks (manifest_section file)) names_clear)

  -- none of 1 to 20 holds: the nodes have their shape, each child has a record, and none is its own descendant
  module _ (z : refusal file ≡ 0) where
    pub sound_clear : Clear (checks file)
    unfolding refusal checks name_checks container_checks header_checks directory_checks manifest_checks node_checks
    sound_clear = answer_clear (checks file) (omega arith) refl z

    nodes_clear : Clear (node_checks (manifest_section file) (nodes_section file))
    unfolding checks
    nodes_clear = clear_after (name_checks file) (node_checks (manifest_section file) (nodes_section file)) sound_clear

    pub names_of_all : name_refusal file ≡ 0
    unfolding name_refusal checks
    names_of_all =
        sym (accept (name_checks file) (clear_before (name_checks file) (node_checks (manifest_section file) (nodes_section file)) sound_clear))

    pub sound_shaped : shaped (nodes_section file) ≡ true
    unfolding node_checks row_holds
    sound_shaped = not-false _ (clear_row 15 nodes_clear)

    pub sound_closed : some_record Child (nodes_of (nodes_section file)) (nodes_of (nodes_section file)) ≡ false
    unfolding node_checks row_holds
    sound_closed = clear_row 18 nodes_clear

    pub sound_whole : circular (nodes_of (nodes_section file)) ≡ false
    unfolding node_checks row_holds
    sound_whole = clear_row 19 nodes_clear
