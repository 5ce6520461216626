-- The answer of the checks is the smallest number that applies: proofs of specs/Applies.antt.
use Prim.Native.Nat.{ℕ, ◌≤◌, ◌<◌}
use mathlib.Core.Path.{◌≡◌}
use mathlib.Core.List.{List}
use native.Mathlib.Omega.{arith}
use Rattle.container.specs.Directory.{manifest_section, nodes_section}
use Rattle.refusals.specs.Refusals.{Clear, row_holds, Ascends, Numbered}
use Rattle.refusals.proofs.Rows.{clear_row, clear_before, clear_after}
use Rattle.container.specs.Checks.{header_checks, directory_checks, container_checks}
use Rattle.container.proofs.Stages.{container_parts}
use Rattle.bundle.specs.Checks.{manifest_checks, node_checks, name_checks, checks, name_refusal, refusal}
use Rattle.soundness.specs.FileGrammar.{HasDirectory, SectionOf, Occurs, OccursAgain}
use Rattle.soundness.specs.Applies.{Applies, NumberExactly, NoneExactly, NameNumberExactly, NameNoneExactly}
use Rattle.soundness.specs.Applies as rows
use Rattle.soundness.proofs.FileFormat.{read_header, read_directory}
use Rattle.soundness.proofs.Sections.{section_only, section_read}
use Rattle.soundness.proofs.ManifestMeaning.{shaped_exactly}
use Rattle.soundness.proofs.Directory.{Inside, All, inside_fine, again_fine, there_fine}
use Rattle.soundness.proofs.FileRows.{header_means, header_directory, directory_means}
use Rattle.soundness.proofs.SectionRows.{manifest_means, nodes_means, the_manifest, one_contents}
use Rattle.soundness.proofs.Smallest.{Means, means_parts, Consecutive, first_exactly, first_none}

-- a number that applies is one of 1 to 20
pub bounds : {file : List ℕ} {n : ℕ} → Applies file n → (0 < n) × (n ≤ 20)
bounds (rows.over _) = (omega arith, omega arith)
bounds (rows.under _) = (omega arith, omega arith)
bounds (rows.magic _ _) = (omega arith, omega arith)
bounds (rows.major _ _) = (omega arith, omega arith)
bounds (rows.sections _ _) = (omega arith, omega arith)
bounds (rows.directory_offset _ _) = (omega arith, omega arith)
bounds (rows.directory_end _ _) = (omega arith, omega arith)
bounds (rows.critical _ _ _) = (omega arith, omega arith)
bounds (rows.compression _ _) = (omega arith, omega arith)
bounds (rows.algorithm _ _) = (omega arith, omega arith)
bounds (rows.outside _ _) = (omega arith, omega arith)
bounds (rows.again _ _) = (omega arith, omega arith)
bounds (rows.missing _ _) = (omega arith, omega arith)
bounds (rows.digest _ _ _ _) = (omega arith, omega arith)
bounds (rows.manifest_shape _ _) = (omega arith, omega arith)
bounds (rows.fixed_string _ _) = (omega arith, omega arith)
bounds (rows.export_abi _ _ _) = (omega arith, omega arith)
bounds (rows.capability _ _) = (omega arith, omega arith)
bounds (rows.closure _ _) = (omega arith, omega arith)
bounds (rows.size_of_name _ _ _) = (omega arith, omega arith)
bounds (rows.name_twice _ _) = (omega arith, omega arith)
bounds (rows.nodes_shape _ _) = (omega arith, omega arith)
bounds (rows.hash _ _ _) = (omega arith, omega arith)
bounds (rows.hash_twice _ _) = (omega arith, omega arith)
bounds (rows.child _ _ _ _ _) = (omega arith, omega arith)
bounds (rows.circle _ _) = (omega arith, omega arith)
bounds (rows.root _ _ _ _) = (omega arith, omega arith)
bounds (rows.export _ _ _ _) = (omega arith, omega arith)

module _ (file : List ℕ) where
  -- the sections that are read are those of the file
  module _ (dir : HasDirectory (read_header file) (read_directory file) file) (clear : Clear (directory_checks file)) where
    inside_each : All file (Inside file)
    unfolding directory_checks row_holds
    inside_each = (inside_fine file).0 (clear_row 8 clear)

    at_most_once : (OccursAgain 1 (read_directory file) → ⊥) × (OccursAgain 2 (read_directory file) → ⊥)
    unfolding directory_checks row_holds
    at_most_once = (again_fine file).0 (clear_row 9 clear)

    at_least_once : Occurs 1 (read_directory file) × Occurs 2 (read_directory file)
    unfolding directory_checks row_holds
    at_least_once = (there_fine file).0 (clear_row 10 clear)

    first_section : SectionOf file 1 (manifest_section file)
    first_section = section_read file 1 at_most_once.0 dir inside_each at_least_once.0

    first_only : (t : List ℕ) → SectionOf file 1 t → manifest_section file ≡ t
    first_only = section_only file 1 at_most_once.0

    second_section : SectionOf file 2 (nodes_section file)
    second_section = section_read file 2 at_most_once.1 dir inside_each at_least_once.1

    second_only : (t : List ℕ) → SectionOf file 2 t → nodes_section file ≡ t
    second_only = section_only file 2 at_most_once.1

  abbrev m : List ℕ
  m = manifest_section file

  abbrev s : List ℕ
  s = nodes_section file

  container_means : Means (Applies file) (container_checks file)
  unfolding container_checks
  container_means =
      means_parts (Applies file) (header_checks file) (directory_checks file) (header_means file) λ h.
      directory_means file (header_directory file h)

  names_means : Means (Applies file) (name_checks file)
  unfolding name_checks
  names_means =
      means_parts (Applies file) (container_checks file) (manifest_checks m) container_means λ h.
      let (header, c) = container_parts file h in
      let dir = header_directory file header in
      manifest_means file m (first_section dir c) (first_only dir c)

  pub all_means : Means (Applies file) (checks file)
  unfolding checks name_checks manifest_checks row_holds
  all_means =
      means_parts (Applies file) (name_checks file) (node_checks m s) names_means λ h.
      let (header, c) = container_parts file (clear_before (container_checks file) (manifest_checks m) h) in
      let dir = header_directory file header in
      let (contents, is) = (shaped_exactly m).0 (clear_row 12 (clear_after (container_checks file) (manifest_checks m) h)) in
      nodes_means file s (second_section dir c) (second_only dir c) m contents is
      (the_manifest file m (first_section dir c) (first_only dir c) contents is)
      (one_contents file m (first_section dir c) (first_only dir c) contents is)

  -- the numbers of the rows ascend, one by one
  pub names_ascend : Ascends 0 (name_checks file)
  unfolding name_checks container_checks header_checks directory_checks manifest_checks
  names_ascend = omega arith

  pub ascending : Ascends 0 (checks file)
  unfolding checks name_checks container_checks header_checks directory_checks manifest_checks node_checks
  ascending = omega arith

  pub names_numbered : Numbered (name_checks file)
  unfolding name_checks container_checks header_checks directory_checks manifest_checks
  names_numbered = omega arith

  pub numbered : Numbered (checks file)
  unfolding checks name_checks container_checks header_checks directory_checks manifest_checks node_checks
  numbered = omega arith

  names_all : Consecutive 0 (name_checks file)
  unfolding name_checks container_checks header_checks directory_checks manifest_checks
  names_all = omega arith

  checks_all : Consecutive 0 (checks file)
  unfolding checks name_checks container_checks header_checks directory_checks manifest_checks node_checks
  checks_all = omega arith

pub number_exactly : NumberExactly refusal
unfolding refusal checks name_checks container_checks header_checks directory_checks manifest_checks node_checks
number_exactly file n =
    let first =
    first_exactly (Applies file) (λ k x. (bounds x).0) (checks file) (ascending file) (checks_all file) (all_means file) n in
    (λ e. (first.0 e).0, λ x. first.1 (x, (bounds x.applies).1))

pub none_exactly : NoneExactly refusal
unfolding refusal checks name_checks container_checks header_checks directory_checks manifest_checks node_checks
none_exactly file =
    let first =
    first_none (Applies file) (λ k x. (bounds x).0) (checks file) (ascending file) (checks_all file) (all_means file) in
    (λ e n x. first.0 e n (bounds x).1 x, λ f. first.1 (λ n h x. f n x))

pub name_number_exactly : NameNumberExactly
unfolding name_refusal name_checks container_checks header_checks directory_checks manifest_checks
name_number_exactly file n =
    first_exactly (Applies file) (λ k x. (bounds x).0) (name_checks file) (names_ascend file) (names_all file) (names_means file) n

pub name_none_exactly : NameNoneExactly
unfolding name_refusal name_checks container_checks header_checks directory_checks manifest_checks
name_none_exactly file =
    first_none (Applies file) (λ k x. (bounds x).0) (name_checks file) (names_ascend file) (names_all file) (names_means file)
