-- What the checks come to, from what the stages answer; and what a verdict tells.
use Rattle.std.specs.Prelude.{Option, Some, None, Result, Ok, Err}
use Prim.Native.Nat.{ℕ}
use mathlib.Core.Path.{◌≡◌, refl, sym, ap, ◌∙◌}
use mathlib.Core.List.{List}
use mathlib.Core.Bool.{false}
use Rattle.refusals.specs.Refusals.{answer}
use Rattle.refusals.proofs.Rows.{by_refusal, by_pass}
use Rattle.refusals.proofs.Outcomes.{by_result, told_refusal, told_pass}
use Rattle.lists.proofs.Same.{not_both}
use Rattle.wire.specs.Wire.{span}
use Rattle.manifest_shape.specs.declared.Layout.{Layout}
use Rattle.manifest_shape.specs.Shape.{manifest_of}
use Rattle.manifest.specs.Judged.{malformed}
use Rattle.manifest.proofs.Shaped.{no_shape}
use Rattle.nodes.specs.Records.{nodes_of}
use Rattle.nodes.specs.Links.{PlacedTables}
use Rattle.container.specs.declared.Sections.{Sections}
use Rattle.container.specs.Directory.{section, manifest_section, nodes_section}
use Rattle.container.specs.Checks.{container_checks, sections_of, located}
use Rattle.bundle.specs.declared.Outline.{Outline}
use Rattle.bundle.specs.Checks.{manifest_checks, node_checks, name_refusal, refusal}
use Rattle.bundle.specs.Verdict.{layout_of, checked_manifest, outline_of, described, judged}
use Rattle.bundle.proofs.Stages.{container_first, then_manifest, names_first, then_nodes, names_formed, names_of_all}

-- the layout of a manifest that has the stated shape
pub shape_layout : (m : List ℕ) {l : Layout} → manifest_of m ≡ Some l → layout_of m ≡ l
unfolding layout_of
shape_layout m e = rw e

formed_layout : (m : List ℕ) → malformed m ≡ false → manifest_of m ≡ Some (layout_of m)
formed_layout m h = go (manifest_of m) refl
  where
    go : (x : Option Layout) → manifest_of m ≡ x → manifest_of m ≡ Some (layout_of m)
    go (Some l) e = rw (shape_layout m e) e
    go None e = not_both (no_shape m e) h

-- ---- 1 to 14: x, m and y stand for what was located, for the manifest section and for what its checks came to
module _ (file : List ℕ) {x : Result Sections ℕ} (e : x ≡ located file) where
  pub by_container : {n : ℕ} → x ≡ Err n → Err n ≡ described file
  unfolding located described
  by_container f =
      let (k, some) = told_refusal by_result (answer (container_checks file)) (sections_of file) e f in
      by_refusal Err (Ok (outline_of file)) (container_first file k some) some

  module _ {s : Sections} (f : x ≡ Ok s) where
    at_sections : (answer (container_checks file) ≡ 0) × (s ≡ sections_of file)
    unfolding located
    at_sections = told_pass by_result (answer (container_checks file)) (sections_of file) e f

    module _ {m : List ℕ} (g : m ≡ span file s.manifest.start s.manifest.size) {y : Result Layout ℕ}
        (h : y ≡ checked_manifest m) where
      at_manifest : m ≡ manifest_section file
      unfolding section
      at_manifest = g ∙ ap (λ (t : Sections). span file t.manifest.start t.manifest.size) at_sections.1

      pub by_manifest : {n : ℕ} → y ≡ Err n → Err n ≡ described file
      unfolding checked_manifest described
      by_manifest i =
          let (k, some) = told_refusal by_result (answer (manifest_checks m)) (layout_of m) h i in
          by_refusal Err (Ok (outline_of file)) (then_manifest file at_sections.0 (rw at_manifest at k)) some

      pub all_found : {l : Layout} → y ≡ Ok l →
          Ok (record { manifest = s.manifest; nodes = s.nodes; layout = l }) ≡ described file
      unfolding checked_manifest outline_of described
      all_found i =
          let (z, k) = told_pass by_result (answer (manifest_checks m)) (layout_of m) h i in
          rw (at_sections.1, k, at_manifest)
          (by_pass Err (Ok (outline_of file)) (then_manifest file at_sections.0 (rw at_manifest at (sym z))) refl)

-- what a file has that none of 1 to 14 refuses
module _ (file : List ℕ) {c : Outline} (e : described file ≡ Ok c) where
  passed_names : (name_refusal file ≡ 0) × (c ≡ outline_of file)
  unfolding described
  passed_names = told_pass by_result (name_refusal file) (outline_of file) refl e

  pub names_passed : name_refusal file ≡ 0
  names_passed = passed_names.0

  pub contents_are : c ≡ outline_of file
  contents_are = passed_names.1

  pub contents_shape : manifest_of (manifest_section file) ≡ Some c.layout
  unfolding outline_of
  contents_shape = rw contents_are (formed_layout (manifest_section file) (names_formed file names_passed))

  pub contents_manifest : span file c.manifest.start c.manifest.size ≡ manifest_section file
  unfolding outline_of section
  contents_manifest = rw contents_are

  pub contents_nodes : span file c.nodes.start c.nodes.size ≡ nodes_section file
  unfolding outline_of section
  contents_nodes = rw contents_are

-- ---- 1 to 20: v stands for what 1 to 14 came to, m and s for the two sections and k for what the checks of the nodes answered
module _ (file : List ℕ) {v : Result Outline ℕ} (e : v ≡ described file) where
  pub described_refused : {n : ℕ} → v ≡ Err n → (n ≡ name_refusal file) × (n ≡ 0 → ⊥)
  unfolding described
  described_refused f = told_refusal by_result (name_refusal file) (outline_of file) e f

  pub by_names : {n : ℕ} → v ≡ Err n → (Err n ≡ judged file) × (refusal file ≡ 0 → ⊥)
  unfolding judged
  by_names f =
      let (k, some) = described_refused f in
      let first = names_first file k some in
      (by_refusal Err (Ok (outline_of file)) first some, λ z. some (first ∙ z))

  module _ {c : Outline} (f : v ≡ Ok c) where
    pub described_passed : described file ≡ Ok c
    described_passed = sym e ∙ f

    pub manifest_shape : {m : List ℕ} → m ≡ span file c.manifest.start c.manifest.size → manifest_of m ≡ Some c.layout
    manifest_shape g = rw (g ∙ contents_manifest file described_passed) (contents_shape file described_passed)

    module _ {m s : List ℕ} (g : m ≡ span file c.manifest.start c.manifest.size)
        (h : s ≡ span file c.nodes.start c.nodes.size) {k : ℕ} (i : k ≡ answer (node_checks m s)) where
      nodes_answer : k ≡ refusal file
      nodes_answer =
          then_nodes file (names_passed file described_passed)
          (rw (g ∙ contents_manifest file described_passed, h ∙ contents_nodes file described_passed) at i)

      pub by_nodes : (k ≡ 0 → ⊥) → (Err k ≡ judged file) × (refusal file ≡ 0 → ⊥)
      unfolding judged
      by_nodes n = (by_refusal Err (Ok (outline_of file)) nodes_answer n, λ z. n (nodes_answer ∙ z))

      pub all_pass : k ≡ 0 → Ok c ≡ judged file
      unfolding judged
      all_pass z = rw (contents_are file described_passed) (by_pass Err (Ok (outline_of file)) nodes_answer z)

      -- the records that are placed are those of the nodes section
      pub placed_nodes : {links slots : List ℕ} → PlacedTables (nodes_of s) links slots → PlacedTables (nodes_of (nodes_section file)) links slots
      placed_nodes p = rw (← (h ∙ contents_nodes file described_passed)) p

-- what a verdict of 1 to 20 tells
module _ (file : List ℕ) {v : Result Outline ℕ} (e : v ≡ judged file) where
  pub judged_refused : {n : ℕ} → v ≡ Err n → (n ≡ refusal file) × (n ≡ 0 → ⊥)
  unfolding judged
  judged_refused f = told_refusal by_result (refusal file) (outline_of file) e f

  passed_all : {c : Outline} → v ≡ Ok c → (refusal file ≡ 0) × (c ≡ outline_of file)
  unfolding judged
  passed_all f = told_pass by_result (refusal file) (outline_of file) e f

  module _ {c : Outline} (f : v ≡ Ok c) where
    pub judged_passed : refusal file ≡ 0
    judged_passed = (passed_all f).0

    pub judged_described : described file ≡ Ok c
    unfolding described
    judged_described =
        rw (passed_all f).1 (sym (by_pass Err (Ok (outline_of file)) refl (names_of_all file judged_passed)))
