-- The ways through the calls on exports. v and m stand for what 1 to 14 came to and for the manifest section, as the calls
-- answered them.
use Rattle.std.specs.Prelude.{Option, Some, None, Result, Ok, Err, ok_or}
use Rattle.refusals.specs.declared.Refusal.{Refusal}
use Rattle.refusals.specs.declared.Refusal.TheVariants.{NoExport}
use Rattle.refusals.specs.Numbers.{by_number}
use Prim.Native.Nat.{ℕ, ◌+◌, ◌≤◌}
use mathlib.Core.Path.{◌≡◌, refl, sym, ap, ◌∙◌}
use mathlib.Core.List.{List, [], ◌∷◌}
use native.Mathlib.Omega.{arith}
use borrow.Author.Tests.{eq-eqb, ne_eqb}
use lib.ListN.{length}
use Rattle.std.specs.List.{slice_get}
use Rattle.lists.specs.Lists.{index_of}
use Rattle.wire.specs.declared.Part.{Part}
use Rattle.wire.specs.Wire.{span}
use Rattle.manifest_shape.specs.declared.Layout.{Layout}
use Rattle.manifest_shape.specs.Shape.{manifest_of}
use Rattle.manifest.specs.declared.listed.Reference.{Reference}
use Rattle.manifest.specs.Content.{count_at, exports_at, places_at, names}
use Rattle.manifest.specs.Judged.{export_place}
use Rattle.manifest.proofs.Shaped.{shape_place, shape_index}
use Rattle.container.specs.Directory.{manifest_section}
use Rattle.bundle.specs.declared.Outline.{Outline}
use Rattle.bundle.specs.Verdict.{outline_of, described}
use Rattle.bundle.specs.Exports.{empty_part, manifest_start, name_at, name_part, index_asked, index_answer, index_call}
use Rattle.bundle.proofs.Verdicts.{names_passed, contents_are, contents_shape, contents_manifest, described_refused, described_passed}
use Rattle.bundle.proofs.NameParts.{name_inside}

-- the export with the index i stands at p, as the call answered it
module _ (file : List ℕ) {c : Outline} (e : described file ≡ Ok c) (i : ℕ) {m : List ℕ}
    (g : m ≡ span file c.manifest.start c.manifest.size) {p : Option ℕ}
    (f : p ≡ slice_get (places_at m Reference.Export c.layout.exports) i) where
  place_is : p ≡ export_place (manifest_section file) i
  place_is =
      rw (g ∙ contents_manifest file e) at f ∙ sym (shape_place (manifest_section file) (contents_shape file e) i)

  start_is : c.manifest.start ≡ manifest_start file
  unfolding outline_of
  start_is = ap (λ (d : Outline). d.manifest.start) (contents_are file e)

  module _ {at : ℕ} (h : p ≡ Some at) where
    pub name_room : c.manifest.start + (at + 4) + count_at (manifest_section file) at ≤ length file
    name_room = rw start_is (name_inside file (names_passed file e) i (sym place_is ∙ h))

    pub name_found : {n : ℕ} → n ≡ count_at m at →
        record { start = c.manifest.start + (at + 4); size = n } ≡ name_at file (export_place (manifest_section file) i)
    unfolding name_at
    name_found k = rw (← place_is, h, start_is, k, g ∙ contents_manifest file e)

  pub no_name : p ≡ None → empty_part ≡ name_at file (export_place (manifest_section file) i)
  unfolding name_at
  no_name h = rw (← place_is, h)

module _ (file : List ℕ) (i : ℕ) {v : Result Outline ℕ} (e : v ≡ described file) where
  pub part_refused : {n : ℕ} → v ≡ Err n → empty_part ≡ name_part file i
  unfolding name_part
  part_refused f = let (k, some) = described_refused file e f in rw (← k, ne_eqb _ _ some)

  pub part_found : {c : Outline} → v ≡ Ok c → {q : Part} → q ≡ name_at file (export_place (manifest_section file) i) →
      q ≡ name_part file i
  unfolding name_part
  part_found f h = rw (eq-eqb _ _ (names_passed file (described_passed file e f))) h

-- the index that a name means
pub empty_asked : (m name : List ℕ) → length name ≡ 0 → Some 0 ≡ index_asked m name
unfolding index_asked
empty_asked m [] e = refl
empty_asked m (b ∷ bs) e = absurd (omega arith)

pub name_asked : (m name : List ℕ) {l : Layout} → manifest_of m ≡ Some l → (length name ≡ 0 → ⊥) → {y : Option ℕ} →
    y ≡ index_of name 0 (names (exports_at m l.exports)) → y ≡ index_asked m name
unfolding index_asked
name_asked m [] h n f = absurd (n refl)
name_asked m (b ∷ bs) h n f = f ∙ sym (shape_index m h (b ∷ bs))

module _ (file name : List ℕ) {v : Result Outline ℕ} (e : v ≡ described file) where
  pub index_refused : {n : ℕ} → v ≡ Err n → Err n ≡ index_call file name
  unfolding index_call
  index_refused f = let (k, some) = described_refused file e f in rw (← k, ne_eqb _ _ some)

  module _ {c : Outline} (f : v ≡ Ok c) {m : List ℕ} (g : m ≡ span file c.manifest.start c.manifest.size)
      {y : Option ℕ} (h : y ≡ index_asked m name) where
    asked_is : y ≡ index_asked (manifest_section file) name
    asked_is = rw (g ∙ contents_manifest file (described_passed file e f)) at h

    answer_is : index_answer y ≡ index_call file name
    unfolding index_call
    answer_is = rw (eq-eqb _ _ (names_passed file (described_passed file e f)), ← asked_is)

    -- the index, or the number 25 where none was found
    pub index_told : {r : Result ℕ Refusal} → r ≡ ok_or y NoExport → by_number r ≡ index_call file name
    index_told g = ap by_number g ∙ told y ∙ answer_is
      where
        told : (y : Option ℕ) → by_number (ok_or y NoExport) ≡ index_answer y
        told (Some i) = refl
        told None = refl
