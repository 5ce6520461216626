-- Where none of 1 to 14 holds, the part that is a name lies in the file, and its bytes are the text in the manifest section.
use Rattle.std.specs.Prelude.{Some}
use Prim.Native.Nat.{ℕ, ◌+◌, ◌≤◌}
use mathlib.Core.Path.{◌≡◌, ◌∙◌}
use mathlib.Core.List.{List}
use native.Mathlib.Omega.{arith}
use lib.ListN.{length}
use Rattle.wire.specs.Wire.{span}
use Rattle.wire.proofs.Spans.{span_length, span_within}
use Rattle.manifest.specs.Content.{text_at, count_at}
use Rattle.manifest.specs.Judged.{export_place}
use Rattle.manifest.proofs.Places.{place_text}
use Rattle.container.specs.Directory.{entries, entry_of, manifest_kind, section, manifest_section}
use Rattle.bundle.specs.Checks.{name_refusal}
use Rattle.bundle.specs.Exports.{manifest_start}
use Rattle.bundle.proofs.Stages.{names_section}

module _ (file : List ℕ) (z : name_refusal file ≡ 0) where
  size : ℕ
  size = (entry_of manifest_kind (entries file)).size

  section_length : length (manifest_section file) ≡ size
  unfolding section size
  section_length = span_length file (manifest_start file) size (names_section file z manifest_kind)

  module _ (i : ℕ) {at : ℕ} (g : export_place (manifest_section file) i ≡ Some at) where
    in_section : at + 4 + count_at (manifest_section file) at ≤ size
    in_section = rw (← section_length) (place_text (manifest_section file) i g).inside

    pub name_inside : manifest_start file + (at + 4) + count_at (manifest_section file) at ≤ length file
    unfolding size
    name_inside = omega (arith, in_section, names_section file z manifest_kind)

    pub name_bytes :
        text_at (manifest_section file) (Some at)
        ≡ span file (manifest_start file + (at + 4)) (count_at (manifest_section file) at)
    unfolding section size
    name_bytes =
        (place_text (manifest_section file) i g).is ∙
        span_within file (manifest_start file) size (at + 4) (count_at (manifest_section file) at)
        (names_section file z manifest_kind) in_section
