-- What stands in a manifest: texts, hashes, roots and exports, read at positions of the section. Strings are stepped over by their
-- lengths: that they are text is judged before anything is read (12).
use Rattle.std.specs.Prelude.{ℕ, zero, suc, ◌+◌, List, [], ◌∷◌, Option, Some}
use Rattle.lists.specs.Options.{◌>>=◌, on_some}
use Rattle.wire.specs.Wire.{number_at, span_end, span, or_zero}
use Rattle.sizes.specs.Sizes.{hash_bytes}
use Rattle.manifest_shape.specs.Shape.{sized_end}
use Rattle.manifest.specs.declared.listed.Reference.{Reference}
use Rattle.manifest.specs.declared.listed.Places.{Places}

-- after a root, and after an export
unfoldable pub root_past : List ℕ → ℕ → Option ℕ
root_past s at = do
  role ← span_end s at hash_bytes
  sized_end s role

unfoldable pub export_past : List ℕ → ℕ → Option ℕ
export_past s at = do
  hash ← sized_end s at
  abi ← root_past s hash
  sized_end s abi

pub record Root : Type 0 where
  pub hash : List ℕ
  pub role : List ℕ

pub record Export : Type 0 where
  pub name : List ℕ
  pub hash : List ℕ
  pub kind : List ℕ
  pub abi : List ℕ

-- the text of the string that stands at a position; none where there is no position
unfoldable pub text_at : List ℕ → Option ℕ → List ℕ
text_at s p = on_some p (λ at. on_some (number_at 4 s at) (λ n. span s (at + 4) n) []) []

-- the bytes of a hash that stand at a position
unfoldable pub hash_at : List ℕ → Option ℕ → List ℕ
hash_at s p = on_some p (λ at. span s at hash_bytes) []

abbrev pub root_at : List ℕ → ℕ → Root
root_at s at = record { hash = hash_at s (Some at); role = text_at s (span_end s at hash_bytes) }

abbrev pub export_at : List ℕ → ℕ → Export
export_at s at =
    record {
      name = text_at s (Some at);
      hash = hash_at s (sized_end s at);
      kind = text_at s (sized_end s at >>= (λ p. span_end s p hash_bytes));
      abi = text_at s (sized_end s at >>= root_past s);
    }

-- n things, one after the other from a position on: where one ends, and what stands there
unfoldable pub list_from : {A : Type 0} → (ℕ → Option ℕ) → (ℕ → A) → ℕ → ℕ → List A
list_from end read zero at = []
list_from end read (suc n) at = on_some (end at) (λ next. read at ∷ list_from end read n next) []

abbrev pub texts_from : List ℕ → ℕ → ℕ → List (List ℕ)
texts_from s n at = list_from (sized_end s) (λ p. text_at s (Some p)) n at

abbrev pub roots_from : List ℕ → ℕ → ℕ → List Root
roots_from s n at = list_from (root_past s) (root_at s) n at

abbrev pub exports_from : List ℕ → ℕ → ℕ → List Export
exports_from s n at = list_from (export_past s) (export_at s) n at

-- a root or an export by position: where it ends, and the hash that it names
unfoldable pub reference_end : List ℕ → Reference → ℕ → Option ℕ
reference_end s Reference.Root at = root_past s at
reference_end s Reference.Export at = export_past s at

unfoldable pub reference_hash : List ℕ → Reference → ℕ → List ℕ
reference_hash s Reference.Root at = hash_at s (Some at)
reference_hash s Reference.Export at = hash_at s (sized_end s at)

-- the positions of n of them, and of those that are left to read
abbrev pub places_from : List ℕ → Reference → ℕ → ℕ → List ℕ
places_from s kind n at = list_from (reference_end s kind) (λ p. p) n at

abbrev pub left_places : Places → List ℕ
left_places e = places_from e.section.now e.kind e.left e.at

-- the count that stands at a position
unfoldable pub count_at : List ℕ → ℕ → ℕ
count_at s at = or_zero (number_at 4 s at)

-- the things after the count that stands at a position
unfoldable pub roots_at : List ℕ → ℕ → List Root
roots_at s at = on_some (number_at 4 s at) (λ n. roots_from s n (at + 4)) []

unfoldable pub exports_at : List ℕ → ℕ → List Export
exports_at s at = on_some (number_at 4 s at) (λ n. exports_from s n (at + 4)) []

-- where each of those roots or exports stands
unfoldable pub places_at : List ℕ → Reference → ℕ → List ℕ
places_at s kind at = on_some (number_at 4 s at) (λ n. places_from s kind n (at + 4)) []

unfoldable pub names : List Export → List (List ℕ)
names [] = []
names (e ∷ es) = e.name ∷ names es
