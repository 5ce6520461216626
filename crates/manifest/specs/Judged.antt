-- What is judged of a manifest that has the stated shape: 13 and 14. And its exports by index and by name.
use Rattle.std.specs.Prelude.{ℕ, List, [], ◌∷◌, Bool, true, false, not, cond, length, eqb, Option, Some, None, is_some}
use Rattle.std.specs.List.{slice_get}
use Rattle.lists.specs.Options.{◌>>=◌, on_some}
use Rattle.wire.specs.Wire.{number_at, ascii, or_zero}
use Rattle.lists.specs.Lists.{same_bytes, index_of, any_of, some_of}
use Rattle.sizes.specs.Sizes.{within, capabilities_size, name_size}
use Rattle.manifest_shape.specs.declared.Layout.{Layout}
use Rattle.manifest.specs.declared.listed.Reference.{Reference}
use Rattle.manifest.specs.declared.exports.ExportFault.{ExportFault}
use Rattle.manifest.specs.declared.exports.ExportFault.TheVariants.{Abi, NameSize, NameTwice}
use Rattle.manifest_shape.specs.Shape.{sized_end, manifest_of}
use Rattle.manifest.specs.Content.{Root, Export, text_at, count_at, roots_at, exports_at, places_at, names}

-- what a string has to be
pub data Wanted : Type 0 where
  exactly : List ℕ → Wanted
  any_text : Wanted

abbrev pub abi_name : List ℕ
abi_name = ascii "arboricx.abi.tree.v1"

-- the nine strings, in order; the eighth, evaluation, is any text
unfoldable pub nine_strings : List Wanted
nine_strings =
    exactly (ascii "arboricx.bundle.manifest.v1") ∷
    exactly (ascii "tree-calculus-executable-object") ∷
    exactly (ascii "tree-calculus.v1") ∷
    exactly (ascii "sha256") ∷
    exactly (ascii "arboricx.merkle.node.v1") ∷
    exactly (ascii "arboricx.merkle.payload.v1") ∷
    exactly (ascii "tree-calculus.v1") ∷
    any_text ∷
    exactly abi_name ∷
    []

abbrev pub meets : List ℕ → Wanted → Bool
meets t (exactly w) = same_bytes t w
meets t any_text = true

-- after the string at a position, where it is as wanted
unfoldable pub past : List ℕ → ℕ → Wanted → Option ℕ
past s at wanted = do
  end ← sized_end s at
  cond (meets (text_at s (Some at)) wanted) (Some end) None

-- after as many strings, one after the other
unfoldable pub past_all : List ℕ → ℕ → List Wanted → Option ℕ
past_all s at [] = Some at
past_all s at (w ∷ ws) = do
  end ← past s at w
  past_all s end ws

-- the strings from a position on are the nine
unfoldable pub strings_agree : List ℕ → ℕ → Bool
strings_agree s at = is_some (past_all s at nine_strings)

-- an export's fault; `rest` are the exports after it
unfoldable pub export_faulty : ExportFault → Export → List Export → Bool
export_faulty Abi e rest = not (same_bytes e.abi abi_name)
export_faulty NameSize e rest = not (within name_size (length e.name))
export_faulty NameTwice e rest = is_some (index_of e.name 0 (names rest))

-- some export has the fault
unfoldable pub some_export : ExportFault → List Export → Bool
some_export fault es = some_of (export_faulty fault) es

-- 12: the manifest doesn't have the stated shape
unfoldable pub malformed : List ℕ → Bool
malformed s = on_some (manifest_of s) (λ l. false) true

-- 13: a fixed string or export abi differs, a capability is listed, or closure is 1
unfoldable pub unsupported_at : List ℕ → Layout → Bool
unsupported_at s l =
    any_of
    (not (strings_agree s l.strings) ∷
    some_export Abi (exports_at s l.exports) ∷
    not (within capabilities_size (count_at s l.capabilities)) ∷
    eqb (or_zero (number_at 1 s l.closure)) 1 ∷
    [])

unfoldable pub unsupported : List ℕ → Bool
unsupported s = on_some (manifest_of s) (unsupported_at s) false

-- 14: an export name is empty, over 64 bytes, or used twice
unfoldable pub misnamed_at : List ℕ → Layout → Bool
misnamed_at s l =
    any_of (some_export NameSize (exports_at s l.exports) ∷ some_export NameTwice (exports_at s l.exports) ∷ [])

unfoldable pub misnamed : List ℕ → Bool
misnamed s = on_some (manifest_of s) (misnamed_at s) false

-- the roots and the exports of a manifest, in its order
unfoldable pub roots_of : List ℕ → List Root
roots_of s = on_some (manifest_of s) (λ l. roots_at s l.roots) []

unfoldable pub exports_of : List ℕ → List Export
exports_of s = on_some (manifest_of s) (λ l. exports_at s l.exports) []

-- where an export stands, by its index; and the index of an export by its name
unfoldable pub export_place : List ℕ → ℕ → Option ℕ
export_place s i = slice_get (on_some (manifest_of s) (λ l. places_at s Reference.Export l.exports) []) i

unfoldable pub export_index : List ℕ → List ℕ → Option ℕ
export_index s name = index_of name 0 (names (exports_of s))
