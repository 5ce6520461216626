-- The manifest's shape. Each definition takes the bytes of the section and a position, and gives the position after what stands
-- there, or None where it does not have the stated shape.
use Rattle.std.specs.Prelude.{ℕ, zero, suc, ◌+◌, List, cond, length, leb, eqb, Option, Some, None, Ok, Err}
use Rattle.lists.specs.Options.{◌>>=◌}
use Rattle.wire.specs.Wire.{number_at, span_end, span, holds_at, ascii}
use Rattle.utf8.specs.Check.{Validity, check}
use Rattle.sizes.specs.Sizes.{within, any_count, roots_size, exports_size, fields_size, hash_bytes}
use Rattle.sizes.specs.declared.Size.{Size}
use Rattle.manifest_shape.specs.declared.parts.Kind.{Kind}
use Rattle.manifest_shape.specs.declared.parts.Kind.TheVariants.{Text, Root, Export, Field}
use Rattle.manifest_shape.specs.declared.Layout.{Layout}

-- what is read as text has to be it
abbrev pub if_valid : Validity → Option ℕ → Option ℕ
if_valid (Ok u) p = p
if_valid (Err bad) p = None

-- n bytes of UTF-8
unfoldable pub text_end : List ℕ → ℕ → ℕ → Option ℕ
text_end s at n = do
  end ← span_end s at n
  if_valid (check (span s at n)) (Some end)

-- a string: a u32 byte length and that many bytes of UTF-8
unfoldable pub string_end : List ℕ → ℕ → Option ℕ
string_end s at = do
  n ← number_at 4 s at
  text_end s (at + 4) n

-- a root: 32 raw hash bytes and a role string
unfoldable pub root_end : List ℕ → ℕ → Option ℕ
root_end s at = do
  role ← span_end s at hash_bytes
  string_end s role

-- an export: a name string, 32 raw hash bytes, a kind string, an abi string
unfoldable pub export_end : List ℕ → ℕ → Option ℕ
export_end s at = do
  hash ← string_end s at
  abi ← root_end s hash
  string_end s abi

-- a u32 length and that many bytes
unfoldable pub sized_end : List ℕ → ℕ → Option ℕ
sized_end s at = do
  n ← number_at 4 s at
  span_end s (at + 4) n

-- a field: a u16 tag, a u32 length, that many bytes
unfoldable pub field_end : List ℕ → ℕ → Option ℕ
field_end s at = do
  length ← span_end s at 2
  sized_end s length

unfoldable pub item_end : List ℕ → Kind → ℕ → Option ℕ
item_end s Text at = string_end s at
item_end s Root at = root_end s at
item_end s Export at = export_end s at
item_end s Field at = field_end s at

-- n items, one after the other
unfoldable pub items_end : List ℕ → Kind → ℕ → ℕ → Option ℕ
items_end s kind zero at = Some at
items_end s kind (suc n) at = do
  next ← item_end s kind at
  items_end s kind n next

-- a u32 count within its size, and as many items
unfoldable pub counted_end : List ℕ → Kind → Size → ℕ → Option ℕ
counted_end s kind size at = do
  n ← number_at 4 s at
  cond (within size n) (items_end s kind n (at + 4)) None

-- one closure byte, 0 complete, 1 partial
unfoldable pub closure_end : List ℕ → ℕ → Option ℕ
closure_end s at = do
  b ← number_at 1 s at
  cond (leb b 1) (Some (at + 1)) None

-- the eight bytes ARBMNFST; u16 major 1; u16 minor, not judged
unfoldable pub head_end : List ℕ → Option ℕ
head_end s =
    cond
    (holds_at s 0 (ascii "ARBMNFST"))
    (number_at 2 s 8 >>= (λ major. cond (eqb major 1) (span_end s 10 2) None))
    None

-- where each part of a manifest starts, if it has the stated shape: then the end, no byte left over
unfoldable pub manifest_of : List ℕ → Option Layout
manifest_of s = do
  strings ← head_end s
  capabilities ← items_end s Text 9 strings
  closure ← counted_end s Text any_count capabilities
  roots ← closure_end s closure
  exports ← counted_end s Root roots_size roots
  metadata ← counted_end s Export exports_size exports
  extensions ← counted_end s Field fields_size metadata
  end ← counted_end s Field fields_size extensions
  cond
      (eqb end (length s))
      (Some
      (record { strings = strings; capabilities = capabilities; closure = closure; roots = roots; exports = exports }))
      None
