-- A manifest of the stated shape, by its layout: what is judged of it, and what it has.
use Rattle.std.specs.Prelude.{Some, None}
use Rattle.std.specs.List.{slice_get}
use Prim.Native.Nat.{ℕ}
use mathlib.Core.Path.{◌≡◌}
use mathlib.Core.List.{List}
use mathlib.Core.Bool.{true, false}
use Rattle.lists.specs.Lists.{index_of}
use Rattle.manifest_shape.specs.declared.Layout.{Layout}
use Rattle.manifest_shape.specs.Shape.{manifest_of}
use Rattle.manifest.specs.declared.listed.Reference.{Reference}
use Rattle.manifest.specs.Content.{roots_at, exports_at, places_at, names}
use Rattle.manifest.specs.Judged.{malformed, unsupported_at, unsupported, misnamed_at, misnamed, roots_of, exports_of, export_place, export_index}

module _ (s : List ℕ) {l : Layout} (h : manifest_of s ≡ Some l) where
  pub shape_formed : malformed s ≡ false
  unfolding malformed
  shape_formed = rw h

  pub shape_unsupported : unsupported s ≡ unsupported_at s l
  unfolding unsupported
  shape_unsupported = rw h

  pub shape_misnamed : misnamed s ≡ misnamed_at s l
  unfolding misnamed
  shape_misnamed = rw h

  pub shape_roots : roots_of s ≡ roots_at s l.roots
  unfolding roots_of
  shape_roots = rw h

  pub shape_exports : exports_of s ≡ exports_at s l.exports
  unfolding exports_of
  shape_exports = rw h

  pub shape_place : (i : ℕ) → export_place s i ≡ slice_get (places_at s Reference.Export l.exports) i
  unfolding export_place
  shape_place i = rw h

  pub shape_index : (name : List ℕ) → export_index s name ≡ index_of name 0 (names (exports_at s l.exports))
  unfolding export_index
  shape_index name = rw shape_exports

pub no_shape : (s : List ℕ) → manifest_of s ≡ None → malformed s ≡ true
unfolding malformed
no_shape s h = rw h
