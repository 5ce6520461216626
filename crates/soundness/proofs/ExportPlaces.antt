-- Where an export stands in a manifest: after its head, the count of its exports, and the exports before it.
use Rattle.std.proofs.lemmas.Option.{option_and_then_some, slice_get_past}
use Rattle.std.specs.Prelude.{Some, None}
use Prim.Native.Nat.{ℕ, ◌+◌, ◌≤◌, ◌<◌}
use mathlib.Core.Path.{◌≡◌, ap, subst, ◌∙◌}
use mathlib.Core.List.{List, ◌++◌, append_assoc}
use native.Mathlib.Omega.{arith}
use lib.ListN.{length, take, drop}
use Rattle.wire.specs.Wire.{or_zero}
use Rattle.wire.specs.Relations.{Number, Sequence}
use Rattle.wire.proofs.Reading.{Reads, reads_all, reads_join, reads_split, number_reads, reads_number}
use Rattle.sizes.specs.Sizes.{exports_size}
use Rattle.manifest_shape.specs.declared.parts.Kind.TheVariants.{Export}
use Rattle.manifest_shape.specs.declared.Layout.{Layout}
use Rattle.manifest_shape.specs.Shape.{sized_end, string_end, export_end, item_end, manifest_of}
use Rattle.manifest.specs.Content.{Export as Exported, export_past, reference_end, text_at, export_at, count_at, exports_at, places_at}
use Rattle.manifest.specs.Judged.{export_place}
use Rattle.manifest.proofs.Lists.{list_length}
use Rattle.soundness.specs.ManifestGrammar.{Contents, IsExport, IsManifest}
use Rattle.soundness.specs.ExportCalls.{BeforeExport, before_export}
use Rattle.manifest_shape.proofs.Ends.{string_past, counted_number}
use Rattle.manifest_shape.proofs.Laid.{Laid, shape_laid}
use Rattle.manifest.proofs.Counted.{export_past_lem, items_length}
use Rattle.soundness.proofs.ManifestPieces.{sized_reads}
use Rattle.soundness.proofs.ManifestCounted.{items_forth, item_at, export_kind}
use Rattle.soundness.proofs.ManifestWhole.{contents_at, head_reads, whole_back}

-- the position of an export, the bytes before it, those of its name's length, and those after its name
pub record Stands (s : List ℕ) (m : Contents) (i : ℕ) : Type 0 where
  pub at : ℕ
  pub is_place : export_place s i ≡ Some at
  pub before : List ℕ
  pub is_before : BeforeExport m i before
  pub long : at ≡ length before
  pub size : List ℕ
  pub is_size : Number 4 (length (text_at s (Some at))) size
  pub counts : count_at s at ≡ length (text_at s (Some at))
  pub after : List ℕ
  pub all : s ≡ before ++ (size ++ (text_at s (Some at) ++ after))

stands_read : {s : List ℕ} {m : Contents} {i at past : ℕ} {before : List ℕ} → export_place s i ≡ Some at →
    BeforeExport m i before → Reads s 0 at before → sized_end s at ≡ Some past → Stands s m i
unfolding count_at
stands_read {s} {at = at} {past = past} {before = before} is_place is_before r ends =
    let (size, is_size, w) = sized_reads s at ends in
    record {
      at = at;
      is_place = is_place;
      before = before;
      is_before = is_before;
      long = omega (arith, r.end);
      size = size;
      is_size = is_size;
      counts = ap or_zero (reads_number s at 4 (reads_split {b = size} w).1 is_size).0;
      after = drop past s;
      all = r.rest ∙ ap (λ (x : List ℕ). before ++ x) (w.rest ∙ append_assoc size _ _);
    }

module _ {s : List ℕ} {l : Layout} (g : manifest_of s ≡ Some l) {metadata extensions : ℕ} (t : Laid s l metadata extensions) where
  stands_laid : (i : ℕ) → i < length (exports_at s l.exports) → Stands s (contents_at s l) i
  unfolding export_place places_at reference_end exports_at item_end export_end
  stands_laid i h =
      let (b, r, is-head) = head_reads t in
      counted_number s Export exports_size l.exports t.exports λ n k least most ends.
      let (c, u, m) = number_reads s l.exports 4 k in
      let q = items_length s Export _ (export_at s) (export_past_lem s) n (l.exports + 4) ends in
      let (at, _, f, x, y, z) = item_at s Export _ _ _ (export_past_lem s) (export_kind s) n i _ (rw (k, q) at h) ends in
      let (earlier, v, j) = items_forth s Export _ _ _ (export_past_lem s) (export_kind s) i u.fits f in
      option_and_then_some _ (string_end s at) _ x λ past name-ends _.
      let front : Sequence IsExport (take i (exports_at s l.exports)) earlier =
      subst (λ (xs : List Exported). Sequence IsExport xs earlier) (rw k z) j in
      stands_read (rw (g, k) y) (before_export {count = c} is-head (rw (k, q) m) front)
      (reads_join r (reads_join u v)) (string_past s at past name-ends)

  place_none : (i : ℕ) → length (exports_at s l.exports) ≤ i → export_place s i ≡ None
  unfolding export_place places_at reference_end exports_at item_end
  place_none i h =
      counted_number s Export exports_size l.exports t.exports λ n k least most ends.
      let q = items_length s Export _ (export_at s) (export_past_lem s) n (l.exports + 4) ends in
      let few : n ≤ i = rw (k, q) at h in
      rw (g, k) (slice_get_past _ i (omega (arith, list_length (export_past s) (λ (p : ℕ). p) n (l.exports + 4))))

module _ {s : List ℕ} {m : Contents} (is : IsManifest m s) (i : ℕ) where
  pub stands : i < length m.exports → Stands s m i
  stands =
      let (l, g, e) = whole_back (reads_all s) is in
      subst (λ (c : Contents). i < length c.exports → Stands s c i) e (shape_laid s l g λ a b t. stands_laid g t i)

  pub stands_none : length m.exports ≤ i → export_place s i ≡ None
  stands_none =
      let (l, g, e) = whole_back (reads_all s) is in
      subst (λ (c : Contents). length c.exports ≤ i → export_place s i ≡ None) e (shape_laid s l g λ a b t. place_none g t i)
