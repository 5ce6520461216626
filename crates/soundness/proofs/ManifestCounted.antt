-- Several things one after the other, and a count and as many things: they parse where the single thing does.
use Rattle.std.proofs.lemmas.Option.{option_and_then_some}
use Rattle.std.specs.Prelude.{Option, Some}
use Rattle.std.specs.List.{slice_get}
use Prim.Native.Nat.{ℕ, zero, suc, ◌+◌, ◌≤◌, ◌<◌}
use mathlib.Core.Path.{◌≡◌, refl, ap}
use mathlib.Core.List.{List, [], ◌++◌}
use native.Mathlib.Omega.{arith}
use lib.ListN.{length, take}
use Rattle.wire.specs.Relations.{Sequence, none, next}
use Rattle.wire.proofs.Reading.{Reads, reads_none, reads_join, reads_split, number_reads, reads_number}
use Rattle.sizes.specs.Sizes.{any_count, roots_size, exports_size, fields_size}
use Rattle.sizes.specs.declared.Size.{Size}
use Rattle.sizes.proofs.Within.{within_exactly}
use Rattle.manifest_shape.specs.declared.parts.Kind.{Kind}
use Rattle.manifest_shape.specs.declared.parts.Kind.TheVariants.{Text, Root, Export, Field}
use Rattle.manifest_shape.specs.Shape.{sized_end, field_end, item_end, items_end, counted_end}
use Rattle.manifest.specs.Content.{text_at, export_at, list_from, roots_at, exports_at}
use Rattle.soundness.specs.ManifestGrammar.{IsString, IsRoot, IsExport, IsField, IsCounted, counted}
use Rattle.manifest_shape.proofs.Ends.{string_past, counted_number}
use Rattle.manifest.proofs.Counted.{counted_at, root_past_lem, export_past_lem, items_length}
use Rattle.soundness.proofs.ManifestParses.{Parses}
use Rattle.soundness.proofs.ManifestPieces.{string_parses, root_parses, export_parses, field_at, field_parses}

-- `past` is where the reader goes on: where the thing ends
module _ {A : Type 0} (s : List ℕ) (kind : Kind) (past : ℕ → Option ℕ) (read : ℕ → A) (Is : A → List ℕ → Type 0)
    (ends : (at e : ℕ) → item_end s kind at ≡ Some e → past at ≡ Some e) (parses : Parses s (item_end s kind) read Is) where
  pub items_forth : (n : ℕ) {at e : ℕ} → at ≤ length s → items_end s kind n at ≡ Some e →
      (b : List ℕ) × Reads s at e b × Sequence Is (list_from past read n at) b
  unfolding items_end list_from
  items_forth zero {at} {e} l g = let q : at ≡ e = cc in ([], rw (← q) (reads_none s at l), none)
  items_forth (suc n) {at} l g =
      option_and_then_some _ (item_end s kind at) _ g λ p h k.
      let (a, r, i) = parses.forth h in
      let (b, t, j) = items_forth n r.fits k in
      (a ++ b, reads_join r t, rw (ends at p h) (next i j))

  pub items_back : {xs : List A} {b : List ℕ} {at e : ℕ} → Reads s at e b → Sequence Is xs b →
      (items_end s kind (length xs) at ≡ Some e) × (list_from past read (length xs) at ≡ xs)
  unfolding items_end list_from
  items_back r none = (ap Some (omega arith), refl)
  items_back r (next {a = a} i j) =
      let (p, t, u) = reads_split {b = a} r in
      let (g, h) = parses.back t i in
      let (k, m) = items_back u j in
      (rw g k, rw (ends _ p g, h, m))

  -- of n things, where the one with an index stands: where as many before it end
  pub item_at : (n i at : ℕ) {e : ℕ} → i < n → items_end s kind n at ≡ Some e →
      (p q : ℕ) × (items_end s kind i at ≡ Some p) × (item_end s kind p ≡ Some q) ×
      (slice_get (list_from past (λ p. p) n at) i ≡ Some p) × (list_from past read i at ≡ take i (list_from past read n at))
  unfolding items_end list_from
  item_at zero i at h g = absurd (omega arith)
  item_at (suc n) zero at h g = option_and_then_some _ (item_end s kind at) _ g λ q k l. (at, q, refl, k, rw (ends at q k), refl)
  item_at (suc n) (suc i) at h g =
      option_and_then_some _ (item_end s kind at) _ g λ o k l.
      let (p, q, f, t, a, b) = item_at n i o (omega arith) l in
      (p, q, rw k f, t, rw (ends at o k) a, rw (ends at o k, b))

  counted_forth : (size : Size) {at e : ℕ} → counted_end s kind size at ≡ Some e →
      (b : List ℕ) × Reads s at e b × IsCounted Is size.least size.most (counted_at s past read at) b
  counted_forth size {at} g =
      counted_number s kind size at g λ n h l u k.
      let (a, r, m) = number_reads s at 4 h in
      let (b, t, i) = items_forth n r.fits k in
      let xs = list_from past read n (at + 4) in
      let q = items_length s kind past read ends n (at + 4) k in
      (a ++ b, reads_join r t, rw h (counted {xs = xs} {n = a} (rw q m) (rw q l) (rw q u) i))

  counted_back : (size : Size) {at e : ℕ} {b : List ℕ} {xs : List A} → Reads s at e b → IsCounted Is size.least size.most xs b →
      (counted_end s kind size at ≡ Some e) × (counted_at s past read at ≡ xs)
  unfolding counted_end
  counted_back size {at} r (counted {xs = xs} m l u i) =
      let (p, a, t) = reads_split r in
      let (k, q) = reads_number s at 4 a m in
      let (g, h) = items_back (rw q at t) i in
      (rw (k, (within_exactly size (length xs)).1 (l, u)) g, rw k h)

  pub counted_parses : (size : Size) →
      Parses s (counted_end s kind size) (counted_at s past read) (IsCounted Is size.least size.most)
  counted_parses size = record { forth = counted_forth size; back = counted_back size }

-- the four kinds
module _ (s : List ℕ) where
  pub text_kind : Parses s (item_end s Text) (λ p. text_at s (Some p)) IsString
  unfolding item_end
  text_kind = string_parses s

  pub export_kind : Parses s (item_end s Export) (export_at s) IsExport
  unfolding item_end
  export_kind = export_parses s

  pub text_counted : Parses s (counted_end s Text any_count) (counted_at s (sized_end s) (λ p. text_at s (Some p)))
      (IsCounted IsString 0 4294967295)
  unfolding item_end
  text_counted = counted_parses s Text _ _ _ (string_past s) (string_parses s) any_count

  pub root_counted : Parses s (counted_end s Root roots_size) (roots_at s) (IsCounted IsRoot 1 16)
  unfolding item_end roots_at
  root_counted = counted_parses s Root _ _ _ (root_past_lem s) (root_parses s) roots_size

  pub export_counted : Parses s (counted_end s Export exports_size) (exports_at s) (IsCounted IsExport 1 32)
  unfolding item_end exports_at
  export_counted = counted_parses s Export _ _ _ (export_past_lem s) (export_parses s) exports_size

  pub field_counted : Parses s (counted_end s Field fields_size) (counted_at s (field_end s) (field_at s))
      (IsCounted IsField 0 16)
  unfolding item_end
  field_counted = counted_parses s Field _ _ _ (λ at e g. g) (field_parses s) fields_size
