-- A count and as many things: where the parser ends, the reader goes on there, and reads as many things as the count says.
use Rattle.std.specs.Prelude.{Option, Some, None}
use Rattle.std.proofs.lemmas.Option.{option_and_then_some}
use Rattle.lists.specs.Options.{on_some}
use Prim.Native.Nat.{ℕ, zero, suc, ◌+◌, ◌≤◌}
use mathlib.Core.Path.{◌≡◌, refl, ap}
use mathlib.Core.List.{List, []}
use native.Mathlib.Omega.{arith}
use lib.ListN.{length}
use Rattle.wire.specs.Wire.{number_at, span_end}
use Rattle.sizes.specs.Sizes.{any_count, exports_size}
use Rattle.sizes.specs.declared.Size.{Size}
use Rattle.manifest_shape.specs.declared.parts.Kind.{Kind}
use Rattle.manifest_shape.specs.declared.parts.Kind.TheVariants.{Text, Export}
use Rattle.manifest_shape.specs.declared.Layout.{Layout}
use Rattle.manifest_shape.specs.Shape.{string_end, root_end, export_end, sized_end, item_end, items_end, counted_end, manifest_of}
use Rattle.manifest_shape.proofs.Ends.{string_past, counted_number}
use Rattle.manifest_shape.proofs.Laid.{shape_laid}
use Rattle.manifest.specs.Content.{root_past, export_past, text_at, list_from, count_at, exports_at}
use Rattle.manifest.specs.Judged.{exports_of}

-- what ends somewhere ends there by its lengths alone, too
module _ (s : List ℕ) where
  pub root_past_lem : (at e : ℕ) → root_end s at ≡ Some e → root_past s at ≡ Some e
  unfolding root_end root_past
  root_past_lem at e g = option_and_then_some _ (span_end s at 32) _ g λ p h k. rw h (string_past s p e k)

  pub export_past_lem : (at e : ℕ) → export_end s at ≡ Some e → export_past s at ≡ Some e
  unfolding export_end export_past
  export_past_lem at e g =
      option_and_then_some _ (string_end s at) _ g λ p h i.
      option_and_then_some _ (root_end s p) _ i λ q j k.
      rw (string_past s at p h, root_past_lem p q j) (string_past s q e k)

-- the things after the count that stands at a position
abbrev pub counted_at : {A : Type 0} → List ℕ → (ℕ → Option ℕ) → (ℕ → A) → ℕ → List A
counted_at s past read at = on_some (number_at 4 s at) (λ n. list_from past read n (at + 4)) []

-- `past` is where the reader goes on: where the thing ends
module _ {A : Type 0} (s : List ℕ) (kind : Kind) (past : ℕ → Option ℕ) (read : ℕ → A)
    (ends : (at e : ℕ) → item_end s kind at ≡ Some e → past at ≡ Some e) where
  pub items_length : (n at : ℕ) {e : ℕ} → items_end s kind n at ≡ Some e → length (list_from past read n at) ≡ n
  unfolding items_end list_from
  items_length zero at g = refl
  items_length (suc n) at g =
      option_and_then_some _ (item_end s kind at) _ g λ p h k. rw (ends at p h) (ap suc (items_length n p k))

  counted_length : (size : Size) (at : ℕ) {e : ℕ} → counted_end s kind size at ≡ Some e →
      count_at s at ≡ length (counted_at s past read at)
  unfolding count_at
  counted_length size at g = counted_number s kind size at g λ n h l u k. rw (h, items_length n (at + 4) k)

module _ (s : List ℕ) where
  pub text_length : (at : ℕ) {e : ℕ} → counted_end s Text any_count at ≡ Some e →
      count_at s at ≡ length (counted_at s (sized_end s) (λ p. text_at s (Some p)) at)
  unfolding item_end
  text_length at g = counted_length s Text _ _ (string_past s) any_count at g

  pub export_length : (at : ℕ) {e : ℕ} → counted_end s Export exports_size at ≡ Some e → count_at s at ≡ length (exports_at s at)
  unfolding item_end exports_at
  export_length at g = counted_length s Export _ _ (export_past_lem s) exports_size at g

-- the exports of a manifest by its layout: their count stands before them, and says how many there are, which are few
pub record ExportsLaid (s : List ℕ) (l : Layout) : Type 0 where
  pub number : number_at 4 s l.exports ≡ Some (count_at s l.exports)
  pub all : count_at s l.exports ≡ length (exports_of s)
  pub few : count_at s l.exports ≤ exports_size.most

pub exports_laid : (s : List ℕ) {l : Layout} → manifest_of s ≡ Some l → ExportsLaid s l
unfolding count_at exports_of
exports_laid s {l} e =
    shape_laid s l e λ metadata extensions laid.
    counted_number s Export exports_size l.exports laid.exports λ n h low high ends.
    record { number = rw h; all = rw e (export_length s l.exports laid.exports); few = rw h high }

pub few_exports : (s : List ℕ) → length (exports_of s) ≤ exports_size.most
unfolding exports_of
few_exports s = go (manifest_of s) refl
  where
    go : (x : Option Layout) → manifest_of s ≡ x → length (exports_of s) ≤ exports_size.most
    go (Some l) e = let x = exports_laid s e in omega (arith, x.all, x.few)
    go None e = rw e (omega arith)
