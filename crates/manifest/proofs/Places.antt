-- Where an export stands: its name is the text there, and lies in the section.
use Rattle.std.specs.Prelude.{Option, Some, None, map}
use Rattle.std.specs.List.{slice_get}
use Rattle.std.proofs.lemmas.Option.{none-some, option_and_then_some}
use Prim.Native.Nat.{ℕ, zero, suc, ◌+◌, ◌≤◌}
use mathlib.Core.Path.{◌≡◌, refl}
use mathlib.Core.List.{List, [], ◌∷◌}
use lib.ListN.{length, get_or}
use Rattle.wire.specs.Wire.{number_at, span}
use Rattle.wire.proofs.Spans.{end_at}
use Rattle.manifest_shape.specs.declared.Layout.{Layout}
use Rattle.manifest_shape.specs.Shape.{sized_end, manifest_of}
use Rattle.manifest.specs.declared.listed.Reference.{Reference}
use Rattle.manifest.specs.Content.{export_past, reference_end, text_at, export_at, list_from, count_at, places_from, places_at, names}
use Rattle.manifest.specs.Judged.{exports_of, export_place}
use Rattle.manifest.proofs.ExportLists.{exports_there}

-- the string at a position: its length is the number there, and its bytes lie in the section
pub record Text (s : List ℕ) (p : ℕ) : Type 0 where
  pub is : text_at s (Some p) ≡ span s (p + 4) (count_at s p)
  pub inside : p + 4 + count_at s p ≤ length s

module _ (s : List ℕ) where
  string_text : (p : ℕ) {q : ℕ} → sized_end s p ≡ Some q → Text s p
  unfolding sized_end text_at count_at
  string_text p e =
      option_and_then_some _ (number_at 4 s p) _ e λ n f g.
      record { is = rw f; inside = rw f (end_at s (p + 4) n refl g).1 }

  export_text : (p : ℕ) {q : ℕ} → export_past s p ≡ Some q → Text s p
  unfolding export_past
  export_text p e = option_and_then_some _ (sized_end s p) _ e λ end f g. string_text p f

  -- of the exports that stand at some places
  names_there : (ps : List ℕ) (i : ℕ) → get_or (names (map (export_at s) ps)) i [] ≡ text_at s (slice_get ps i)
  unfolding names text_at
  names_there [] i = refl
  names_there (p ∷ ps) zero = refl
  names_there (p ∷ ps) (suc i) = names_there ps i

  place_there : (n at i : ℕ) {p : ℕ} → slice_get (places_from s Reference.Export n at) i ≡ Some p → Text s p
  unfolding list_from reference_end
  place_there zero at i e = absurd (none-some _ e)
  place_there (suc n) at i {p} e = go (export_past s at) refl i e (λ q j h. place_there n q j h)
    where
      go : (x : Option ℕ) → export_past s at ≡ x → (k : ℕ) → slice_get (places_from s Reference.Export (suc n) at) k ≡ Some p →
          ((q j : ℕ) → slice_get (places_from s Reference.Export n q) j ≡ Some p → Text s p) → Text s p
      go (Some q) f zero g later = let h = rw f at g in let z : at ≡ p = cc in rw (← z) (export_text at f)
      go (Some q) f (suc k) g later = later q k (rw f at g)
      go None f k g later = absurd (none-some _ (rw f at g))

  -- of the exports of the manifest
  pub place_name : (i : ℕ) → get_or (names (exports_of s)) i [] ≡ text_at s (export_place s i)
  unfolding exports_of export_place names text_at
  place_name i = go (manifest_of s) refl
    where
      go : (x : Option Layout) → manifest_of s ≡ x → get_or (names (exports_of s)) i [] ≡ text_at s (export_place s i)
      go (Some l) f = rw (f, exports_there s l.exports) (names_there (places_at s Reference.Export l.exports) i)
      go None f = rw f

  pub place_text : (i : ℕ) {p : ℕ} → export_place s i ≡ Some p → Text s p
  unfolding export_place places_at
  place_text i {p} e = go (manifest_of s) refl
    where
      go : (x : Option Layout) → manifest_of s ≡ x → Text s p
      go (Some l) f = at (number_at 4 s l.exports) refl
        where
          at : (x : Option ℕ) → number_at 4 s l.exports ≡ x → Text s p
          at (Some n) g = place_there n (l.exports + 4) i (rw (f, g) at e)
          at None g = absurd (none-some _ (rw (f, g) at e))
      go None f = absurd (none-some _ (rw f at e))
