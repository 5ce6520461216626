-- The walk over the strings agrees exactly where each string read is as wanted.
use Rattle.std.proofs.lemmas.Option.{option_and_then_some}
use Rattle.std.specs.Prelude.{Some, None, is_some, cond}
use Prim.Native.Nat.{ℕ, suc}
use mathlib.Core.Path.{◌≡◌, refl}
use mathlib.Core.List.{List, [], ◌∷◌}
use mathlib.Core.Bool.{Bool, true, false}
use mathlib.Core.Logic.Iff
use mathlib.Core.Logic.{◌↔◌}
use lib.ListN.{length}
use Rattle.lists.specs.Lists.{same_bytes}
use Rattle.lists.proofs.Same.{same_sound, same_true, not_both}
use Rattle.manifest_shape.specs.declared.parts.Kind.TheVariants.{Text}
use Rattle.lists.specs.Options.{◌>>=◌}
use Rattle.manifest_shape.specs.Shape.{string_end, sized_end, item_end, items_end}
use Rattle.manifest.specs.Content.{text_at, texts_from, list_from}
use Rattle.manifest.specs.Judged.{Wanted, exactly, any_text, meets, past, past_all, nine_strings, strings_agree}
use Rattle.soundness.specs.ManifestMeaning.{NineStrings, nine}
use Rattle.manifest_shape.proofs.Ends.{string_past}

-- texts are what is wanted of them, one by one
pub data Agree : List Wanted → List (List ℕ) → Type 0 where
  none : Agree [] []
  same : {t : List ℕ} {ws : List Wanted} {ts : List (List ℕ)} → Agree ws ts → Agree (exactly t ∷ ws) (t ∷ ts)
  any : {t : List ℕ} {ws : List Wanted} {ts : List (List ℕ)} → Agree ws ts → Agree (any_text ∷ ws) (t ∷ ts)

first_same : {v t : List ℕ} {ws : List Wanted} {ts : List (List ℕ)} → Agree (exactly v ∷ ws) (t ∷ ts) → (t ≡ v) × Agree ws ts
first_same (same a) = (refl, a)

first_any : {t : List ℕ} {ws : List Wanted} {ts : List (List ℕ)} → Agree (any_text ∷ ws) (t ∷ ts) → Agree ws ts
first_any (any a) = a

-- one more text in front; `rest` is what comes of the test of it
module _ (ws : List Wanted) (t : List ℕ) (ts : List (List ℕ)) (rest : Bool → Bool) (lost : rest false ≡ false)
    (later : (rest true ≡ true) ↔ Agree ws ts) where
  agree_more : (w : Wanted) → (rest (meets t w) ≡ true) ↔ Agree (w ∷ ws) (t ∷ ts)
  agree_more (exactly v) = (test (same_bytes t v) refl, λ a. let (e, b) = first_same a in rw (same_true e) (later.1 b))
    where
      test : (b : Bool) → same_bytes t v ≡ b → rest b ≡ true → Agree (exactly v ∷ ws) (t ∷ ts)
      test true q h = rw (same_sound t v q) (same (later.0 h))
      test false q h = not_both h lost
  agree_more any_text = (λ h. any (later.0 h), λ a. later.1 (first_any a))

-- the nine that are wanted are those of document 01
agreed_nine : (ts : List (List ℕ)) → Agree nine_strings ts → NineStrings ts
unfolding nine_strings
agreed_nine _ (same (same (same (same (same (same (same (any (same none))))))))) = nine _

nine_agreed : (ts : List (List ℕ)) → NineStrings ts → Agree nine_strings ts
unfolding nine_strings
nine_agreed _ (nine e) = same (same (same (same (same (same (same (any (same none))))))))

pub agree_nine : (ts : List (List ℕ)) → Agree nine_strings ts ↔ NineStrings ts
agree_nine ts = (agreed_nine ts, nine_agreed ts)

module _ (s : List ℕ) where
  -- what comes of the strings after one that ends at q, by whether it is as wanted
  abbrev onward : List Wanted → ℕ → Bool → Bool
  onward ws q b = is_some (cond b (Some q) None >>= (λ end. past_all s end ws))

  walk_step : (w : Wanted) (ws : List Wanted) (p : ℕ) {q : ℕ} → sized_end s p ≡ Some q →
      is_some (past_all s p (w ∷ ws)) ≡ onward ws q (meets (text_at s (Some p)) w)
  unfolding past_all past
  walk_step w ws p j = rw j

  texts_step : (n p : ℕ) {q : ℕ} → sized_end s p ≡ Some q → texts_from s (suc n) p ≡ text_at s (Some p) ∷ texts_from s n q
  unfolding list_from
  texts_step n p j = rw j

  items_step : {A : Type 0} (n p : ℕ) {e : ℕ} → items_end s Text (suc n) p ≡ Some e →
      ((q : ℕ) → sized_end s p ≡ Some q → items_end s Text n q ≡ Some e → A) → A
  unfolding items_end item_end
  items_step n p g f = option_and_then_some (items_end s Text n) (string_end s p) _ g λ q j k. f q (string_past s p q j) k

  walk_exactly : (ws : List Wanted) (p : ℕ) {e : ℕ} → items_end s Text (length ws) p ≡ Some e →
      (is_some (past_all s p ws) ≡ true) ↔ Agree ws (texts_from s (length ws) p)
  unfolding past_all list_from
  walk_exactly [] p g = (λ h. none, λ a. refl)
  walk_exactly (w ∷ ws) p g =
      items_step (length ws) p g λ q j k.
      rw (walk_step w ws p j, texts_step (length ws) p j)
      (agree_more ws _ _ (onward ws q) refl (walk_exactly ws q k) w)

  pub strings_exactly : (p : ℕ) {e : ℕ} → items_end s Text 9 p ≡ Some e →
      (strings_agree s p ≡ true) ↔ NineStrings (texts_from s 9 p)
  unfolding strings_agree nine_strings
  strings_exactly p g = Iff.trans (walk_exactly nine_strings p g) (agree_nine (texts_from s 9 p))
