-- Where a parser of several steps ends, each step ends somewhere.
use Rattle.std.specs.Prelude.{Option, Some, None, Ok, Err}
use Rattle.std.proofs.lemmas.Option.{option_and_then_some, none-some}
use Prim.Native.Nat.{ℕ, ◌+◌, ◌≤◌}
use mathlib.Core.Path.{◌≡◌, refl, ◌∙◌}
use mathlib.Core.List.{List}
use mathlib.Core.Bool.{Bool, true, false, cond}
use Rattle.wire.specs.Wire.{number_at, span_end, span}
use Rattle.utf8.specs.Check.{check, Validity, valid}
use Rattle.sizes.specs.Sizes.{within}
use Rattle.sizes.specs.declared.Size.{Size}
use Rattle.sizes.proofs.Within.{within_exactly}
use Rattle.manifest_shape.specs.declared.parts.Kind.{Kind}
use Rattle.manifest_shape.specs.Shape.{if_valid, text_end, string_end, sized_end, items_end, counted_end}

pub not_to : {A B : Type 0} {e : B} → None ≡ Some e → A
not_to {e} g = absurd (none-some e g)

pub to_same : {p q : ℕ} → Some p ≡ Some q → p ≡ q
to_same g = cc

pub cond_to : {A : Type 0} (t : Bool) (p : Option A) {e : A} → cond t p None ≡ Some e → (t ≡ true) × (p ≡ Some e)
cond_to true p g = (refl, g)
cond_to false p g = not_to g

pub valid_to : (u : Validity) (p : Option ℕ) {e : ℕ} → if_valid u p ≡ Some e → (u ≡ valid) × (p ≡ Some e)
valid_to (Ok u) p g = (refl, g)
valid_to (Err b) p g = not_to g

-- a string ends there by its length alone, too, and its bytes are text
pub string_to : {A : Type 0} (s : List ℕ) (at : ℕ) {e : ℕ} → string_end s at ≡ Some e →
    ((v : ℕ) → number_at 4 s at ≡ Some v → sized_end s at ≡ Some e → check (span s (at + 4) v) ≡ valid → A) → A
unfolding string_end text_end sized_end
string_to s at g f =
    option_and_then_some _ (number_at 4 s at) _ g λ v k h.
    option_and_then_some _ (span_end s (at + 4) v) _ h λ q b i.
    let (u, j) = valid_to (check (span s (at + 4) v)) (Some q) i in
    f v k (rw k (b ∙ j)) u

pub string_past : (s : List ℕ) (at e : ℕ) → string_end s at ≡ Some e → sized_end s at ≡ Some e
string_past s at e g = string_to s at g λ v k h u. h

-- where a count and its things end, the count is within its size, and the things end there
pub counted_number : {A : Type 0} (s : List ℕ) (kind : Kind) (size : Size) (at : ℕ) {e : ℕ} → counted_end s kind size at ≡ Some e →
    ((n : ℕ) → number_at 4 s at ≡ Some n → size.least ≤ n → n ≤ size.most → items_end s kind n (at + 4) ≡ Some e → A) → A
unfolding counted_end
counted_number s kind size at g f =
    option_and_then_some _ (number_at 4 s at) _ g λ n h k.
    let (w, m) = cond_to (within size n) _ k in
    let (l, u) = (within_exactly size n).0 w in
    f n h l u m
