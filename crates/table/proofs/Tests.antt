-- A choice by a test.
use mathlib.Core.Path.{◌≡◌, refl}
use mathlib.Core.Bool.{Bool, true, false, cond}

-- what holds of both answers to a test holds of the answer
pub by_test : {A : Type 0} (P : A → Type 0) (b : Bool) {x y : A} →
    (b ≡ true → P x) → (b ≡ false → P y) → P (cond b x y)
by_test P true h k = h refl
by_test P false h k = k refl

-- a choice is made before a function or after it
pub choice_after : {A B : Type 0} (g : A → B) (b : Bool) (x y : A) (p : B) → p ≡ g y → cond b (g x) p ≡ g (cond b x y)
choice_after g true x y p e = refl
choice_after g false x y p e = e
