-- Laws of tests over a list: none of some tests holds, and no element passes a test.
use Rattle.std.specs.Prelude.{is_some}
use Prim.Native.Nat.{ℕ}
use mathlib.Core.Path.{◌≡◌, refl}
use mathlib.Core.List.{List, [], ◌∷◌}
use mathlib.Core.Bool.{Bool, false}
use mathlib.Core.Logic.{◌↔◌}
use Rattle.lists.specs.Lists.{any_of, some_of, index_of, repeats}
use Rattle.lists.specs.Among.{Among, here, there}
use Rattle.lists.proofs.Tests.{either_false}

-- none of some tests holds
pub any_none : (any_of [] ≡ false) ↔ Unit {0}
unfolding any_of
any_none = (λ e. tt, λ u. refl)

pub any_more : {A B : Type 0} {b : Bool} (bs : List Bool) → (b ≡ false) ↔ A → (any_of bs ≡ false) ↔ B →
    (any_of (b ∷ bs) ≡ false) ↔ (A × B)
unfolding any_of
any_more {b} bs f g = (
  λ e. let (p, q) = (either_false b (any_of bs)).0 e in (f.0 p, g.0 q),
  λ a. (either_false b (any_of bs)).1 (f.1 a.0, g.1 a.1),
)

-- no element passes a test that does not hang on those after it, where P says that one does not pass
module _ {A : Type 0} (test : A → List A → Bool) (P : A → Type 0)
    (means : (x : A) (rest : List A) → (test x rest ≡ false) ↔ P x) where
  none_each : (xs : List A) → some_of test xs ≡ false → (x : A) → Among x xs → P x
  unfolding some_of
  none_each (y ∷ xs) e x here = (means x xs).0 ((either_false (test x xs) _).0 e).0
  none_each (y ∷ xs) e x (there a) = none_each xs ((either_false (test y xs) _).0 e).1 x a
  none_each [] e x x4 = elim x4 [ ]

  each_none : (xs : List A) → ((x : A) → Among x xs → P x) → some_of test xs ≡ false
  unfolding some_of
  each_none [] h = refl
  each_none (x ∷ xs) h = rw ((means x xs).1 (h x here)) (each_none xs (λ y a. h y (there a)))

  pub none_exactly : (xs : List A) → (some_of test xs ≡ false) ↔ ((x : A) → Among x xs → P x)
  none_exactly xs = (none_each xs, each_none xs)

-- some element's byte string stands again after it where the list of them repeats one
module _ {A : Type 0} (one : A → List ℕ) (all : List A → List (List ℕ)) (none : all [] ≡ [])
    (more : (x : A) (xs : List A) → all (x ∷ xs) ≡ one x ∷ all xs) where
  pub again_repeats : (xs : List A) → some_of (λ x rest. is_some (index_of (one x) 0 (all rest))) xs ≡ repeats (all xs)
  unfolding some_of repeats
  again_repeats [] = rw none
  again_repeats (x ∷ xs) = rw (more x xs, again_repeats xs)
