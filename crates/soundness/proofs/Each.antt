-- What holds of each byte string in a list of those that some things have: it holds of each thing's own.
use Prim.Native.Nat.{ℕ}
use mathlib.Core.Path.{◌≡◌, subst}
use mathlib.Core.List.{List, [], ◌∷◌}
use mathlib.Core.Logic.{◌↔◌}
use Rattle.lists.specs.Among.{Among, here, there}

-- `all xs` are the byte strings `one x` of the things in xs
module _ {A : Type 0} (one : A → List ℕ) (all : List A → List (List ℕ)) (none : all [] ≡ [])
    (more : (x : A) (xs : List A) → all (x ∷ xs) ≡ one x ∷ all xs) (P : List ℕ → Type 0) where
  of_each : (xs : List A) → ((b : List ℕ) → Among b (all xs) → P b) → (x : A) → Among x xs → P (one x)
  of_each (y ∷ xs) h x here = h (one y) (rw more here)
  of_each (y ∷ xs) h x (there a) = of_each xs (λ b k. h b (rw more (there k))) x a
  of_each [] h x x4 = elim x4 [ ]

  first_or_later : {b c : List ℕ} {bs : List (List ℕ)} → Among b (c ∷ bs) → P c → (Among b bs → P b) → P b
  first_or_later here p later = p
  first_or_later (there a) p later = later a

  of_all : (xs : List A) → ((x : A) → Among x xs → P (one x)) → (b : List ℕ) → Among b (all xs) → P b
  of_all [] h b k = absurd (elim (subst (Among b) none k) [ ])
  of_all (x ∷ xs) h b k =
      first_or_later (subst (Among b) (more x xs) k) (h x here) (of_all xs (λ y a. h y (there a)) b)

  pub each_exactly : (xs : List A) → ((b : List ℕ) → Among b (all xs) → P b) ↔ ((x : A) → Among x xs → P (one x))
  each_exactly xs = (of_each xs, of_all xs)
