-- What a reader has to believe of lists, as relations: one among others, and each once.
use Rattle.std.specs.Prelude.{List, [], ◌∷◌}

-- x stands in a list
pub data Among {A : Type 0} (x : A) : List A → Type 0 where
  here : {xs : List A} → Among x (x ∷ xs)
  there : {y : A} {xs : List A} → Among x xs → Among x (y ∷ xs)

-- no element stands again further on
pub data Distinct {A : Type 0} : List A → Type 0 where
  none : Distinct []
  more : {x : A} {xs : List A} → (Among x xs → ⊥) → Distinct xs → Distinct (x ∷ xs)
