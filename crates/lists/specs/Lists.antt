-- Byte strings that are the same, the place of one among others, and tests over a list.
use Rattle.std.specs.Prelude.{ℕ, ◌+◌, List, [], ◌∷◌, Bool, true, false, cond, eqb, is_some, Option, Some, None}

-- equality of two byte strings, as a test
unfoldable pub same_bytes : List ℕ → List ℕ → Bool
same_bytes [] [] = true
same_bytes [] (y ∷ ys) = false
same_bytes (x ∷ xs) [] = false
same_bytes (x ∷ xs) (y ∷ ys) = cond (eqb x y) (same_bytes xs ys) false

-- the index of the first of some byte strings that is this one, counted from i, or none
unfoldable pub index_of : List ℕ → ℕ → List (List ℕ) → Option ℕ
index_of t i [] = None
index_of t i (x ∷ xs) = cond (same_bytes x t) (Some i) (index_of t (i + 1) xs)

-- some byte string stands again further on
unfoldable pub repeats : List (List ℕ) → Bool
repeats [] = false
repeats (x ∷ xs) = cond (is_some (index_of x 0 xs)) true (repeats xs)

-- one of some tests holds
unfoldable pub any_of : List Bool → Bool
any_of [] = false
any_of (b ∷ bs) = cond b true (any_of bs)

-- some element of a list, with those after it, passes a test
unfoldable pub some_of : {A : Type 0} → (A → List A → Bool) → List A → Bool
some_of test [] = false
some_of test (x ∷ xs) = cond (test x xs) true (some_of test xs)
