-- A table of refusals: rows of a number and a condition, in the order in which they are asked.
use Rattle.std.specs.Prelude.{ℕ, ◌<◌, ◌≡◌, List, [], ◌∷◌, ◌++◌, Bool, true, false, cond, eqb}

infix 20 ◌when◌
pub record Row : Type 0 where
  pub number : ℕ
  pub holds : Bool

abbrev pub ◌when◌ : ℕ → Bool → Row
n when b = record { number = n; holds = b }

-- the number of the first row that holds, or 0
unfoldable pub answer : List Row → ℕ
answer [] = 0
answer (r ∷ rs) = cond r.holds r.number (answer rs)

-- what comes of an answer: `passed` where it is 0, else what a refusal by its number is
abbrev pub unless_refused : {A : Type 0} → ℕ → (ℕ → A) → A → A
unless_refused n refused passed = cond (eqb n 0) passed (refused n)

-- no row holds
pub data Clear : List Row → Type 0 where
  none : Clear []
  more : {r : Row} {rs : List Row} → r.holds ≡ false → Clear rs → Clear (r ∷ rs)

-- the first row that holds has the number n
pub record First (rows : List Row) (n : ℕ) : Type 0 where
  pub before : List Row
  pub row : Row
  pub after : List Row
  pub split : rows ≡ before ++ (row ∷ after)
  pub holds : row.holds ≡ true
  pub number : row.number ≡ n
  pub earlier : Clear before

-- ---- a row by its number

-- the rows before the first with a number
unfoldable pub rows_before : ℕ → List Row → List Row
rows_before n [] = []
rows_before n (r ∷ rs) = cond (eqb r.number n) [] (r ∷ rows_before n rs)

-- the condition of the first with a number; false where there is none
unfoldable pub row_holds : ℕ → List Row → Bool
row_holds n [] = false
row_holds n (r ∷ rs) = cond (eqb r.number n) r.holds (row_holds n rs)

-- ---- the numbers of a table

-- none is 0, which says that no row holds
abbrev pub Numbered : List Row → Type 0
Numbered [] = Unit {0}
Numbered (r ∷ rs) = (0 < r.number) × Numbered rs

-- they ascend, the first from above n
abbrev pub Ascends : ℕ → List Row → Type 0
Ascends n [] = Unit {0}
Ascends n (r ∷ rs) = (n < r.number) × Ascends r.number rs
