-- What the answer of a table says.
use Rattle.std.specs.Prelude.{ℕ, ◌≤◌, ◌≡◌, List, ◌++◌, true, ◌↔◌}
use Rattle.lists.specs.Among.{Among}
use Rattle.refusals.specs.Refusals.{Row, answer, Clear, First, Numbered, Ascends}

-- the answer is n, and not 0, exactly where the first row that holds has the number n
abbrev pub AnswersFirst : Type 0
AnswersFirst = (rows : List Row) (n : ℕ) → Numbered rows → First rows n ↔ ((answer rows ≡ n) × (n ≡ 0 → ⊥))

-- the answer is 0 exactly where no row holds
abbrev pub AnswersNone : Type 0
AnswersNone = (rows : List Row) → Numbered rows → Clear rows ↔ (answer rows ≡ 0)

-- there is one first row at most
abbrev pub OneFirst : Type 0
OneFirst =
    (rows : List Row) (m n : ℕ) (a : First rows m) (b : First rows n) →
    (m ≡ n) × (a.before ≡ b.before) × (a.row ≡ b.row) × (a.after ≡ b.after)

-- of two tables, one after the other, the first answers where one of its rows holds, else the second
abbrev pub AnswersInTurn : Type 0
AnswersInTurn =
    (rows later : List Row) →
    ((n : ℕ) → First rows n → First (rows ++ later) n) × (Clear rows → answer (rows ++ later) ≡ answer later)

-- where the numbers ascend, the first is the lowest of those that hold
abbrev pub FirstIsLowest : Type 0
FirstIsLowest =
    (rows : List Row) (n : ℕ) → Ascends 0 rows → First rows n → (r : Row) → Among r rows → r.holds ≡ true → n ≤ r.number
