-- What the plain engine's call guarantees beside being the run call's twin (PlainIsRun of plain). The proofs are in proofs/, a file for each
-- statement.
use Rattle.std.specs.Prelude.{ℕ, ◌+◌, ◌≤◌, ◌<◌, ◌≡◌, List, ◌++◌, false, ◌⊎◌, ◌↔◌, length, ℤ, pos, Ok, Err}
use Rattle.calculus.specs.Tree.{Tree}
use Rattle.calculus.specs.BigStep.{Costs}
use Rattle.table.specs.Slots.{room}
use Rattle.table.specs.Sound.{SoundSlots}
use Rattle.table.specs.Holds.{Holds}
use Rattle.plain.specs.declared.PlainEnding.TheVariants.{Done, Stopped}
use Rattle.plain.specs.Answer.{PlainAnswer, plain_numbers}
use Rattle.plain.specs.Run.{played, plain_run}
use Rattle.plain.specs.Meaning.{PlainCall, Shown, shown, PlainIsRun}
use Rattle.guarantees.specs.Run.{started, Listed, OutOfTable, Misplaced, Damaged, InOrder}

-- ---- the refusals

-- 49: fuel or job room above 1,000
abbrev pub TooDeep : ℕ → ℕ → Type 0
TooDeep fuel places = (1000 < fuel) ⊎ (1000 < places)

-- what is shown of a refusal: its number, every other 0, and a table with no word changed
abbrev pub refused : ℕ → List ℕ → Shown
refused n w = record { words = w; answer = record { number = n; slot = pos 0; steps = 0; used = 0 } }

-- A plain run is refused exactly when one of these holds, with the lowest number that applies: 21, 23 and 24 as a run, then 49.
abbrev pub PlainRefusedExactly : PlainCall → Type 0
PlainRefusedExactly call =
    (w : List ℕ) (base f x : ℤ) (used fuel places : ℕ)
    → InOrder (λ n. shown (call w base f x used fuel places) ≡ refused n w)
    (OutOfTable w base used)
    (Misplaced used f ⊎ Misplaced used x)
    (Damaged w base used)
    49 (TooDeep fuel places)

-- A plain run that was not let start has a number of the list, with every other number 0, and changes nothing.
abbrev pub PlainRefusalKeeps : Type 0
PlainRefusalKeeps =
    (w v : List ℕ) (base f x : ℤ) (used fuel places : ℕ) (a : PlainAnswer)
    → plain_run w base f x used fuel places ≡ played v a → started (plain_numbers a).number ≡ false
    → (n : ℕ) × (shown (played v a) ≡ refused n w) × Listed 49 n

-- ---- what holds of every plain run

-- No word before the base is looked at or changed.
abbrev pub PlainBlind : Type 0
PlainBlind =
    (before before' w : List ℕ) (f x : ℤ) (used fuel places : ℕ)
    → (v : List ℕ) × (a : PlainAnswer)
    × (plain_run (before ++ w) (pos (length before)) f x used fuel places ≡ played (before ++ v) a)
    × (plain_run (before' ++ w) (pos (length before')) f x used fuel places ≡ played (before' ++ v) a)

-- With fuel and job room up to 1,000 it is done, by so many steps and with so many nodes made, in a slot that holds t, exactly when the
-- seven rules give t at that cost and there is enough of everything: fuel, slots, and places for the jobs.
abbrev pub PlainDoneExactly : Type 0
PlainDoneExactly =
    (before w : List ℕ) (used f x fuel places steps made : ℕ) (ft xt t : Tree)
    → SoundSlots w used → Holds w used f ft → Holds w used x xt → fuel ≤ 1000 → places ≤ 1000
    → ((v : List ℕ) × (slot : ℕ)
    × (shown (plain_run (before ++ w) (pos (length before)) (pos f) (pos x) used fuel places)
    ≡ record { words = before ++ v; answer = record { number = 0; slot = pos slot; steps = steps; used = used + made } })
    × Holds v (used + made) slot t)
    ↔ ((jobs : ℕ) × Costs ft xt t steps made jobs × (steps ≤ fuel) × (used + made ≤ room w) × (jobs ≤ places))

-- ---- nothing is left open

-- The number tells which case of the answer it is, and the numbers the whole answer.
abbrev pub PlainTells : PlainAnswer → Type 0
PlainTells (Err n) = Listed 49 n
PlainTells (Ok (Done slot steps used)) = Unit {0}
PlainTells (Ok (Stopped n steps used)) = (31 ≤ n) × (n ≤ 33)

abbrev pub PlainNumberTells : PlainCall → Type 0
PlainNumberTells call =
    (w v : List ℕ) (base f x : ℤ) (used fuel places : ℕ) (a : PlainAnswer)
    → call w base f x used fuel places ≡ played v a → PlainTells a

abbrev pub PlainOneAnswer : Type 0
PlainOneAnswer = (a a' : PlainAnswer) → PlainTells a → PlainTells a' → plain_numbers a ≡ plain_numbers a' → a ≡ a'

-- A call that is the run call's twin, is refused so, and whose number tells the case, answers and leaves what this one does.
abbrev pub OnlyPlain : Type 0
OnlyPlain =
    (call : PlainCall) → PlainIsRun call → PlainRefusedExactly call → PlainNumberTells call
    → (w : List ℕ) (base f x : ℤ) (used fuel places : ℕ)
    → call w base f x used fuel places ≡ plain_run w base f x used fuel places
