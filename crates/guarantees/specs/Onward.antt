-- Runs that are stopped and carried on.
use Rattle.std.specs.Prelude.{ℕ, ◌+◌, ◌≤◌, ◌≡◌, true, cond, List, [], ◌∷◌, ◌⊎◌, eqb, ℤ, Ok}
use Rattle.engine.specs.Run.{Ran, ran, run_from}
use Rattle.engine.specs.declared.From.{From}
use Rattle.engine.specs.declared.Ending.TheVariants.{Stopped}
use Rattle.engine.specs.declared.From.TheVariants.{Stop}
use Rattle.engine.specs.Answer.{RunAnswer, RunNumbers, run_numbers}
use Rattle.guarantees.specs.Run.{Calls, steps_before, started, RefusedWith}

-- a carry-on of what a run left: its tables, and the numbers that it answered
abbrev pub carried : Calls → ℤ → ℕ → Ran → Ran
carried calls base fuel (ran w j a) =
    calls (Stop (run_numbers a).waiting (run_numbers a).steps) w base (run_numbers a).f (run_numbers a).x (run_numbers a).used fuel j

abbrev pub numbers_of : Ran → RunNumbers
numbers_of (ran w j a) = run_numbers a

-- one part more: what was stopped with 31 is carried on, anything else stays as it is
abbrev pub next_part : Calls → ℤ → ℕ → Ran → Ran
next_part calls base m r = cond (eqb (numbers_of r).number 31) (carried calls base m r) r

-- any number of parts more
abbrev pub in_parts : Calls → ℤ → Ran → List ℕ → Ran
in_parts calls base r [] = r
in_parts calls base r (m ∷ ms) = in_parts calls base (next_part calls base m r) ms

abbrev pub sum : List ℕ → ℕ
sum [] = 0
sum (m ∷ ms) = m + sum ms

-- Fuel cut into any number of parts gives the tables and the answer of one run with the sum: the ending, the steps in total, every
-- word. The first part is a run or a carry-on. Where a part is done, refused, or stopped with 32 or 33, those after it change
-- nothing, and the one run ends so too.
abbrev pub FuelInParts : Type 0
FuelInParts =
    (from : From) (w j : List ℕ) (base f x : ℤ) (used m : ℕ) (ms : List ℕ) → steps_before from + (m + sum ms) ≤ 4294967295
    → in_parts run_from base (run_from from w base f x used m j) ms ≡ run_from from w base f x used (m + sum ms) j

-- Whatever stop a run or a carry-on leaves, by 31, 32 or 33, a carry-on of it is let start, or refused with 40.
abbrev pub MayGoOn : ℤ → ℕ → Ran → Type 0
MayGoOn base more (ran w j a) =
    let r = carried run_from base more (ran w j a) in
    (31 ≤ (run_numbers a).number) × ((run_numbers a).number ≤ 33) → (started (numbers_of r).number ≡ true) ⊎ RefusedWith 40 w j r

abbrev pub StopsCarryOn : Type 0
StopsCarryOn =
    (from : From) (w j : List ℕ) (base f x : ℤ) (used fuel more : ℕ) → MayGoOn base more (run_from from w base f x used fuel j)

-- A carry-on that is let start with no fuel answers 31 and the numbers that it was handed, and changes nothing.
abbrev pub NoFuelKeeps : Type 0
NoFuelKeeps =
    (waiting steps : ℕ) (w v j k : List ℕ) (base f x : ℤ) (used : ℕ) (a : RunAnswer)
    → run_from (Stop waiting steps) w base f x used 0 j ≡ ran v k a → started (run_numbers a).number ≡ true
    → (a ≡ Ok (Stopped 31 f x steps used waiting)) × (v ≡ w) × (k ≡ j)
