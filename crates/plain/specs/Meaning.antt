-- What the plain engine is for: it comes to what the run call comes to.
use Rattle.std.specs.Prelude.{ℕ, ◌≤◌, ◌≡◌, List, ℤ}
use Rattle.frames.specs.Frames.{frame_room}
use Rattle.engine.specs.declared.From.TheVariants.{Scratch}
use Rattle.engine.specs.Answer as run
use Rattle.engine.specs.Run.{Ran, ran, run_from}
use Rattle.plain.specs.Run.{Played, played}
use Rattle.plain.specs.Answer.{PlainNumbers, plain_numbers}

-- what any such call leaves and answers, by the word table, the base, f, x, the used count, the fuel and the places for jobs
abbrev pub PlainCall : Type 0
PlainCall = List ℕ → ℤ → ℤ → ℤ → ℕ → ℕ → ℕ → Played

-- a word table, and the paper's numbers
pub record Shown : Type 0 where
  pub words : List ℕ
  pub answer : PlainNumbers

-- of a plain run
abbrev pub shown : Played → Shown
shown (played w a) = record { words = w; answer = plain_numbers a }

-- of a run: ending, result slot, steps and used count; at a stop there is no result, and its slot is 0
abbrev pub telling : List ℕ → run.RunNumbers → Shown
telling w n = record { words = w; answer = record { number = n.number; slot = n.slot; steps = n.steps; used = n.used } }

abbrev pub of_run : Ran → Shown
of_run (ran w j a) = telling w (run.run_numbers a)

-- "For the same table, slots, fuel and job room its ending, steps, used count, result slot and table words equal the run call's",
-- refusals by 21, 23 and 24 among them, for fuel and job room up to 1,000.
abbrev pub PlainIsRun : PlainCall → Type 0
PlainIsRun call =
    (w j : List ℕ) (base f x : ℤ) (used fuel : ℕ) → fuel ≤ 1000 → frame_room j ≤ 1000 →
    shown (call w base f x used fuel (frame_room j)) ≡ of_run (run_from Scratch w base f x used fuel j)
