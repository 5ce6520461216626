-- A run's answer by numbers: what the functions answer has names for a refusal and for a stop.
use Rattle.std.specs.Prelude.{ℕ, ◌≡◌, ℤ, Result, Ok, Err}
use Rattle.refusals.specs.declared.Refusal.{Refusal}
use Rattle.refusals.specs.Numbers.{refusal_number, by_number}
use Rattle.stepping.specs.declared.stops.Stop.{Stop}
use Rattle.stepping.specs.Stops.{stops_with}
use Rattle.engine.specs.declared.Ending.{Ending}
use Rattle.engine.specs.declared.Ending.TheVariants.{Done, Stopped}
use Rattle.engine.specs.Answer.{RunAnswer}

abbrev pub run_by_number : Ending Stop → Ending ℕ
run_by_number (Done slot steps used) = Done slot steps used
run_by_number (Stopped why f x steps used waiting) = Stopped (stops_with why) f x steps used waiting

abbrev pub told_run : Result (Ending Stop) Refusal → RunAnswer
told_run (Ok e) = Ok (run_by_number e)
told_run (Err r) = Err (refusal_number r)

-- An answer stays what it is, but that its refusal or its stop becomes a number (StopsAre of stepping).
abbrev pub RunTold : Type 0
RunTold =
    ((slot : ℤ) (steps used : ℕ) → run_by_number (Done slot steps used) ≡ Done slot steps used) ×
    ((why : Stop) (f x : ℤ) (steps used waiting : ℕ) →
    run_by_number (Stopped why f x steps used waiting) ≡ Stopped (stops_with why) f x steps used waiting) ×
    ((e : Ending Stop) → told_run (Ok e) ≡ Ok (run_by_number e)) ×
    ((r : Refusal) → told_run (Err r) ≡ by_number (Err r))

-- no two endings have the same numbers
abbrev pub RunToldOnce : Type 0
RunToldOnce = (a b : Ending Stop) → run_by_number a ≡ run_by_number b → a ≡ b
