-- A plain run's answer by numbers: what the function answers has names for a refusal and for a stop.
use Rattle.std.specs.Prelude.{ℕ, ◌≡◌, ℤ, Result, Ok, Err}
use Rattle.refusals.specs.declared.Refusal.{Refusal}
use Rattle.refusals.specs.Numbers.{refusal_number, by_number}
use Rattle.stepping.specs.declared.stops.Stop.{Stop}
use Rattle.stepping.specs.Stops.{stops_with}
use Rattle.plain.specs.declared.PlainEnding.{PlainEnding}
use Rattle.plain.specs.declared.PlainEnding.TheVariants.{Done, Stopped}
use Rattle.plain.specs.Answer.{PlainAnswer}

abbrev pub plain_by_number : PlainEnding Stop → PlainEnding ℕ
plain_by_number (Done slot steps used) = Done slot steps used
plain_by_number (Stopped why steps used) = Stopped (stops_with why) steps used

abbrev pub told_plain : Result (PlainEnding Stop) Refusal → PlainAnswer
told_plain (Ok e) = Ok (plain_by_number e)
told_plain (Err r) = Err (refusal_number r)

-- An answer stays what it is, but that its refusal or its stop becomes a number (StopsAre of stepping).
abbrev pub PlainTold : Type 0
PlainTold =
    ((slot : ℤ) (steps used : ℕ) → plain_by_number (Done slot steps used) ≡ Done slot steps used) ×
    ((why : Stop) (steps used : ℕ) → plain_by_number (Stopped why steps used) ≡ Stopped (stops_with why) steps used) ×
    ((e : PlainEnding Stop) → told_plain (Ok e) ≡ Ok (plain_by_number e)) ×
    ((r : Refusal) → told_plain (Err r) ≡ by_number (Err r))

-- no two endings have the same numbers
abbrev pub PlainToldOnce : Type 0
PlainToldOnce = (a b : PlainEnding Stop) → plain_by_number a ≡ plain_by_number b → a ≡ b
