-- What a run or a carry-on answers, and the paper's numbers for each case.
use Rattle.std.specs.Prelude.{ℕ, ℤ, pos, Result, Ok, Err}
use Rattle.engine.specs.declared.Ending.{Ending}
use Rattle.engine.specs.declared.Ending.TheVariants.{Done, Stopped}

-- how it ends, with a stop by its number, or the number that it is refused with
abbrev pub RunAnswer : Type 0
RunAnswer = Result (Ending ℕ) ℕ

pub record RunNumbers : Type 0 where
  pub number : ℕ
  pub slot : ℤ
  pub f : ℤ
  pub x : ℤ
  pub steps : ℕ
  pub used : ℕ
  pub waiting : ℕ

-- numbers not named are 0; `slot` is the result's, f and x are those still to be applied
abbrev pub run_numbers : RunAnswer → RunNumbers
run_numbers (Err n) = record { number = n; slot = pos 0; f = pos 0; x = pos 0; steps = 0; used = 0; waiting = 0 }
run_numbers (Ok (Done slot steps used)) =
    record { number = 0; slot = slot; f = pos 0; x = pos 0; steps = steps; used = used; waiting = 0 }
run_numbers (Ok (Stopped why f x steps used waiting)) =
    record { number = why; slot = pos 0; f = f; x = x; steps = steps; used = used; waiting = waiting }
