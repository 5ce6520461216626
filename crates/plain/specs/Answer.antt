-- What the plain engine answers, and the paper's numbers for each case.
use Rattle.std.specs.Prelude.{ℕ, ℤ, pos, Result, Ok, Err}
use Rattle.plain.specs.declared.PlainEnding.{PlainEnding}
use Rattle.plain.specs.declared.PlainEnding.TheVariants.{Done, Stopped}

-- how the plain run ends, with a stop by its number, or the number that it is refused with
abbrev pub PlainAnswer : Type 0
PlainAnswer = Result (PlainEnding ℕ) ℕ

pub record PlainNumbers : Type 0 where
  pub number : ℕ
  pub slot : ℤ
  pub steps : ℕ
  pub used : ℕ

-- numbers not named are 0; `slot` is the result's
abbrev pub plain_numbers : PlainAnswer → PlainNumbers
plain_numbers (Err n) = record { number = n; slot = pos 0; steps = 0; used = 0 }
plain_numbers (Ok (Done slot steps used)) = record { number = 0; slot = slot; steps = steps; used = used }
plain_numbers (Ok (Stopped why steps used)) = record { number = why; slot = pos 0; steps = steps; used = used }
