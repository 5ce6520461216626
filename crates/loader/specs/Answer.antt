-- The paper's numbers for each answer of the load call.
use Rattle.std.specs.Prelude.{ℕ, Result, Ok, Err}
use Rattle.loader.specs.declared.Accepted.{Accepted}

pub record LoadNumbers : Type 0 where
  pub number : ℕ
  pub nodes : ℕ
  pub exports : ℕ

-- a refusal answers its number with every other number 0; an accepted load answers 0, the node count and the export count
abbrev pub load_numbers : Result Accepted ℕ → LoadNumbers
load_numbers (Err n) = record { number = n; nodes = 0; exports = 0 }
load_numbers (Ok c) = record { number = 0; nodes = c.nodes; exports = c.exports }
