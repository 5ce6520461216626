-- What an accepted load answers.
use Rattle.std.specs.Prelude.{ℕ, Result, Ok}
use Rattle.loader.specs.declared.Accepted.{Accepted}

-- so many nodes and exports; a refusal is Err with its number
abbrev pub accepted : ℕ → ℕ → Result Accepted ℕ
accepted nodes exports = Ok (record { nodes = nodes; exports = exports })
