-- The records that are left, from each turn on, end where all of them do.
use Prim.Native.Nat.{◌-◌}
use mathlib.Core.Path.{◌≡◌}
use Rattle.nodes.specs.Records.{records_end}
use Rattle.nodes.proofs.records.records_end.Given as goal

abbrev pub invariant-loop : goal.invariant-loop
invariant-loop l = records_end l.s l.n l.at ≡ records_end l.s (l.n - l.counter) l.end
