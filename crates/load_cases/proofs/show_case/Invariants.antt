-- A run never adds to the input.
use Rattle.std.proofs.Common.{◌≤◌, length}
use Rattle.load_cases.proofs.show_case.Given as goal

abbrev pub invariant-loop : goal.invariant-loop
invariant-loop g l = length l.input.rest.now ≤ length l.initial.input.rest.now
