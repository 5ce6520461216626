-- The check from i on, with what is wanted there, is the whole check.
use Rattle.std.proofs.Common.{◌≡◌, drop}
use Rattle.utf8.specs.Check.{check, check_from}
use Rattle.utf8.specs.State.{wanted}
use Rattle.utf8.proofs.check.Given as goal

abbrev pub invariant-loop-i : goal.invariant-loop-i
invariant-loop-i l = check l.s ≡ check_from (wanted l.w) l.i (drop l.i l.s)
