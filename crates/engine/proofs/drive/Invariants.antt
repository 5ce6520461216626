-- The rest of the run from each turn on is the whole run; a step leaves what the next one works on.
use Rattle.engine.proofs.DriveWays.{Driven}
use Rattle.engine.proofs.drive.Given as goal

abbrev pub invariant-loop-rest : goal.invariant-loop-rest
invariant-loop-rest l = Driven l.initial.words l.initial.jobs l.initial.s l.initial.rest l.words l.jobs l.s l.rest

abbrev pub decreases-loop-rest : goal.decreases-loop-rest
decreases-loop-rest l = l.rest.left
