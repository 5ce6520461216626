-- Each case leaves less of the input.
use Rattle.std.proofs.Common.{length}
use Rattle.run_cases.proofs.show_cases.Given as goal

abbrev pub decreases-loop-input : goal.decreases-loop-input
decreases-loop-input g l = length l.input.rest.now
