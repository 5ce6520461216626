-- Each case leaves less of the input.
use Rattle.std.proofs.Common.{length}
use Rattle.utf8_vectors.proofs.show_cases.Given as goal

abbrev pub decreases-loop-size : goal.decreases-loop-size
decreases-loop-size g l = length l.rest
