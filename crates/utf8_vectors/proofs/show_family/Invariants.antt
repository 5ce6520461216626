-- There are digits.
use Rattle.std.proofs.Common.{◌<◌, length}
use Rattle.utf8_vectors.proofs.show_family.Given as goal

abbrev pub invariant-loop-n : goal.invariant-loop-n
invariant-loop-n g l = 0 < length l.digits
