-- What the tests of the nodes' rows tell.
use mathlib.Core.Path.{◌≡◌}
use mathlib.Core.Bool.{Bool, true, false, not}
use Rattle.refusals.proofs.Rows.{passing, told_turned}

-- a section that has the shape does not lack it
pub shape_there : {b : Bool} → b ≡ true → not b ≡ false
shape_there e = rw e

pub ruleset nodeRows = (passing, told_turned, shape_there)
