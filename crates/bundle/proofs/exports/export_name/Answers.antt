-- The bytes of the part.
use Rattle.bundle.specs.Exports.{name_call}
use Rattle.bundle.proofs.exports.export_name.Goals as goal

pub returns : goal.returns
unfolding name_call
returns c = rw (← c.name_part.ensures) c.of.ensures
