-- No name, or that of the export.
use mathlib.Core.Path.{sym, refl}
use Rattle.bundle.proofs.ExportWays.{part_refused, part_found}
use Rattle.bundle.proofs.exports.name_part.Goals as goal

pub name_of-requires : goal.name_of-requires
name_of-requires c = sym c.in-Ok.ensures

pub returns-in-Ok : goal.returns-in-Ok
returns-in-Ok c = part_found _ _ c.in-Ok.ensures refl c.name_of.ensures

pub returns-in-Err : goal.returns-in-Err
returns-in-Err c = part_refused _ _ c.in-Err.ensures refl
