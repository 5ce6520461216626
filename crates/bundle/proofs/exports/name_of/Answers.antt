-- Where the export stands in the manifest section, so that its name stands in the file.
use native.Mathlib.Omega.{arith}
use Rattle.bundle.proofs.ExportWays.{name_found, no_name, name_room}
use Rattle.bundle.proofs.exports.name_of.Goals as goal

pub overflow_add-result : goal.overflow_add-result
overflow_add-result c =
    omega (arith, name_room _ c.requires _ c.of-m.ensures c.place_at.ensures c.in-Some.is)

pub overflow_add-result-in-Some : goal.overflow_add-result-in-Some
overflow_add-result-in-Some c =
    omega (arith, name_room _ c.requires _ c.of-m.ensures c.place_at.ensures c.in-Some.is)

pub returns-in-Some : goal.returns-in-Some
returns-in-Some c =
    name_found _ c.requires _ c.of-m.ensures c.place_at.ensures c.in-Some.is
    c.count_at.ensures

pub returns-in-None : goal.returns-in-None
returns-in-None c =
    no_name _ c.requires _ c.of-m.ensures c.place_at.ensures c.in-None.is
