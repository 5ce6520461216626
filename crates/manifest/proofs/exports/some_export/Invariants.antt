-- One of the exports that are left, from each turn on, has the fault where one of all has it.
use Rattle.std.proofs.Common.{map, length}
use mathlib.Core.Path.{◌≡◌}
use Rattle.manifest.specs.Content.{export_at, exports_at, left_places}
use Rattle.manifest.specs.Judged.{some_export}
use Rattle.manifest.proofs.exports.some_export.Given as goal

abbrev pub invariant-loop-p : goal.invariant-loop-p
invariant-loop-p l =
    some_export l.fault (exports_at l.s l.at) ≡ some_export l.fault (map (export_at l.s) (left_places l.places))

abbrev pub decreases-loop-p : goal.decreases-loop-p
decreases-loop-p l = length (left_places l.places)
