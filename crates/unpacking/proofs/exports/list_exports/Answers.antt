-- The exports of a manifest that has its shape.
use native.Mathlib.Omega.{arith}
use Rattle.unpacking.proofs.ExportLaws.{exports_inside, exports_listed}
use Rattle.unpacking.proofs.exports.list_exports.Goals as goal

pub overflow_add-result : goal.overflow_add-result
overflow_add-result c = omega (arith, exports_inside _ c.requires)

pub returns : goal.returns
returns c = exports_listed _ c.requires c.count_at.ensures
