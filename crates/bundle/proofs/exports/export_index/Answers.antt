-- The refusal, or what was found.
use mathlib.Core.Path.{refl, ◌∙◌}
use native.Mathlib.Omega.{arith}
use Rattle.refusals.proofs.Outcomes.{handed_on}
use Rattle.bundle.proofs.Verdicts.{manifest_shape}
use Rattle.bundle.proofs.ExportWays.{index_refused, index_told}
use Rattle.bundle.proofs.exports.export_index.Goals as goal

pub returns-in_err-c : goal.returns-in_err-c
returns-in_err-c c = handed_on _ _ c.from_residual.ensures.1 ∙ index_refused _ _ c.in_err-c.ensures refl

pub index_asked-requires : goal.index_asked-requires
index_asked-requires c = manifest_shape _ c.in_ok-c.ensures refl c.of.ensures

pub returns : goal.returns
returns c = index_told _ _ c.in_ok-c.ensures refl c.of.ensures (grind arith) c.ok_or.ensures.value
