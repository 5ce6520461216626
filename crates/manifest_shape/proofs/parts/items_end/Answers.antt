-- The items that are left, from each turn on, end where all of them do.
use mathlib.Core.Path.{◌∙◌}
use Rattle.manifest_shape.proofs.Items.{items_step}
use Rattle.manifest_shape.proofs.parts.items_end.Goals as goal

pub loop-preserved : goal.loop-preserved
loop-preserved c = c.loop.invariant ∙ items_step _ _ _ _ _ c.loop-test.true c.item_end.ensures c.in_ok-end.was
