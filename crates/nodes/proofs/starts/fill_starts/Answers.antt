-- The first k records have their starts, and the others stand from p on.
use Rattle.nodes.proofs.StartsFilling.{started_on}
use Rattle.nodes.proofs.starts.fill_starts.Goals as goal

pub loop-k-preserved : goal.loop-k-preserved
loop-k-preserved c =
    started_on c.loop-k.invariant c.loop-k-test.true c.record_end.ensures.place c.unwrap-p.ensures c.requires.1
