-- The first k records have their links.
use native.Mathlib.Omega.{arith}
use Rattle.nodes.proofs.StartTable.{nodes_counted}
use Rattle.nodes.proofs.Filling.{linking_on}
use Rattle.nodes.proofs.starts.Records.fill_links.Goals as goal

pub loop-k-preserved : goal.loop-k-preserved
loop-k-preserved c =
    let e = nodes_counted c.args.self.now.started in
    linking_on _ _ _ _ c.loop-k.invariant (omega arith) (omega arith) c.payload.ensures c.links-first.ensures.first
    c.links-first.ensures.second
