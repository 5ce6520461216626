-- There are as many records as the table of starts says; their links are filled in, and placing counts.
use native.Mathlib.Omega.{arith}
use Rattle.nodes.proofs.StartTable.{nodes_counted}
use Rattle.nodes.proofs.Placing.{place_links, placing_left}
use Rattle.nodes.proofs.starts.Records.circular.Goals as goal

pub place-requires : goal.place-requires
place-requires c =
    let t = c.args.self.now in
    place_links _ (omega (arith, nodes_counted t.started)) (omega (arith, t.started.sized.few)) _ c.fill_links.ensures
    c.requires.unplaced

pub returns : goal.returns
returns c =
    let t = c.args.self.now in
    placing_left _ (omega (arith, nodes_counted t.started)) (omega (arith, t.started.sized.few)) _ c.fill_links.ensures
    c.requires.unplaced c.place.ensures
