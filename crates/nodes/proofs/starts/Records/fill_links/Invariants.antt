-- The first k records have their links.
use Rattle.nodes.specs.Records.{nodes_of}
use Rattle.nodes.proofs.Filling.{Linking}
use Rattle.nodes.proofs.starts.Records.fill_links.Given as goal

abbrev pub invariant-loop-k : goal.invariant-loop-k
invariant-loop-k l = Linking (nodes_of l.self.section.now) l.initial.out l.out l.k
