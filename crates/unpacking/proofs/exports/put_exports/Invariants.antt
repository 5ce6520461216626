-- The slots of the first j exports are written.
use Rattle.nodes.specs.Records.{nodes_of}
use Rattle.unpacking.proofs.Naming.{Naming}
use Rattle.unpacking.proofs.exports.put_exports.Given as goal

abbrev pub invariant-loop-j : goal.invariant-loop-j
invariant-loop-j l = Naming l.m (nodes_of l.s) l.n l.at l.initial.out l.out l.p l.j
