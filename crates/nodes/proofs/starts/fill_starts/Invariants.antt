-- The first k records have their starts, and the others stand from p on.
use Rattle.nodes.proofs.StartsFilling.{Started}
use Rattle.nodes.proofs.starts.fill_starts.Given as goal

abbrev pub invariant-loop-k : goal.invariant-loop-k
invariant-loop-k l = Started l.s l.n l.initial.out l.out l.p l.k
