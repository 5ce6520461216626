-- The first i records are written.
use Rattle.nodes.specs.Records.{nodes_of}
use Rattle.unpacking.proofs.Writing.{Stored}
use Rattle.unpacking.proofs.records.put_records.Given as goal

abbrev pub invariant-loop-i : goal.invariant-loop-i
invariant-loop-i l = Stored (nodes_of l.s) l.initial.words l.words l.i
