-- What is found among the records from p on, counted from the turn, is what is found among all.
use Prim.Native.Nat.{◌-◌}
use mathlib.Core.Path.{◌≡◌}
use Rattle.lists.specs.Lists.{index_of}
use Rattle.nodes.specs.Records.{records, hashes}
use Rattle.nodes.proofs.find.find.Given as goal

abbrev pub invariant-loop-i : goal.invariant-loop-i
invariant-loop-i l =
    index_of l.h 0 (hashes (records l.s l.n l.at)) ≡ index_of l.h l.i (hashes (records l.s (l.n - l.i) l.p))
