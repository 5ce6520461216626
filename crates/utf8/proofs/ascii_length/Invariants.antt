-- So far all were characters of one octet; those that are left are counted from i on.
use Prim.Native.Nat.{◌+◌}
use Rattle.std.proofs.Common.{◌≡◌, drop}
use Rattle.std.specs.List.{prefix_len}
use lib.Dec.{ltb}
use Rattle.utf8.specs.State.{ascii_length}
use Rattle.utf8.proofs.ascii_length.Given as goal

abbrev pub invariant-loop-i : goal.invariant-loop-i
invariant-loop-i l = ascii_length l.s ≡ l.i + prefix_len (λ b. ltb b 0x80) (drop l.i l.s)
