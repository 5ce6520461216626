-- The bytes so far are in.
use Rattle.std.proofs.Common.{◌≡◌, take}
use Rattle.sha256.specs.Running.{state_after}
use Rattle.sha256_vectors.proofs.bytewise.Given as goal

abbrev pub invariant-loop-byte : goal.invariant-loop-byte
invariant-loop-byte l = l.s ≡ state_after (take l.byte-index l.m)
