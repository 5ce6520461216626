-- The first i bytes are written.
use Rattle.std.proofs.Common.{◌≡◌, length, take}
use Rattle.sha256_block.proofs.copy_over.Given as goal

abbrev pub invariant-loop-i : goal.invariant-loop-i
invariant-loop-i l = (length l.to ≡ length l.bytes) × (take l.i l.to ≡ take l.i l.bytes)
