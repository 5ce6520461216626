-- The words are filled in from the front; the first 16 are the block's.
use Rattle.std.proofs.Common.{◌≡◌, length, take}
use Rattle.sha256_block.specs.Fips180.{schedule}
use Rattle.sha256_block.proofs.message.Given as goal

abbrev pub invariant-loop-t : goal.invariant-loop-t
invariant-loop-t l = (length l.w ≡ 64) × (take l.t l.w ≡ schedule l.block l.t)
