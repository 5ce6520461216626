-- The words are written from the front, four bytes each.
use Rattle.std.proofs.Common.{◌≡◌, ◌*◌, length, take}
use Rattle.sha256_block.specs.Fips180.{tabulate, digest_byte}
use Rattle.sha256_block.proofs.bytes_of.Given as goal

abbrev pub invariant-loop-i : goal.invariant-loop-i
invariant-loop-i l = (length l.out ≡ 32) × (take (4 * l.i) l.out ≡ tabulate (4 * l.i) (digest_byte l.word-items))
