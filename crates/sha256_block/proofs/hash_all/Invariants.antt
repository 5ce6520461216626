-- What is left to hash, from the value so far, is the whole.
use Rattle.std.proofs.Common.{◌≡◌}
use Rattle.std.specs.Slice.Iter.{chunks_exact_rest, chunks_exact_size}
use Rattle.sha256_block.specs.Fips180.{hash_all}
use Rattle.sha256_block.proofs.hash_all.Given as goal

abbrev pub invariant-loop-block : goal.invariant-loop-block
invariant-loop-block l =
    (chunks_exact_size l.block-iterator ≡ 64) × (hash_all l.h (chunks_exact_rest l.block-iterator) ≡ hash_all l.initial.h l.m)
