-- Block by block: the first that has another word decides.
use mathlib.Core.Path.{◌≡◌}
use Rattle.std.specs.Slice.Iter.{chunks_rest}
use Rattle.frames.specs.SoundFrames.{all_zero}
use Rattle.frames.proofs.zeros.Given as goal

abbrev pub invariant-loop-block : goal.invariant-loop-block
invariant-loop-block l = all_zero l.words ≡ all_zero (chunks_rest l.block-iterator)
