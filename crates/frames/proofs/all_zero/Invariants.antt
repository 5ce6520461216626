-- The bits of the words so far, and those of the words from there on.
use mathlib.Core.Path.{◌≡◌}
use lib.Bits.{bit_or}
use lib.ListN.{drop}
use Rattle.std.specs.List.{fold}
use Rattle.frames.proofs.all_zero.Given as goal

abbrev pub invariant-loop-word : goal.invariant-loop-word
invariant-loop-word l = fold bit_or l.bits (drop l.word-index l.words) ≡ fold bit_or 0 l.words
