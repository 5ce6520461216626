-- The frames that are passed are sound.
use mathlib.Core.Path.{◌≡◌}
use mathlib.Core.Bool.{true}
use Rattle.frames.specs.SoundFrames.{each_sound}
use Rattle.frames.proofs.each_sound.Given as goal

abbrev pub invariant-loop-k : goal.invariant-loop-k
invariant-loop-k l = each_sound l.used l.jobs l.k ≡ true
