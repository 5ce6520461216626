-- The slots that are passed are sound.
use mathlib.Core.Path.{◌≡◌}
use mathlib.Core.Bool.{true}
use Rattle.table.specs.Sound.{sound}
use Rattle.table.proofs.slots.sound.Given as goal

abbrev pub invariant-loop-i : goal.invariant-loop-i
invariant-loop-i l = sound l.words l.i ≡ true
