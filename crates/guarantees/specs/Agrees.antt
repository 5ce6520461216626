-- When what a run leaves and answers is what the reference machine comes to.
use Rattle.std.specs.Prelude.{ℕ, ◌+◌, ◌≤◌, ◌≡◌, List, length, pos}
use Rattle.calculus.specs.Tree.{Tree, leaf}
use Rattle.calculus.specs.Rules.{TreeFrame}
use Rattle.calculus.specs.Machine.{Stop, stop_number, ended, stopped, Outcome}
use Rattle.frames.specs.Frames.{frame_room}
use Rattle.table.specs.Sound.{SoundSlots}
use Rattle.table.specs.Holds.{Holds, HoldsFrom, Untouched}
use Rattle.frames.specs.Stand.{StandFrom, ZeroFrom}
use Rattle.engine.specs.Answer.{RunNumbers}

-- What a run leaves in the two tables. w is our part of the word table before it, of which n slots are used, and j the
-- frame table that is lent; v and k are those after it, with m used slots and `waiting` frames.
pub record Leaves (w : List ℕ) (n : ℕ) (j v : List ℕ) (m : ℕ) (k : List ℕ) (made : List Tree) (waiting : ℕ) : Type 0 where
  -- the new slots hold the nodes made, in the order of making
  pub new : HoldsFrom v m n made
  -- all other words stay, so that the old slots hold what they held
  pub untouched : Untouched w n v m
  -- the used slots are sound, and slot zero is the leaf
  pub slots : SoundSlots v m
  pub zero : Holds v m 0 leaf
  -- no more frames wait than there is room for, and above them all words are 0
  pub long : length k ≡ length j
  pub places : waiting ≤ frame_room k
  pub above : ZeroFrom k waiting

-- "Done answers 0, the result's slot, steps, used count. A stop answers its number, the f and x still to be applied, steps,
-- used count, jobs waiting. Numbers not named are 0."
abbrev pub done_with : ℕ → ℕ → ℕ → RunNumbers
done_with slot steps used =
    record { number = 0; slot = pos slot; f = pos 0; x = pos 0; steps = steps; used = used; waiting = 0 }

abbrev pub stopped_with : ℕ → ℕ → ℕ → ℕ → ℕ → ℕ → RunNumbers
stopped_with number f x steps used waiting =
    record { number = number; slot = pos 0; f = pos f; x = pos x; steps = steps; used = used; waiting = waiting }

-- What a run leaves and answers, and the machine's outcome: the same ending, number and steps; a used count that grows by the
-- nodes made; slots that hold the machine's trees, and jobs that stand for its frames, oldest first.
pub data Agrees (w : List ℕ) (n : ℕ) (j v k : List ℕ) : RunNumbers → Outcome → Type 0 where
  agrees_done : {slot steps : ℕ} {t : Tree} {made : List Tree}
      → Holds v (n + length made) slot t
      → Leaves w n j v (n + length made) k made 0
      → Agrees w n j v k (done_with slot steps (n + length made))
      (record { ending = ended t; steps = steps; made = made })
  agrees_stop : {f x steps : ℕ} {why : Stop} {ft xt : Tree} {frames : List TreeFrame} {made : List Tree}
      → Holds v (n + length made) f ft
      → Holds v (n + length made) x xt
      → StandFrom v (n + length made) k 0 frames
      → Leaves w n j v (n + length made) k made (length frames)
      → Agrees w n j v k (stopped_with (stop_number why) f x steps (n + length made) (length frames))
      (record { ending = stopped why ft xt frames; steps = steps; made = made })
