-- What refuses a run on our part of the table: the rows, in the order in which they are asked.
use Rattle.std.specs.Prelude.{ℕ, ◌+◌, Bool, not, List, [], ◌∷◌, ◌++◌, ltb, eqb, ℤ}
use Rattle.lists.specs.Lists.{any_of}
use Rattle.refusals.specs.Refusals.{Row, ◌when◌}
use Rattle.table.specs.Slots.{room, is_used}
use Rattle.table.specs.Sound.{sound}
use Rattle.frames.specs.SoundFrames.{frames_sound}
use Rattle.engine.specs.declared.From.{From}
use Rattle.engine.specs.declared.From.TheVariants.{Scratch, Stop}

-- no slot is used, or more than there is room for
unfoldable pub out_of_room : List ℕ → ℕ → Bool
out_of_room w used = any_of (eqb used 0 ∷ ltb (room w) used ∷ [])

-- f or x is no used slot
unfoldable pub dangling : ℤ → ℤ → ℕ → Bool
dangling f x used = any_of (not (is_used f used) ∷ not (is_used x used) ∷ [])

-- the used slots are damaged
unfoldable pub unsound : List ℕ → ℕ → Bool
unsound w used = not (sound w used)

-- of the used count, f, x and the used slots
unfoldable pub slot_rows : List ℕ → ℤ → ℤ → ℕ → List Row
slot_rows w f x used = (21 when out_of_room w used) ∷ (23 when dangling f x used) ∷ (24 when unsound w used) ∷ []

-- the waiting frames are damaged, or a word above them is not 0
unfoldable pub frames_unsound : List ℕ → ℕ → ℕ → Bool
frames_unsound j used waiting = not (frames_sound used j waiting)

-- the most steps that an answer can tell
abbrev pub max_steps : ℕ
max_steps = 4294967295

-- earlier steps and fuel are more than that
unfoldable pub steps_overflow : ℕ → ℕ → Bool
steps_overflow steps fuel = ltb max_steps (steps + fuel)

-- of a run that goes on from a stop
unfoldable pub stop_rows : List ℕ → ℕ → ℕ → ℕ → ℕ → List Row
stop_rows j used waiting steps fuel = (24 when frames_unsound j used waiting) ∷ (40 when steps_overflow steps fuel) ∷ []

-- of how a run begins: one from scratch has its frame table zeroed
abbrev pub from_rows : From → List ℕ → ℕ → ℕ → List Row
from_rows Scratch j used fuel = []
from_rows (Stop waiting steps) j used fuel = stop_rows j used waiting steps fuel

unfoldable pub run_rows : From → List ℕ → ℤ → ℤ → ℕ → ℕ → List ℕ → List Row
run_rows from w f x used fuel j = slot_rows w f x used ++ from_rows from j used fuel
