-- The plain engine's call: what it answers, and every word that it leaves in the table.
use Rattle.std.specs.Prelude.{ℕ, ◌-◌, Bool, List, [], ◌∷◌, ◌++◌, ltb, ℤ, pos, Ok, Err}
use Rattle.lists.specs.Lists.{any_of}
use Rattle.refusals.specs.Refusals.{Row, ◌when◌, answer, unless_refused}
use Rattle.table.specs.Base.{from_base}
use Rattle.table.specs.Slots.{named_slot}
use Rattle.stepping.specs.Stops.{stops_with}
use Rattle.engine.specs.Admission.{slot_rows}
use Rattle.applying.specs.Apply.{Applied, Came, came, apply}
use Rattle.plain.specs.declared.PlainEnding.{PlainEnding}
use Rattle.plain.specs.declared.PlainEnding.TheVariants.{Done, Stopped}
use Rattle.plain.specs.Answer.{PlainAnswer}

-- the word table at exit, and the answer
pub data Played : Type 0 where
  played : List ℕ → PlainAnswer → Played

-- the steps are the fuel less what is left of it
abbrev pub ended_by : ℕ → Applied → PlainEnding ℕ
ended_by fuel (Ok (t, p)) = Done (pos t.0) (fuel - p.left) p.used
ended_by fuel (Err h) = Stopped (stops_with h.why) (fuel - h.at.left) h.at.used

abbrev pub answered : ℕ → Came → Played
answered fuel (came w a) = played w (Ok (ended_by fuel a))

-- the most fuel, and the most places for jobs, for the stack's sake: each step may go a level deeper
abbrev pub most_plain : ℕ
most_plain = 1000

-- fuel or job room above that
unfoldable pub too_deep : ℕ → ℕ → Bool
too_deep fuel places = any_of (ltb most_plain fuel ∷ ltb most_plain places ∷ [])

-- what refuses a plain run: 21, 23 and 24 as the run call has them, then 49
unfoldable pub plain_rows : List ℕ → ℤ → ℤ → ℕ → ℕ → ℕ → List Row
plain_rows w f x used fuel places = slot_rows w f x used ++ ((49 when too_deep fuel places) ∷ [])

-- on the part of the table that is ours: a refusal changes nothing
unfoldable pub plain_tail : List ℕ → ℤ → ℤ → ℕ → ℕ → ℕ → Played
plain_tail w f x used fuel places =
    unless_refused (answer (plain_rows w f x used fuel places)) (λ n. played w (Err n))
    (answered fuel (apply fuel places 0 w (named_slot f) (named_slot x) (record { left = fuel; used = used })))

abbrev pub played_with : List ℕ → Played → Played
played_with before (played w a) = played (before ++ w) a

-- 21: base negative or past the end of the table
unfoldable pub plain_run : List ℕ → ℤ → ℤ → ℤ → ℕ → ℕ → ℕ → Played
plain_run w base f x used fuel places =
    from_base w base (played w (Err 21)) (λ before part. played_with before (plain_tail part f x used fuel places))
