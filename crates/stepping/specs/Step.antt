-- One step of a run on the two tables.
use Rattle.std.specs.Prelude.{ℕ, zero, suc, ◌+◌, cond, List, ltb}
use Rattle.table.specs.declared.slots.Slot.{Slot}
use Rattle.frames.specs.declared.Frame.{Frame}
use Rattle.frames.specs.declared.Frame.TheVariants.{Operand, Argument, Function}
use Rattle.table.specs.Slots.{slot, room, put_node}
use Rattle.frames.specs.Frames.{frame_room, frame_at, put_frame, drop_frame}
use Rattle.stepping.specs.declared.State.{State}
use Rattle.stepping.specs.declared.stops.Stop.TheVariants.{OutOfSlots, OutOfPlaces}
use Rattle.stepping.specs.declared.Turn.{Turn}
use Rattle.stepping.specs.declared.Turn.TheVariants.{Going, Done, Stopped}
use Rattle.stepping.specs.Rules.{SlotAction, Make, Give, Go, Push, slot_rule}

-- the run goes on, with slot f to be applied to slot x
abbrev pub going : Slot → Slot → ℕ → ℕ → Turn
going f x used waiting = Going (record { f = f; x = x; used = used; waiting = waiting })

-- the frame table that a meeting leaves, and what it comes to
pub data Met : Type 0 where
  met : List ℕ → Turn → Met

-- slot t meets the frame at place k
unfoldable pub meet_frame : List ℕ → Slot → ℕ → ℕ → Frame → Met
meet_frame j t used k (Operand b x) = met (put_frame j k (Function t)) (going b x used (suc k))
meet_frame j t used k (Argument v) = met (drop_frame j k) (going t v used k)
meet_frame j t used k (Function w) = met (drop_frame j k) (going w t used k)

-- slot t meets the newest of the waiting frames, at no cost
unfoldable pub meet : List ℕ → Slot → ℕ → ℕ → Met
meet j t used zero = met j (Done t used)
meet j t used (suc k) = meet_frame j t used k (frame_at j k)

-- the two tables that a step leaves, and what it comes to
pub data Stepped : Type 0 where
  at : List ℕ → List ℕ → Turn → Stepped

abbrev pub beside : List ℕ → Met → Stepped
beside w (met j t) = at w j t

-- what the rule asks for is done, if there is a slot or a place left for it
unfoldable pub carry : List ℕ → List ℕ → State → SlotAction → Stepped
carry w j s (Make n) =
    cond (ltb s.used (room w))
    (beside (put_node w s.used n) (meet j (slot s.used) (s.used + 1) s.waiting))
    (at w j (Stopped OutOfSlots))
carry w j s (Give t) = beside w (meet j t s.used s.waiting)
carry w j s (Go f x) = at w j (going f x s.used s.waiting)
carry w j s (Push f x k) =
    cond (ltb s.waiting (frame_room j))
    (at w (put_frame j s.waiting k) (going f x s.used (s.waiting + 1)))
    (at w j (Stopped OutOfPlaces))

unfoldable pub step : List ℕ → List ℕ → State → Stepped
step w j s = carry w j s (slot_rule w s.f s.x)
