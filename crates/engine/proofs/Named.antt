-- Every slot that a run or a carry-on answers is a used one.
use Prim.Native.Nat.{ℕ, zero, suc, ◌<◌}
use mathlib.Core.Path.{refl, subst}
use mathlib.Core.List.{List}
use native.Mathlib.Omega.{arith}
use lib.IntN.{ℤ}
use lib.ListN.{take, drop}
use Rattle.std.specs.Prelude.{Ok, Err}
use Rattle.refusals.proofs.Choice.{by_answer}
use Rattle.table.specs.Slots.{named_slot}
use Rattle.table.proofs.BaseLaws.{by_base}
use Rattle.table.proofs.SlotLaws.{room_most}
use Rattle.stepping.specs.declared.State.{State}
use Rattle.stepping.specs.declared.Turn.{Turn}
use Rattle.stepping.specs.declared.Turn.TheVariants.{Going, Done as IsDone, Stopped as IsStopped}
use Rattle.engine.specs.declared.From.{From}
use Rattle.stepping.specs.Step.{Stepped, at, step}
use Rattle.stepping.specs.Ready.{Runnable, Waits}
use Rattle.stepping.specs.Stops.{stops_with}
use Rattle.engine.specs.Admission.{run_rows}
use Rattle.engine.specs.Run.{Ran, ran, finished, stopped, resume_as, resume, drive}
use Rattle.engine.specs.Run.{steps_of, jobs_from, state_from, run_tail, ran_with, run_from}
use Rattle.engine.specs.Named.{RunSlotsUsed, SlotsNamed}
use Rattle.stepping.proofs.Keeps.{LeftBy, Left, step_keeps}
use Rattle.table.specs.Sound.{SlotsPass}
use Rattle.table.specs.declared.slots.Slot.{Slot}
use Rattle.engine.proofs.AdmissionLaws.{clear_ready, clear_waits, run_numbered, run_slots, run_begins}

abbrev Names : Ran → Type 0
Names (ran w j a) = RunSlotsUsed a

-- of a result among sound slots, and of a state that is ready
finished_named : (w : List ℕ) (t : Slot) (k used : ℕ) → SlotsPass w used → t.0 < used → RunSlotsUsed (Ok (finished t k used))
finished_named w t k used slots h = (omega (arith, slots.fits, room_most w), (_, refl, h))

stopped_named : (w : List ℕ) (s : State) (n k : ℕ) → Runnable w s → RunSlotsUsed (Ok (stopped n s k))
stopped_named w s n k r = (omega (arith, r.slots.fits, room_most w), (_, refl, r.f), (_, refl, r.x))

-- the loop
module _ (rest : ℕ → List ℕ → List ℕ → State → Ran)
    (all : (k : ℕ) (w j : List ℕ) (s : State) → Runnable w s → Waits j s.used s.waiting → Names (rest k w j s))
    (k : ℕ) (w : List ℕ) (s : State) (r : Runnable w s) where
  turn_named : (w' j' : List ℕ) (t : Turn) → LeftBy w' j' t → Names (resume_as rest k s w' j' t)
  turn_named w' j' (Going next) l = all (suc k) w' j' next l.0 l.1
  turn_named w' j' (IsDone t used) l = finished_named w' t (suc k) used l.0 l.1
  turn_named w' j' (IsStopped why) l = stopped_named w s (stops_with why) k r

  resume_named : (t : Stepped) → Left t → Names (resume rest k s t)
  resume_named (at w' j' t) l = turn_named w' j' t l

drive_named : (n k : ℕ) (w j : List ℕ) (s : State) → Runnable w s → Waits j s.used s.waiting →
    Names (drive n k w j s)
unfolding drive
drive_named zero k w j s r h = stopped_named w s 31 k r
drive_named (suc n) k w j s r h = resume_named (drive n) (drive_named n) k w s r (step w j s) (step_keeps w j s r h)

-- the call
tail_named : (from : From) (w j : List ℕ) (f x : ℤ) (used fuel : ℕ) → Names (run_tail from w f x used fuel j)
unfolding run_tail
tail_named from w j f x used fuel =
    by_answer (λ n. ran w j (Err n)) _ Names (run_rows from w f x used fuel j) (run_numbered w f x used fuel j from) (λ n _ _. tt)
    (λ clear. drive_named fuel (steps_of from) w (jobs_from from j) (state_from from (named_slot f) (named_slot x) used)
    (clear_ready w f x used (run_slots w f x used fuel j from clear) from)
    (clear_waits j used fuel from (run_begins w f x used fuel j from clear)))

behind_named : (before : List ℕ) (r : Ran) → Names r → Names (ran_with before r)
behind_named before (ran w j a) n = n

run_named : (from : From) (w j : List ℕ) (base f x : ℤ) (used fuel : ℕ) → Names (run_from from w base f x used fuel j)
unfolding run_from
run_named from w j base f x used fuel =
    by_base w _ _ (λ _ r. Names r) (λ b. tt) (λ b _. tt)
    (λ b _. behind_named (take b w) (run_tail from (drop b w) f x used fuel j) (tail_named from (drop b w) j f x used fuel)) base

pub slots_named_lem : SlotsNamed
slots_named_lem from w v j k base f x used fuel a e = subst Names e (run_named from w j base f x used fuel)
