-- The run call and the carry-on call: what they answer, and every word that they leave in both tables.
use Rattle.std.specs.Prelude.{ℕ, zero, suc, List, ◌++◌, ℤ, pos, Ok, Err}
use Rattle.refusals.specs.Refusals.{answer, unless_refused}
use Rattle.table.specs.declared.slots.Slot.{Slot}
use Rattle.table.specs.Base.{from_base}
use Rattle.table.specs.Slots.{named_slot}
use Rattle.frames.specs.Frames.{cleared}
use Rattle.stepping.specs.declared.State.{State}
use Rattle.stepping.specs.declared.Turn.{Turn}
use Rattle.stepping.specs.declared.Turn.TheVariants.{Going, Done as IsDone, Stopped as IsStopped}
use Rattle.stepping.specs.Stops.{stops_with}
use Rattle.stepping.specs.Step.{Stepped, at, step}
use Rattle.engine.specs.declared.From.{From}
use Rattle.engine.specs.declared.From.TheVariants.{Scratch, Stop}
use Rattle.engine.specs.declared.Ending.{Ending}
use Rattle.engine.specs.declared.Ending.TheVariants.{Done, Stopped}
use Rattle.engine.specs.Answer.{RunAnswer}
use Rattle.engine.specs.Admission.{run_rows}

-- the word table and the frame table at exit, and the answer
pub data Ran : Type 0 where
  ran : List ℕ → List ℕ → RunAnswer → Ran

abbrev pub finished : Slot → ℕ → ℕ → Ending ℕ
finished t steps used = Done (pos t.0) steps used

abbrev pub stopped : ℕ → State → ℕ → Ending ℕ
stopped n s steps = Stopped n (pos s.f.0) (pos s.x.0) steps s.used s.waiting

-- ---- the loop

-- what comes of the state s, k steps on, and its step; `rest` for the rest of the run
abbrev pub resume_as : (ℕ → List ℕ → List ℕ → State → Ran) → ℕ → State → List ℕ → List ℕ → Turn → Ran
resume_as rest k s w j (Going next) = rest (suc k) w j next
resume_as rest k s w j (IsDone t used) = ran w j (Ok (finished t (suc k) used))
resume_as rest k s w j (IsStopped why) = ran w j (Ok (stopped (stops_with why) s k))

abbrev pub resume : (ℕ → List ℕ → List ℕ → State → Ran) → ℕ → State → Stepped → Ran
resume rest k s (at w j t) = resume_as rest k s w j t

-- the fuel left, the steps so far, both tables and the state
unfoldable pub drive : ℕ → ℕ → List ℕ → List ℕ → State → Ran
drive zero k w j s = ran w j (Ok (stopped 31 s k))
drive (suc n) k w j s = resume (drive n) k s (step w j s)

-- ---- how a run begins

-- the steps that were taken before
abbrev pub steps_of : From → ℕ
steps_of Scratch = 0
steps_of (Stop waiting steps) = steps

-- the frames that wait
abbrev pub waiting_of : From → ℕ
waiting_of Scratch = 0
waiting_of (Stop waiting steps) = waiting

-- the frame table that the loop starts with: a run from scratch has it zeroed
abbrev pub jobs_from : From → List ℕ → List ℕ
jobs_from Scratch j = cleared j
jobs_from (Stop waiting steps) j = j

-- and the state
abbrev pub state_from : From → Slot → Slot → ℕ → State
state_from from f x used = record { f = f; x = x; used = used; waiting = waiting_of from }

-- ---- the calls

-- on the part of the table that is ours: a refusal changes nothing
unfoldable pub run_tail : From → List ℕ → ℤ → ℤ → ℕ → ℕ → List ℕ → Ran
run_tail from w f x used fuel j =
    unless_refused (answer (run_rows from w f x used fuel j)) (λ n. ran w j (Err n))
    (drive fuel (steps_of from) w (jobs_from from j) (state_from from (named_slot f) (named_slot x) used))

abbrev pub ran_with : List ℕ → Ran → Ran
ran_with before (ran w j a) = ran (before ++ w) j a

-- 21: base negative or past the end of the table
unfoldable pub run_from : From → List ℕ → ℤ → ℤ → ℤ → ℕ → ℕ → List ℕ → Ran
run_from from w base f x used fuel j =
    from_base w base (ran w j (Err 21)) (λ before part. ran_with before (run_tail from part f x used fuel j))
