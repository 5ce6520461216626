-- A run on sound used slots, with sound waiting jobs where it is carried on, is let start, and from there on it is the reference
-- machine's.
use Prim.Native.Nat.{ℕ, ◌-◌}
use mathlib.Core.Path.{◌≡◌, refl, ◌∙◌, subst}
use mathlib.Core.List.{List, ◌++◌, reverse, reverse-reverse}
use native.Mathlib.Omega.{arith}
use lib.ListN.{length, length-reverse}
use lib.IntN.{pos}
use Rattle.calculus.specs.Tree.{Tree}
use Rattle.calculus.specs.Rules.{TreeFrame}
use Rattle.calculus.specs.Machine.{Outcome}
use Rattle.calculus.specs.Machine as machine
use Rattle.refusals.specs.Refusals.{Clear}
use Rattle.table.specs.Slots.{slot, room}
use Rattle.table.specs.Sound.{SlotsPass}
use Rattle.frames.specs.Frames.{frame_room}
use Rattle.table.specs.Holds.{Holds}
use Rattle.frames.specs.Stand.{StandFrom}
use Rattle.table.proofs.SlotLaws.{used_in}
use Rattle.table.proofs.SoundLaws.{slots_sound}
use Rattle.frames.proofs.FrameLaws.{frame_room_long, length_cleared, zero_cleared}
use Rattle.table.proofs.HoldsLaws.{held_below}
use Rattle.engine.specs.Admission.{slot_rows}
use Rattle.engine.specs.Run.{Ran, ran, drive, jobs_from, state_from, run_tail, ran_with, run_from}
use Rattle.engine.proofs.AdmissionLaws.{slots_clear}
use Rattle.engine.specs.declared.From.{From}
use Rattle.engine.specs.declared.From.TheVariants.{Scratch, Stop}
use Rattle.engine.specs.Answer.{RunAnswer, run_numbers}
use Rattle.guarantees.specs.Agrees.{Agrees}
use Rattle.guarantees.specs.Run.{steps_before, TooMany, JobsDamaged, Waiting, later, RunSimulates}
use Rattle.guarantees.proofs.Calls.{go_started, run_behind}
use Rattle.guarantees.proofs.Simulates.{FramesHold, frames_back, Sim, Comes, comes_long, drive_simulates}

-- an application of used slots, of which all are sound
pub admitted : (w : List ℕ) (used f x : ℕ) {ft xt : Tree} → SlotsPass w used → Holds w used f ft → Holds w used x xt
    → Clear (slot_rows w (pos f) (pos x) used)
admitted w used f x good hf hx =
    slots_clear w (pos f) (pos x) used good (λ e. omega (arith, held_below hf)) (used_in {z = pos f} refl (held_below hf))
    (used_in {z = pos x} refl (held_below hx))

module _ (w j : List ℕ) (used f x : ℕ) (ft xt : Tree) (frames : List TreeFrame) (good : SlotsPass w used) (hf : Holds w used f ft)
    (hx : Holds w used x xt) where
  -- what the loop starts with stands for what the machine starts with
  pub first_stands : (from : From) → Waiting from w used j frames
      → Sim w (jobs_from from j) (state_from from (slot f) (slot x) used) (record { f = ft; x = xt; frames = reverse frames })
  first_stands Scratch none =
      rw none
      (record { slots = good; f = hf; x = hx; frames = tt; fits = omega arith; above = zero_cleared j })
  first_stands (Stop waiting steps) (jobs, long, stand) =
      let back : StandFrom w used j 0 (reverse (reverse frames)) = rw (reverse-reverse frames) stand in
      let e : length (reverse frames) ≡ waiting = length-reverse frames ∙ long in
      record {
        slots = good;
        f = hf;
        x = hx;
        frames = subst (λ (k : ℕ). FramesHold w used j k (reverse frames)) e (frames_back w used j (reverse frames) back);
        fits = jobs.fits;
        above = jobs.above;
      }

-- the jobs that wait are no reason against it
pub unharmed : (from : From) (w j : List ℕ) (used : ℕ) (frames : List TreeFrame) → Waiting from w used j frames → JobsDamaged from used j → ⊥
unharmed Scratch w j used frames h z = z
unharmed (Stop waiting steps) w j used frames h z = z h.0

long_from : (from : From) (j : List ℕ) → length (jobs_from from j) ≡ length j
long_from Scratch j = length_cleared j
long_from (Stop waiting steps) j = refl

module _ (from : From) (w j : List ℕ) (used f x fuel : ℕ) (ft xt : Tree) (frames : List TreeFrame) (good : SlotsPass w used)
    (hf : Holds w used f ft) (hx : Holds w used x xt) (waits : Waiting from w used j frames) (few : TooMany from fuel → ⊥) where
  abbrev outcome : List ℕ → Outcome
  outcome k =
      later (steps_before from)
      (machine.run fuel (room w - used) (frame_room k) (record { f = ft; x = xt; frames = reverse frames }))

  -- nothing refuses it
  pub starts : run_tail from w (pos f) (pos x) used fuel j
      ≡ drive fuel (steps_before from) w (jobs_from from j) (state_from from (slot f) (slot x) used)
  starts =
      go_started from w fuel j (pos f) (pos x) used (admitted w used f x good hf hx) (unharmed from w j used frames waits) few

  -- a run on the words from the base on
  tail_simulates : Comes w used j (run_tail from w (pos f) (pos x) used fuel j) (outcome j)
  tail_simulates =
      let l = long_from from j in
      let s = state_from from (slot f) (slot x) used in
      rw (starts, ← frame_room_long j (jobs_from from j) l)
      (comes_long w j (jobs_from from j) used l (drive fuel (steps_before from) w (jobs_from from j) s) (outcome (jobs_from from j))
      (drive_simulates fuel (steps_before from) w (jobs_from from j) s _
      (first_stands w j used f x ft xt frames good hf hx from waits)))

parts : (before w j : List ℕ) (used : ℕ) (r : Ran) (o : Outcome) → Comes w used j r o →
    (v : List ℕ) × (k : List ℕ) × (a : RunAnswer)
    × (ran_with before r ≡ ran (before ++ v) k a)
    × Agrees w used j v k (run_numbers a) o
parts before w j used (ran v k a) o h = (v, k, a, refl, h)

-- a run on the whole table
pub run_simulates : RunSimulates run_from
run_simulates from before w j used f x fuel ft xt frames good hf hx waits few =
    rw (run_behind from before w j (pos f) (pos x) used fuel)
    (parts before w j used (run_tail from w (pos f) (pos x) used fuel j) _
    (tail_simulates from w j used f x fuel ft xt frames ((slots_sound w used).1 good) hf hx waits few))
