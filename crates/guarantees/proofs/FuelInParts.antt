-- Fuel in parts: a run that is stopped with 31 and carried on is the run with the sum. By the fuel of the first part: a state that
-- stands for one of the machine's is let carry on. With no fuel a carry-on leaves what it was handed.
use Prim.Native.Nat.{ℕ, zero, suc, ◌+◌, ◌-◌, ◌≤◌}
use mathlib.Core.Path.{◌≡◌, refl, sym, ap, ◌∙◌}
use mathlib.Core.Bool.{false}
use mathlib.Core.List.{List, [], ◌∷◌, ◌++◌, reverse}
use mathlib.Core.Logic.{inl, inr}
use native.Mathlib.Omega.{arith}
use native.Mathlib.Nat.{zero-add, suc-add}
use lib.ListN.{length, take, drop, take-append-drop, length-reverse}
use lib.Seq.{length-take-le}
use lib.Dec.{eqb}
use lib.IntN.{ℤ, pos}
use Rattle.std.specs.Prelude.{Ok, Err}
use Rattle.calculus.specs.Machine as machine
use Rattle.table.specs.Slots.{room}
use Rattle.frames.specs.Frames.{frame_room}
use Rattle.frames.proofs.SoundFrames.{standing_sound}
use Rattle.stepping.specs.declared.State.{State}
use Rattle.engine.specs.declared.Ending.TheVariants.{Stopped}
use Rattle.stepping.specs.Step.{Stepped, step}
use Rattle.engine.specs.Admission.{max_steps}
use Rattle.engine.specs.Run.{Ran, ran, resume, drive, ran_with, run_from}
use Rattle.engine.specs.declared.From.{From}
use Rattle.engine.specs.declared.From.TheVariants.{Scratch, Stop}
use Rattle.guarantees.specs.Run.{steps_before, TooMany, Waiting, RefusedWith, Listed}
use Rattle.guarantees.specs.Onward.{next_part, sum, FuelInParts, NoFuelKeeps}
use Rattle.guarantees.proofs.Calls.{run_behind}
use Rattle.guarantees.proofs.Simulates.{frames_count, frames_turned, Sim}
use Rattle.guarantees.proofs.Simulates.{Turns, turns_going, turns_done, turns_no_slot, turns_no_place, steps}
use Rattle.guarantees.proofs.RunSimulates.{starts}
use Rattle.guarantees.proofs.Verdict.{out, misplaced, damaged, at_last, started, Judged, verdict}
use Rattle.guarantees.proofs.RefusalKeeps.{number_tells, one_answer}
use Rattle.guarantees.proofs.RefusedExactly.{refused_exactly}
use Rattle.guarantees.proofs.Begins.{Begins, begins, first, drives, stands, begun}

-- ---- the loop

-- the frames of a state that stands for one of the machine's are jobs to carry on with
sim_waits : (w j : List ℕ) (s : State) (p : machine.MachineState) → Sim w j s p → (k : ℕ)
    → Waiting (Stop s.waiting k) w s.used j (reverse p.frames)
sim_waits w j s p sim k =
    let count = frames_count w s.used j s.waiting p.frames sim.frames in
    let long : length (reverse p.frames) ≡ s.waiting = length-reverse p.frames ∙ count in
    let turned = frames_turned w s.used j s.waiting p.frames sim.frames in (
      rw long at
          (standing_sound w s.used j (reverse p.frames) (omega (arith, long, sim.fits)) turned (rw long sim.above)),
      long,
      turned,
    )

module _ (before : List ℕ) (n : ℕ) where
  abbrev on : Ran → Ran
  on r = next_part run_from (pos (length before)) n (ran_with before r)

  abbrev Cuts : ℕ → Type 0
  Cuts m =
      (k : ℕ) (w j : List ℕ) (s : State) (p : machine.MachineState) → Sim w j s p → k + (m + n) ≤ max_steps
      → on (drive m k w j s) ≡ ran_with before (drive (m + n) k w j s)

  module _ (m : ℕ) (cuts : Cuts m) (k : ℕ) (w j : List ℕ) (s : State) (most : k + (suc m + n) ≤ max_steps) where
    resumes : (c : Stepped) (t : machine.MachineTurn) → Turns w j s c t
        → on (resume (drive m) k s c) ≡ ran_with before (resume (drive (m + n)) k s c)
    resumes c t (turns_going {v = v} {k = i} {next = next} {p = q} grown long sim) =
        cuts (suc k) v i next q sim (omega arith)
    resumes c t (turns_done e l h) = refl
    resumes c t turns_no_slot = refl
    resumes c t turns_no_place = refl

  drive_cuts : (m : ℕ) → Cuts m
  unfolding drive
  drive_cuts zero k w j s p sim l =
      rw (zero-add n)
      (run_behind (Stop s.waiting k) before w j (pos s.f.0) (pos s.x.0) s.used n
      ∙ ap (ran_with before)
      (starts (Stop s.waiting k) w j s.used s.f.0 s.x.0 n p.f p.x (reverse p.frames) sim.slots
      sim.f sim.x (sim_waits w j s p sim k) (λ g. omega arith)))
  drive_cuts (suc m) k w j s p sim l =
      rw (suc-add m n)
      (resumes m (drive_cuts m) k w j s l (step w j s) (machine.machine_step (room w - s.used) (frame_room j) p) (steps w j s p sim))

-- ---- one part more

not_many : (from : From) (fuel : ℕ) → steps_before from + fuel ≤ max_steps → TooMany from fuel → ⊥
not_many Scratch fuel l h = h
not_many (Stop waiting steps) fuel l h = omega arith

module _ (from : From) (w j : List ℕ) (base f x : ℤ) (used : ℕ) where
  -- a refusal by its number is that case of the answer
  is_refused : (fuel q : ℕ) → Listed 40 q → (r : Ran) → run_from from w base f x used fuel j ≡ r → RefusedWith q w j r
      → r ≡ ran w j (Err q)
  is_refused fuel q l (ran v k a) e (z, p, i) =
      cc (one_answer a (Err q) (number_tells from w v j k base f x used fuel a e) l z, p, i)

  module _ (m n : ℕ) (most : steps_before from + (m + n) ≤ max_steps) where
    abbrev short : Ran
    short = run_from from w base f x used m j

    -- what is refused with the sum is refused with the first part
    both_refused : (q : ℕ) → Listed 40 q → eqb q 31 ≡ false → RefusedWith q w j short → next_part run_from base n short ≡ ran w j (Err q)
    both_refused q l z h = rw (is_refused m q l short refl h, z)

    both_begin : Begins from w j base f x used (m + n) → next_part run_from base n short ≡ run_from from w base f x used (m + n) j
    both_begin s =
        let b = s.at in
        let e
        = drive_cuts (take b w) n m (steps_before from) (drop b w) _ (first s) _ (stands s) (omega arith)
        in
        rw (drives s m (not_many from m (omega arith)), drives s (m + n) (not_many from (m + n) most))
        (rw s.base_is (rw (length-take-le b w s.inside) at e))

    judged : (r : Ran) → Judged from w j base f x used (m + n) r → run_from from w base f x used (m + n) j ≡ r
        → next_part run_from base n short ≡ r
    judged r (out o) e = both_refused 21 (inl refl) refl ((refused_exactly from w j base f x used m).0.1 o)
    judged r (misplaced o p) e =
        both_refused 23 (inr (inl refl)) refl ((refused_exactly from w j base f x used m).1.1 (o, p))
    judged r (damaged o p d) e =
        both_refused 24 (inr (inr (inl refl))) refl ((refused_exactly from w j base f x used m).2.1 (o, p, d))
    judged r (at_last o p d t) e = absurd (not_many from (m + n) most t)
    judged r (started o p d t h) e = both_begin (begins from w j base f x used (m + n) o p d t) ∙ e

    one_part : next_part run_from base n short ≡ run_from from w base f x used (m + n) j
    one_part = judged (run_from from w base f x used (m + n) j) (verdict from w j base f x used (m + n)) refl

-- ---- any number of parts

pub fuel_in_parts : FuelInParts
fuel_in_parts from w j base f x used m [] l = let e : m + 0 ≡ m = omega arith in rw e
fuel_in_parts from w j base f x used m (n ∷ ns) l =
    let e : m + n + sum ns ≡ m + (n + sum ns) = omega arith in
    rw (one_part from w j base f x used m n (omega arith), ← e)
    (fuel_in_parts from w j base f x used (m + n) ns (omega arith))

-- ---- no fuel

pub no_fuel_keeps : NoFuelKeeps
unfolding drive
no_fuel_keeps waiting k₀ w v j k base f x used a e go =
    let (s, _) = begun (Stop waiting k₀) w v j k base f x used 0 a go e in
    let h : ran (take s.at w ++ drop s.at w) j (Ok (Stopped 31 (pos s.f_slot) (pos s.x_slot) k₀ used waiting)) ≡ ran v k a
    = sym (drives s 0 s.few) ∙ e
    in
    let p : take s.at w ++ drop s.at w ≡ v = cc in
    let q : Ok (Stopped 31 (pos s.f_slot) (pos s.x_slot) k₀ used waiting) ≡ a = cc in
    let i : j ≡ k = cc in
    let named : Stopped 31 f x k₀ used waiting ≡ Stopped 31 (pos s.f_slot) (pos s.x_slot) k₀ used waiting
    = cc (s.f_is, s.x_is)
    in
    (sym q ∙ ap Ok (sym named), sym p ∙ take-append-drop s.at w, sym i)
