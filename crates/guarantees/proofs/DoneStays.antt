-- A done run stays done: each of its steps is the same with more room, and so, by the fuel, is its end.
use Prim.Native.Nat.{ℕ, zero, suc, ◌+◌, ◌*◌, ◌≤◌, ◌<◌}
use mathlib.Core.Path.{◌≡◌, refl, sym, ap, ◌∙◌, subst}
use mathlib.Core.List.{List, ◌++◌}
use native.Mathlib.Omega.{arith}
use lib.ListN.{length, get_or, drop}
use lib.IntN.{ℤ, pos}
use lib.Seq.{drop-append_seam}
use Rattle.std.specs.Prelude.{Ok, Err}
use Rattle.refusals.specs.Refusals.{Clear}
use Rattle.refusals.proofs.Choice.{by_answer}
use Rattle.table.specs.Slots.{room, named_slot, SameSlots}
use Rattle.frames.specs.Frames.{frame_room, Record, job_words_at, frame_of, frame_at}
use Rattle.frames.specs.Stand.{ZeroFrom}
use Rattle.frames.specs.SoundFrames.{SoundJob, SoundJobs}
use Rattle.table.proofs.SoundLaws.{sound_same}
use Rattle.frames.proofs.SoundFrames.{frames_sound_lem}
use Rattle.stepping.specs.declared.State.{State}
use Rattle.stepping.specs.declared.Turn.TheVariants.{Going, Done as IsDone, Stopped as IsStopped}
use Rattle.stepping.specs.declared.Turn.{Turn}
use Rattle.engine.specs.declared.Ending.TheVariants.{Done, Stopped}
use Rattle.stepping.specs.Step.{Stepped, at, step}
use Rattle.engine.specs.Admission.{slot_rows, from_rows, run_rows}
use Rattle.engine.specs.Run.{Ran, ran, resume_as, resume, drive, waiting_of, jobs_from, state_from, run_tail, ran_with, run_from}
use Rattle.engine.specs.declared.From.{From}
use Rattle.engine.specs.declared.From.TheVariants.{Scratch, Stop}
use Rattle.engine.specs.Answer.{RunAnswer, run_numbers}
use Rattle.stepping.specs.Ready.{Runnable, Waits}
use Rattle.stepping.proofs.Keeps.{LeftBy, Left, step_keeps}
use Rattle.engine.proofs.AdmissionLaws.{slots_clear, clear_some, clear_places, clear_ready, clear_frames, clear_waits}
use Rattle.engine.proofs.AdmissionLaws.{run_numbered, run_slots, run_begins}
use Rattle.guarantees.specs.Run.{steps_before, TooMany, JobsDamaged, SameJobs, DoneStays}
use Rattle.guarantees.proofs.Calls.{go_started, run_behind}
use Rattle.guarantees.proofs.Verdict.{Ended, RunVerdict, out, misplaced, damaged, at_last, started, verdict}
use Rattle.guarantees.proofs.SameSteps.{SameWords, SameFrames, StaysAs, Stays, frames_cleared, step_stays}

-- if the first run is done, so is the second, with the same answer, and the used slots are the same
abbrev EndsAs : List ℕ → RunAnswer → Ran → Type 0
EndsAs v (Ok (Done slot steps used)) (ran v' k a) = (a ≡ Ok (Done slot steps used)) × SameSlots used v v'
EndsAs v (Err n) r = Unit {0}
EndsAs v (Ok (Stopped n f x steps used waiting)) r = Unit {0}

abbrev Ends : Ran → Ran → Type 0
Ends (ran v k a) r = EndsAs v a r

-- ---- the loop

-- the second goes on from the same used slots and waiting frames as the first does
abbrev Follows : (ℕ → List ℕ → List ℕ → State → Ran) → (ℕ → List ℕ → List ℕ → State → Ran) → Type 0
Follows rest rest' =
    (k : ℕ) (w j w' j' : List ℕ) (s : State) → Runnable w s → Waits j s.used s.waiting
    → SameWords w w' s.used → SameFrames j j' s.waiting → Ends (rest k w j s) (rest' k w' j' s)

module _ (rest rest' : ℕ → List ℕ → List ℕ → State → Ran) (follows : Follows rest rest') (k : ℕ) (s : State) where
  resumed : (w j : List ℕ) (t : Turn) (c : Stepped) → LeftBy w j t → StaysAs w j t c
      → Ends (resume_as rest k s w j t) (resume rest' k s c)
  resumed w j (Going next) (at w' j' t') left same =
      rw same.0 (follows (suc k) w j w' j' next left.0 left.1 same.1 same.2)
  resumed w j (IsDone a used) (at w' j' t') left same = rw same.0 (refl, same.1.slots)
  resumed w j (IsStopped why) c left same = tt

  resume_stays : (c c' : Stepped) → Left c → Stays c c' → Ends (resume rest k s c) (resume rest' k s c')
  resume_stays (at w j t) c' left same = resumed w j t c' left same

drive_stays : (n n' : ℕ) → n ≤ n' → Follows (drive n) (drive n')
unfolding drive
drive_stays zero n' h k w j w' j' s ready waits words frames = tt
drive_stays (suc n) zero h k w j w' j' s ready waits words frames = absurd (omega arith)
drive_stays (suc n) (suc n') h k w j w' j' s ready waits words frames =
    resume_stays (drive n) (drive n') (drive_stays n n' (omega arith)) k s (step w j s) (step w' j' s)
    (step_keeps w j s ready waits) (step_stays w w' j j' s ready waits words frames)

-- ---- the jobs of a stop

module _ (waiting : ℕ) (j j' : List ℕ) (same : (i : ℕ) → i < 3 * waiting → get_or j i 0 ≡ get_or j' i 0) where
  same_record : (k : ℕ) → k < waiting → job_words_at j k ≡ job_words_at j' k
  unfolding job_words_at
  same_record k l = cc (same (3 * k) (omega arith), same (3 * k + 1) (omega arith), same (3 * k + 2) (omega arith))

  same_frames : frame_room j ≤ frame_room j' → SameFrames j j' waiting
  unfolding frame_at
  same_frames h =
      record {
        frames = λ k l. ap (λ (r : Record). frame_of r.tag r.first r.second) (same_record k l);
        rooms = h;
      }

  same_jobs : (used : ℕ) → frame_room j ≤ frame_room j' → ZeroFrom j' waiting → SoundJobs used j waiting → SoundJobs used j' waiting
  same_jobs used h zs s =
      record {
        fits = omega (arith, s.fits);
        each = λ k l. subst (SoundJob used) (same_record k l) (s.each k l);
        above = zs;
      }

-- ---- the call

module _ (w w' j j' : List ℕ) (used fuel fuel' : ℕ) (slots : SameSlots used w w') (h : fuel ≤ fuel')
    (rooms : room w ≤ room w') (places : frame_room j ≤ frame_room j') (f x : ℤ) where
  -- slots that do not refuse the first do not refuse the second,
  slots_stay : Clear (slot_rows w f x used) → Clear (slot_rows w' f x used)
  slots_stay clear =
      let ready = clear_ready w f x used clear Scratch in
      let (hf, hx) = clear_places w f x used clear in
      let good = sym (sound_same w w' used slots) ∙ ready.slots.sound in
      slots_clear w' f x used (record { fits = omega (arith, ready.slots.fits); sound = good }) (clear_some w f x used clear) hf hx

  -- nor do the jobs of a stop, and the frames that wait are the same
  begins_stay : (from : From) → SameJobs from j j' → Clear (from_rows from j used fuel)
      → (JobsDamaged from used j' → ⊥) × SameFrames (jobs_from from j) (jobs_from from j') (waiting_of from)
  begins_stay Scratch jobs clear = (λ z. z, frames_cleared j j' places)
  begins_stay (Stop waiting steps) (same, zs) clear =
      let good = (frames_sound_lem used j waiting).0 (clear_frames j used waiting steps fuel clear) in
      (λ z. z (same_jobs waiting j j' same used places zs good), same_frames waiting j j' same places)

  tail_stays : (from : From) → SameJobs from j j' → (TooMany from fuel' → ⊥)
      → Ends (run_tail from w f x used fuel j) (run_tail from w' f x used fuel' j')
  unfolding run_tail
  tail_stays from jobs few =
      by_answer (λ n. ran w j (Err n)) _ (λ r. Ends r (run_tail from w' f x used fuel' j')) (run_rows from w f x used fuel j)
      (run_numbered w f x used fuel j from) (λ n _ _. tt)
      (λ clear.
      let slots_clear = run_slots w f x used fuel j from clear in
      let begins = run_begins w f x used fuel j from clear in
      let (well, frames) = begins_stay from jobs begins in
      let first = state_from from (named_slot f) (named_slot x) used in
      subst (Ends (drive fuel (steps_before from) w (jobs_from from j) first)) (sym (go_started from w' fuel' j' f x used (slots_stay slots_clear) well few))
      (drive_stays fuel fuel' h (steps_before from) w (jobs_from from j) w' (jobs_from from j') first
      (clear_ready w f x used slots_clear from) (clear_waits j used fuel from begins) (record { slots = slots; rooms = rooms }) frames))

-- after the words before the base
finish : (before v k : List ℕ) (slot : ℤ) (steps used : ℕ) (r r' : Ran)
    → ran_with before r ≡ ran (before ++ v) k (Ok (Done slot steps used)) → Ends r r'
    → (v' : List ℕ) × (k' : List ℕ) × (r' ≡ ran v' k' (Ok (Done slot steps used))) × SameSlots used v v'
finish before v k slot steps used (ran w j a) (ran w' j' a') e h =
    let p : before ++ w ≡ before ++ v = cc in
    let q : w ≡ v = sym (drop-append_seam before w) ∙ ap (drop (length before)) p ∙ drop-append_seam before v in
    let b : a ≡ Ok (Done slot steps used) = cc in
    let s : EndsAs v (Ok (Done slot steps used)) (ran w' j' a') = rw (q, b) at h in
    (w', j', ap (ran w' j') s.0, s.1)

-- a run that is answered 0 is done
module _ (w v j k : List ℕ) (a : RunAnswer) (z : (run_numbers a).number ≡ 0) where
  abbrev IsDoneRun : Type 0
  IsDoneRun = (slot : ℤ) × (steps : ℕ) × (used : ℕ) × (a ≡ Ok (Done slot steps used))

  not_refused : (n : ℕ) → (n ≡ 0 → ⊥) → ran w j (Err n) ≡ ran v k a → IsDoneRun
  not_refused n h e =
      let q : Err n ≡ a = cc in
      absurd (h (ap (λ (x : RunAnswer). (run_numbers x).number) q ∙ z))

  ended_done : (b : RunAnswer) → a ≡ b → Ended (ran v k b) → IsDoneRun
  ended_done (Err n) e h = absurd h
  ended_done (Ok (Done slot steps used)) e h = (slot, steps, used, e)
  ended_done (Ok (Stopped n f x steps used waiting)) e h =
      let q : n ≡ 0 = sym (ap (λ (x : RunAnswer). (run_numbers x).number) e) ∙ z in
      absurd (omega (arith, h.0))

  done_is : {A B C D : Type 0} {r : Ran} → RunVerdict w j A B C D r → r ≡ ran v k a → IsDoneRun
  done_is (out o) e = not_refused 21 (omega arith) e
  done_is (misplaced o m) e = not_refused 23 (omega arith) e
  done_is (damaged o m d) e = not_refused 24 (omega arith) e
  done_is (at_last o m d n) e = not_refused 40 (omega arith) e
  done_is (started o m d n h) e = ended_done a refl (subst Ended e h)

-- more fuel and room: the same answer and used slots
module _ (from : From) (before before' w w' v j j' k : List ℕ) (f x : ℤ) (used fuel fuel' : ℕ) where
  abbrev Again : RunAnswer → Type 0
  Again a =
      (v' : List ℕ) × (k' : List ℕ)
      × (run_from from (before' ++ w') (pos (length before')) f x used fuel' j' ≡ ran (before' ++ v') k' a)
      × SameSlots (run_numbers a).used v v'

  again : (slot : ℤ) (steps used' : ℕ)
      → run_from from (before ++ w) (pos (length before)) f x used fuel j ≡ ran (before ++ v) k (Ok (Done slot steps used'))
      → Ends (run_tail from w f x used fuel j) (run_tail from w' f x used fuel' j') → Again (Ok (Done slot steps used'))
  again slot steps used' e ends =
      let first = sym (run_behind from before w j f x used fuel) ∙ e in
      let r
      = finish before v k slot steps used' (run_tail from w f x used fuel j) (run_tail from w' f x used fuel' j') first ends
      in
      (r.0, r.1, run_behind from before' w' j' f x used fuel' ∙ ap (ran_with before') r.2, r.3)

pub done_stays : DoneStays
done_stays from before before' w w' v j j' k f x used fuel fuel' a e z slots jobs few h rooms places =
    let (slot, steps, used', d)
    = done_is (before ++ w) (before ++ v) j k a z (verdict from (before ++ w) j (pos (length before)) f x used fuel) e
    in
    subst (Again from before before' w w' v j j' k f x used fuel fuel') (sym d)
    (again from before before' w w' v j j' k f x used fuel fuel' slot steps used' (rw d at e)
    (tail_stays w w' j j' used fuel fuel' slots h rooms places f x from jobs few))
