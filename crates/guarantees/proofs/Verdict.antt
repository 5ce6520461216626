-- How a call is judged: each refusal with its reason, and none of the reasons where a run starts.
use Prim.Native.Nat.{ℕ, zero, suc, ◌+◌, ◌≤◌, ◌<◌}
use mathlib.Core.Path.{◌≡◌, refl, sym, ◌∙◌}
use mathlib.Core.Bool.{Bool, true, false, not, false≢true, or-true}
use mathlib.Core.List.{List, [], ◌∷◌}
use mathlib.Core.Logic.{◌⊎◌, inl, inr, ⊎_elim}
use native.Mathlib.Omega.{arith}
use lib.ListN.{length, take, drop, take-append-drop}
use lib.Dec.{ltb}
use lib.IntN.{ℤ, pos, negsuc}
use borrow.Author.Tests.{ltb-true, ltb-false, le-leb, not-true, not-false}
use Rattle.std.specs.Prelude.{Ok, Err}
use Rattle.refusals.specs.Refusals.{Row, ◌when◌, answer, unless_refused}
use Rattle.refusals.proofs.Choice.{by_row}
use Rattle.table.specs.Slots.{is_used, named_slot}
use Rattle.table.specs.Sound.{sound}
use Rattle.table.proofs.BaseLaws.{by_base}
use Rattle.table.proofs.SlotLaws.{used_slot}
use Rattle.frames.specs.SoundFrames.{frames_sound}
use Rattle.table.proofs.SoundLaws.{each_sound_lem, sound_breaks}
use Rattle.frames.proofs.SoundFrames.{frames_sound_lem}
use Rattle.stepping.specs.declared.State.{State}
use Rattle.stepping.specs.declared.Turn.{Turn}
use Rattle.stepping.specs.declared.Turn.TheVariants.{Going, Done as IsDone, Stopped as IsStopped}
use Rattle.stepping.proofs.StopNumbers.{stop_range}
use Rattle.engine.specs.declared.Ending.TheVariants.{Done, Stopped}
use Rattle.stepping.specs.Step.{Stepped, at, step}
use Rattle.engine.specs.Admission.{out_of_room, dangling, unsound, slot_rows, frames_unsound, max_steps, steps_overflow, stop_rows, from_rows, run_rows}
use Rattle.engine.specs.Run.{Ran, ran, resume_as, resume, drive, steps_of, jobs_from, state_from, run_tail, ran_with, run_from}
use Rattle.engine.proofs.AdmissionLaws.{out_of_room_lem, in_room, some_dangling, both_placed}
use Rattle.engine.specs.declared.From.{From}
use Rattle.engine.specs.declared.From.TheVariants.{Scratch, Stop}
use Rattle.engine.specs.Answer.{RunAnswer, run_numbers}
use Rattle.guarantees.specs.Run.{started as let-start, Listed}
use Rattle.guarantees.specs.Run.{OutOfTable, base_negative, base_past, none_used, above_room}
use Rattle.guarantees.specs.Run.{Misplaced, negative, not_used, Damaged, JobsDamaged, TooMany}

-- ---- a run that starts is not refused

-- the answer is done, or a stop with a stop's number
abbrev EndedAs : RunAnswer → Type 0
EndedAs (Err n) = ⊥
EndedAs (Ok (Done slot steps used)) = Unit {0}
EndedAs (Ok (Stopped n f x steps used waiting)) = (31 ≤ n) × (n ≤ 33)

abbrev pub Ended : Ran → Type 0
Ended (ran w j a) = EndedAs a

-- its numbers are those of a run that was let start
abbrev pub Unrefused : Ran → Type 0
Unrefused (ran w j a) = let-start (run_numbers a).number ≡ true

pub unrefused : (r : Ran) → Ended r → Unrefused r
unrefused (ran w j (Err n)) h = absurd h
unrefused (ran w j (Ok (Done slot steps used))) h = refl
unrefused (ran w j (Ok (Stopped n f x steps used waiting))) h = rw (le-leb 31 n h.0, le-leb n 33 h.1, or-true)

behind_ended : (before : List ℕ) (r : Ran) → Ended r → Ended (ran_with before r)
behind_ended before (ran w j a) h = h

module _ (rest : ℕ → List ℕ → List ℕ → State → Ran)
    (goes : (k : ℕ) (w j : List ℕ) (s : State) → Ended (rest k w j s)) (k : ℕ) (s : State) where
  turn_ended : (w j : List ℕ) (t : Turn) → Ended (resume_as rest k s w j t)
  turn_ended w j (Going next) = goes (suc k) w j next
  turn_ended w j (IsDone a used) = tt
  turn_ended w j (IsStopped why) = stop_range why

  resume_ended : (t : Stepped) → Ended (resume rest k s t)
  resume_ended (at w j t) = turn_ended w j t

pub drive_ended : (fuel k : ℕ) (w j : List ℕ) (s : State) → Ended (drive fuel k w j s)
unfolding drive
drive_ended zero k w j s = (omega arith, omega arith)
drive_ended (suc n) k w j s = resume_ended (drive n) (drive_ended n) k s (step w j s)

-- ---- which slots are misplaced

unused_misplaced : (z : ℤ) (used : ℕ) → is_used z used ≡ false → Misplaced used z
unfolding is_used
unused_misplaced (negsuc i) used e = negative
unused_misplaced (pos i) used e = not_used {i = i} (ltb-false i used e)

pub used_placed : {used n : ℕ} {z : ℤ} → z ≡ pos n → n < used → Misplaced used z → ⊥
used_placed e h negative = let z : ◌≡◌ {A = ℕ} 0 1 = cc in omega arith
used_placed {n = n} e h (not_used {i = i} l) = let q : i ≡ n = cc in omega arith

placed_well : (z : ℤ) (used : ℕ) → is_used z used ≡ true → Misplaced used z → ⊥
placed_well z used e = let p = used_slot z used e in used_placed p.0 p.1

-- ---- the verdict

-- what a call comes to, where A, B, C and D are the reasons of 21, 23, 24 and a last number
pub data Verdict {R : Type 0} (refused : ℕ → R) (last : ℕ) (Goes : R → Type 0) (A B C D : Type 0) : R → Type 0 where
  out : A → Verdict refused last Goes A B C D (refused 21)
  misplaced : (A → ⊥) → B → Verdict refused last Goes A B C D (refused 23)
  damaged : (A → ⊥) → (B → ⊥) → C → Verdict refused last Goes A B C D (refused 24)
  at_last : (A → ⊥) → (B → ⊥) → (C → ⊥) → D → Verdict refused last Goes A B C D (refused last)
  started : {r : R} → (A → ⊥) → (B → ⊥) → (C → ⊥) → (D → ⊥) → Goes r → Verdict refused last Goes A B C D r

-- what was not let start has a number of the list,
pub listed : {R : Type 0} {refused : ℕ → R} {last : ℕ} {Goes : R → Type 0} {A B C D : Type 0} {r : R} →
    Verdict refused last Goes A B C D r → Goes r ⊎ ((n : ℕ) × (r ≡ refused n) × Listed last n)
listed (out a) = inr (21, refl, inl refl)
listed (misplaced a b) = inr (23, refl, inr (inl refl))
listed (damaged a b c) = inr (24, refl, inr (inr (inl refl)))
listed {last = last} (at_last a b c d) = inr (last, refl, inr (inr (inr refl)))
listed (started a b c d h) = inl h

-- which is not 0, and none of a stop's
pub listed_above : {last n : ℕ} → 33 < last → Listed last n → n ≡ 0 → ⊥
listed_above l (inl h) e = omega arith
listed_above l (inr (inl h)) e = omega arith
listed_above l (inr (inr (inl h))) e = omega arith
listed_above l (inr (inr (inr h))) e = omega arith

pub listed_apart : {last n m : ℕ} → 33 < last → Listed last n → (31 ≤ m) × (m ≤ 33) → n ≡ m → ⊥
listed_apart l (inl h) s e = omega arith
listed_apart l (inr (inl h)) s e = omega arith
listed_apart l (inr (inr (inl h))) s e = omega arith
listed_apart l (inr (inr (inr h))) s e = omega (arith, s.1)

-- of a run or a carry-on
abbrev pub RunVerdict : List ℕ → List ℕ → Type 0 → Type 0 → Type 0 → Type 0 → Ran → Type 0
RunVerdict w j = Verdict (λ (n : ℕ). ran w j (Err n)) 40 Ended

-- by its own reasons
abbrev pub Judged : From → List ℕ → List ℕ → ℤ → ℤ → ℤ → ℕ → ℕ → Ran → Type 0
Judged from w j base f x used fuel =
    RunVerdict w j (OutOfTable w base used) (Misplaced used f ⊎ Misplaced used x) (Damaged w base used ⊎ JobsDamaged from used j)
    (TooMany from fuel)

module _ (w j : List ℕ) (b : ℕ) (f x : ℤ) (used fuel : ℕ) where
  -- a refusal leaves the table whole
  whole : (n : ℕ) → ran_with (take b w) (ran (drop b w) j (Err n)) ≡ ran w j (Err n)
  whole n = rw (take-append-drop b w)

  -- the verdict on what is left of our part of the table
  abbrev Judge : From → Ran → Type 0
  Judge from r = Judged from w j (pos b) f x used fuel (ran_with (take b w) r)

  -- a refusal by one of the rows
  refused : (from : From) (n : ℕ) → Judged from w j (pos b) f x used fuel (ran w j (Err n)) → Judge from (ran (drop b w) j (Err n))
  refused from n v = rw (whole n) v

  -- what comes of the rows, and what passes them
  abbrev passes : From → Ran
  passes from = drive fuel (steps_of from) (drop b w) (jobs_from from j) (state_from from (named_slot f) (named_slot x) used)

  abbrev Comes : From → List Row → Type 0
  Comes from rows = Judge from (unless_refused (answer rows) (λ n. ran (drop b w) j (Err n)) (passes from))

  asks : (from : From) (n : ℕ) (t : Bool) (rows : List Row) → (n ≡ 0 → ⊥)
      → (t ≡ true → Judged from w j (pos b) f x used fuel (ran w j (Err n))) → (t ≡ false → Comes from rows)
      → Comes from ((n when t) ∷ rows)
  asks from n t rows z h k =
      by_row (λ m. ran (drop b w) j (Err m)) (passes from) (Judge from) n t rows z (λ e. refused from n (h e)) k

  passes_ended : (from : From) → Ended (ran_with (take b w) (passes from))
  passes_ended from = behind_ended (take b w) (passes from) (drive_ended fuel (steps_of from) (drop b w) (jobs_from from j) _)

  module _ (not_out : OutOfTable w (pos b) used → ⊥) (well : Misplaced used f ⊎ Misplaced used x → ⊥)
      (sound-slots : Damaged w (pos b) used → ⊥) where
    -- the verdict on a call whose slots are sound
    begins : (from : From) → Comes from (from_rows from j used fuel)
    unfolding answer stop_rows frames_unsound steps_overflow
    begins Scratch = started not_out well (⊎_elim sound-slots (λ z. z)) (λ z. z) (passes_ended Scratch)
    begins (Stop waiting steps) =
        let exactly = frames_sound_lem used j waiting in
        asks (Stop waiting steps) 24 (not (frames_sound used j waiting)) ((40 when ltb max_steps (steps + fuel)) ∷ []) (omega arith)
        (λ h. damaged not_out well (inr (λ g. false≢true (sym (not-true _ h) ∙ exactly.1 g))))
        (λ h.
        let whole-jobs = ⊎_elim sound-slots (λ z. z (exactly.0 (not-false _ h))) in
        asks (Stop waiting steps) 40 (ltb max_steps (steps + fuel)) [] (omega arith)
        (λ l. at_last not_out well whole-jobs (ltb-true max_steps (steps + fuel) l))
        (λ l. started not_out well whole-jobs (λ g. omega (arith, ltb-false max_steps (steps + fuel) l))
        (passes_ended (Stop waiting steps))))

  -- the verdict on a call whose base is in the table
  module _ (from : From) (inside : b ≤ length w) where
    not_out : out_of_room (drop b w) used ≡ false → OutOfTable w (pos b) used → ⊥
    not_out e (base_past h) = omega arith
    not_out e (none_used h) = ((in_room (drop b w) used).0 e).0 h
    not_out e (above_room h) = omega (arith, ((in_room (drop b w) used).0 e).1)

    admitted : Judge from (run_tail from (drop b w) f x used fuel j)
    unfolding run_tail run_rows slot_rows unsound
    admitted =
        asks from 21 (out_of_room (drop b w) used) _ (omega arith)
        (λ e. out (⊎_elim none_used above_room (out_of_room_lem (drop b w) used e)))
        (λ e. asks from 23 (dangling f x used) _ (omega arith)
        (λ g. misplaced (not_out e)
        (⊎_elim (λ h. inl (unused_misplaced f used h)) (λ h. inr (unused_misplaced x used h)) (some_dangling f x used g)))
        (λ g.
        let (hf, hx) = (both_placed f x used).0 g in
        let well : Misplaced used f ⊎ Misplaced used x → ⊥ = ⊎_elim (placed_well f used hf) (placed_well x used hx) in
        asks from 24 (not (sound (drop b w) used)) _ (omega arith)
        (λ h. damaged (not_out e) well (inl (sound_breaks (drop b w) used (not-true _ h))))
        (λ h. begins (not_out e) well (λ d. d.2 ((each_sound_lem (drop b w) used).0 (not-false _ h) d.0 d.1)) from)))

-- every call has its verdict
pub verdict : (from : From) (w j : List ℕ) (base f x : ℤ) (used fuel : ℕ)
    → Judged from w j base f x used fuel (run_from from w base f x used fuel j)
unfolding run_from
verdict from w j base f x used fuel =
    by_base w _ _ (λ z. Judged from w j z f x used fuel) (λ b. out base_negative) (λ b h. out (base_past h))
    (λ b h. admitted w j b f x used fuel from h) base
