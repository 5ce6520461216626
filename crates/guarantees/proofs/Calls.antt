-- Laws of the run call and of the carry-on call.
use Prim.Native.Nat.{ℕ, ◌+◌, ◌<◌}
use mathlib.Core.Path.{◌≡◌, refl, sym, ◌∙◌}
use mathlib.Core.Bool.{Bool, true, false, false≢true}
use mathlib.Core.List.{List, ◌++◌}
use native.Mathlib.Omega.{arith}
use lib.ListN.{length}
use lib.IntN.{ℤ, pos}
use borrow.Author.Tests.{lt-ltb}
use Rattle.std.specs.Prelude.{Err}
use Rattle.refusals.specs.Refusals.{answer, Clear, none}
use Rattle.refusals.proofs.Rows.{passed_first}
use Rattle.refusals.proofs.Choice.{is_passed}
use Rattle.table.specs.Slots.{named_slot}
use Rattle.frames.specs.SoundFrames.{frames_sound, SoundJobs}
use Rattle.table.proofs.BaseLaws.{from_after}
use Rattle.frames.proofs.SoundFrames.{frames_sound_lem}
use Rattle.engine.specs.declared.From.{From}
use Rattle.engine.specs.declared.From.TheVariants.{Scratch, Stop}
use Rattle.engine.specs.Admission.{slot_rows, frames_unsound, max_steps, steps_overflow, stop_rows, run_rows}
use Rattle.engine.specs.Run.{ran, drive, jobs_from, state_from, run_tail, ran_with, run_from}
use Rattle.engine.proofs.AdmissionLaws.{stop_clear, rows_clear}
use Rattle.guarantees.specs.Run.{steps_before, TooMany, JobsDamaged}

-- no reason against the jobs: they are sound
pub jobs_are_sound : (used : ℕ) (j : List ℕ) (waiting : ℕ) → ((SoundJobs used j waiting → ⊥) → ⊥) → SoundJobs used j waiting
jobs_are_sound used j waiting h = go (frames_sound used j waiting) refl
  where
    go : (t : Bool) → frames_sound used j waiting ≡ t → SoundJobs used j waiting
    go true e = (frames_sound_lem used j waiting).0 e
    go false e = absurd (h (λ g. false≢true (sym e ∙ (frames_sound_lem used j waiting).1 g)))

-- ---- a call whose slots are no reason against it

pub go_started : (from : From) (w : List ℕ) (fuel : ℕ) (j : List ℕ) (f x : ℤ) (used : ℕ) → Clear (slot_rows w f x used)
    → (JobsDamaged from used j → ⊥) → (TooMany from fuel → ⊥)
    → run_tail from w f x used fuel j
    ≡ drive fuel (steps_before from) w (jobs_from from j) (state_from from (named_slot f) (named_slot x) used)
unfolding run_tail
go_started Scratch w fuel j f x used clear jobs few =
    sym (is_passed (λ n. ran w j (Err n)) _ (run_rows Scratch w f x used fuel j) (rows_clear w f x used fuel j Scratch clear none))
go_started (Stop waiting steps) w fuel j f x used clear jobs few =
    let good = (frames_sound_lem used j waiting).1 (jobs_are_sound used j waiting jobs) in
    sym (is_passed (λ n. ran w j (Err n)) _ (run_rows (Stop waiting steps) w f x used fuel j)
    (rows_clear w f x used fuel j (Stop waiting steps) clear (stop_clear j used waiting steps fuel good (omega (arith, few)))))

pub go_too_many : (waiting steps : ℕ) (w : List ℕ) (fuel : ℕ) (j : List ℕ) (f x : ℤ) (used : ℕ) → Clear (slot_rows w f x used)
    → SoundJobs used j waiting → max_steps < steps + fuel
    → run_tail (Stop waiting steps) w f x used fuel j ≡ ran w j (Err 40)
unfolding run_tail run_rows stop_rows frames_unsound steps_overflow answer
go_too_many waiting steps w fuel j f x used clear jobs many =
    let asked = passed_first (stop_rows j used waiting steps fuel) clear in
    rw (asked, (frames_sound_lem used j waiting).1 jobs, lt-ltb max_steps (steps + fuel) many)

-- ---- at the base

-- a call whose base is a part's end is the call on what comes after that part
pub run_behind : (from : From) (before w j : List ℕ) (f x : ℤ) (used fuel : ℕ)
    → run_from from (before ++ w) (pos (length before)) f x used fuel j ≡ ran_with before (run_tail from w f x used fuel j)
unfolding run_from
run_behind from before w j f x used fuel = from_after _ before w _
