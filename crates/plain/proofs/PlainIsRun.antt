-- The plain engine's call comes to what the run call comes to.
use Prim.Native.Nat.{ℕ, ◌-◌, ◌≤◌}
use mathlib.Core.Path.{◌≡◌, refl, sym, ap, ◌∙◌}
use mathlib.Core.List.{List, [], ◌∷◌}
use native.Mathlib.Omega.{arith}
use lib.IntN.{ℤ}
use lib.ListN.{take, drop}
use borrow.Author.Tests.{le-ltb}
use Rattle.refusals.specs.Refusals.{◌when◌, answer}
use Rattle.refusals.proofs.Rows.{answer_clear}
use Rattle.refusals.proofs.Choice.{comes_through, answers_joined}
use Rattle.table.specs.Slots.{named_slot}
use Rattle.frames.specs.Frames.{frame_room, cleared}
use Rattle.table.proofs.BaseLaws.{from_through}
use Rattle.frames.proofs.FrameLaws.{frame_room_long, length_cleared, zero_cleared}
use Rattle.stepping.specs.declared.State.{State}
use Rattle.engine.specs.declared.From.TheVariants.{Scratch}
use Rattle.engine.specs.declared.Ending.TheVariants as run
use Rattle.stepping.specs.Step.{meet}
use Rattle.stepping.specs.Ready.{Runnable}
use Rattle.engine.specs.Admission.{slot_rows, run_rows}
use Rattle.engine.specs.Run.{Ran, ran, drive, state_from, run_tail, ran_with, run_from}
use Rattle.stepping.proofs.Keeps.{waits_none}
use Rattle.engine.proofs.AdmissionLaws.{clear_ready, run_numbered, run_slots}
use Rattle.applying.specs.declared.Progress.{Progress}
use Rattle.applying.specs.Apply.{Came, came, apply}
use Rattle.std.specs.Prelude.{Ok, Err}
use Rattle.plain.specs.Run.{played, answered, most_plain, too_deep, plain_rows, plain_tail, played_with, plain_run}
use Rattle.plain.specs.Meaning.{shown, of_run, PlainIsRun}
use Rattle.plain.proofs.CallWays.{deep_places}
use Rattle.plain.proofs.Sim.{plain_of, Set, Matches, state, simulates}

-- what matches, where no frame waits, is the same answer
matches_answered : (fuel places : ℕ) (j : List ℕ) (p : Progress) (c : Came) (r : Ran) → Matches fuel places 0 j p c r →
    answered fuel c ≡ plain_of r
unfolding meet
matches_answered fuel places j p (came w (Ok (t, q))) r m = rw m.same
matches_answered fuel places j p (came w (Err h)) r m = m

module _ (w j : List ℕ) (fuel : ℕ) (low : fuel ≤ most_plain) (few : frame_room j ≤ most_plain) where
  -- an application from scratch
  scratch_same : (s : State) → Runnable w s → s.waiting ≡ 0 →
      answered fuel (apply fuel (frame_room j) 0 w s.f s.x (record { left = fuel; used = s.used }))
      ≡ plain_of (drive fuel 0 w (cleared j) s)
  scratch_same s ready none =
      let p : Progress = record { left = fuel; used = s.used } in
      let set : Set fuel (frame_room j) 0 w (cleared j) p
      = record {
        slots = ready.slots;
        waits = waits_none (cleared j) s.used;
        above = zero_cleared j;
        rooms = frame_room_long j (cleared j) (length_cleared j);
        low = omega arith;
      }
      in
      let first : state 0 s.f s.x p ≡ s = λ i. record { f = s.f; x = s.x; used = s.used; waiting = sym none i } in
      let unspent : fuel - fuel ≡ 0 = omega arith in
      matches_answered fuel (frame_room j) (cleared j) p (apply fuel (frame_room j) 0 w s.f s.x p) _
      (simulates fuel (frame_room j) fuel 0 w (cleared j) s.f s.x p set ready.f ready.x (omega arith))
      ∙ ap (λ (k : ℕ). plain_of (drive fuel k w (cleared j) (state 0 s.f s.x p))) unspent
      ∙ ap (λ (t : State). plain_of (drive fuel 0 w (cleared j) t)) first

  -- 49 is not asked for: the rows answer alike
  rows_same : (f x : ℤ) (used : ℕ) → answer (plain_rows w f x used fuel (frame_room j)) ≡ answer (run_rows Scratch w f x used fuel j)
  unfolding plain_rows run_rows answer
  rows_same f x used =
      let none : answer ((49 when too_deep fuel (frame_room j)) ∷ []) ≡ answer []
      = rw (deep_places fuel (frame_room j) low, le-ltb most_plain (frame_room j) few)
      in
      answers_joined (slot_rows w f x used) _ _ none

  tail_same : (f x : ℤ) (used : ℕ) → plain_tail w f x used fuel (frame_room j) ≡ plain_of (run_tail Scratch w f x used fuel j)
  unfolding plain_tail run_tail
  tail_same f x used =
      rw (rows_same f x used)
      (comes_through plain_of (answer (run_rows Scratch w f x used fuel j)) (λ n. ran w j (Err n)) _
      (λ n. played w (Err n)) _ (λ n. refl)
      (λ z.
      let clear = answer_clear (run_rows Scratch w f x used fuel j) (run_numbered w f x used fuel j Scratch) (sym z) refl in
      scratch_same (state_from Scratch (named_slot f) (named_slot x) used)
      (clear_ready w f x used (run_slots w f x used fuel j Scratch clear) Scratch) refl))

after_same : (before : List ℕ) (r : Ran) → played_with before (plain_of r) ≡ plain_of (ran_with before r)
after_same before (ran w j (Err n)) = refl
after_same before (ran w j (Ok (run.Done slot steps used))) = refl
after_same before (ran w j (Ok (run.Stopped why f x steps used waiting))) = refl

-- for fuel and job room up to 1,000 the plain engine leaves and answers what the run call does
pub plain_same : (w j : List ℕ) (base f x : ℤ) (used fuel : ℕ) → fuel ≤ most_plain → frame_room j ≤ most_plain →
    plain_run w base f x used fuel (frame_room j) ≡ plain_of (run_from Scratch w base f x used fuel j)
unfolding plain_run run_from
plain_same w j base f x used fuel low few =
    from_through plain_of w base _ _ _ _ refl
    (λ b. ap (played_with (take b w)) (tail_same (drop b w) j fuel low few f x used)
    ∙ after_same (take b w) (run_tail Scratch (drop b w) f x used fuel j))

shown_same : (r : Ran) → shown (plain_of r) ≡ of_run r
shown_same (ran w j (Err n)) = refl
shown_same (ran w j (Ok (run.Done slot steps used))) = refl
shown_same (ran w j (Ok (run.Stopped why f x steps used waiting))) = refl

pub plain_is_run : PlainIsRun plain_run
plain_is_run w j base f x used fuel low few =
    ap shown (plain_same w j base f x used fuel low few) ∙ shown_same (run_from Scratch w base f x used fuel j)
