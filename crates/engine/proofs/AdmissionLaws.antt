-- What the rows of a run tell: each by its number, and that the loop starts with what is ready where none holds.
use Prim.Native.Nat.{ℕ, ◌+◌, ◌≤◌, ◌<◌}
use mathlib.Core.Path.{◌≡◌, refl}
use mathlib.Core.Bool.{Bool, true, false, false≢true, not}
use mathlib.Core.List.{List, [], ◌∷◌}
use mathlib.Core.Logic.{◌↔◌, ◌⊎◌, inl, inr}
use native.Mathlib.Omega.{arith}
use lib.Dec.{eqb, ltb}
use lib.IntN.{ℤ, pos, nat_abs}
use borrow.Author.Tests.{ne_eqb, eqb-true, eqb-false, ltb-true, ltb-false, not-true, not-false}
use Rattle.lists.specs.Lists.{any_of}
use Rattle.lists.proofs.Tests.{below_exactly, not_exactly}
use Rattle.lists.proofs.Some.{any_none, any_more}
use Rattle.refusals.specs.Refusals.{Clear, none, more, Numbered, row_holds}
use Rattle.refusals.proofs.Rows.{clear_row, clear_before, clear_after, clear_joined}
use Rattle.table.specs.Slots.{room, is_used, named_slot}
use Rattle.table.specs.Sound.{SlotsPass, sound}
use Rattle.frames.specs.Frames.{Record, job_words_at, frame_of, frame_at, cleared, FrameNames}
use Rattle.frames.specs.SoundFrames.{frames_sound, SoundJob}
use Rattle.table.proofs.Tests.{by_test}
use Rattle.table.proofs.SlotLaws.{used_slot}
use Rattle.frames.proofs.SoundFrames.{frames_sound_lem}
use Rattle.stepping.specs.Ready.{Runnable, Waits}
use Rattle.stepping.proofs.Keeps.{waits_none}
use Rattle.engine.specs.declared.From.{From}
use Rattle.engine.specs.declared.From.TheVariants.{Scratch, Stop}
use Rattle.engine.specs.Admission.{out_of_room, dangling, unsound, slot_rows}
use Rattle.engine.specs.Admission.{frames_unsound, max_steps, steps_overflow, stop_rows, from_rows, run_rows}
use Rattle.engine.specs.Run.{steps_of, waiting_of, jobs_from, state_from}

-- ---- what the tests mean

either_true : (a b : Bool) → any_of (a ∷ b ∷ []) ≡ true → (a ≡ true) ⊎ (b ≡ true)
unfolding any_of
either_true true b h = inl refl
either_true false true h = inr refl
either_true false false h = absurd (false≢true h)

pub out_of_room_lem : (w : List ℕ) (used : ℕ) → out_of_room w used ≡ true → (used ≡ 0) ⊎ (room w < used)
unfolding out_of_room
out_of_room_lem w used h =
    elim (either_true (eqb used 0) (ltb (room w) used) h) [
      | inl e ↦ inl (eqb-true used 0 e)
      | inr e ↦ inr (ltb-true (room w) used e)
    ]

pub in_room : (w : List ℕ) (used : ℕ) → (out_of_room w used ≡ false) ↔ ((used ≡ 0 → ⊥) × (used ≤ room w))
unfolding out_of_room
in_room w used =
    let tests = any_more _ (eqb-false used 0, ne_eqb used 0) (any_more _ (below_exactly (room w) used) any_none) in
    (λ e. let (a, (b, _)) = tests.0 e in (a, b), λ h. tests.1 (h.0, (h.1, tt)))

module _ (f x : ℤ) (used : ℕ) where
  pub some_dangling : dangling f x used ≡ true → (is_used f used ≡ false) ⊎ (is_used x used ≡ false)
  unfolding dangling
  some_dangling h =
      elim (either_true (not (is_used f used)) (not (is_used x used)) h) [
        | inl e ↦ inl (not-true (is_used f used) e)
        | inr e ↦ inr (not-true (is_used x used) e)
      ]

  pub both_placed : (dangling f x used ≡ false) ↔ ((is_used f used ≡ true) × (is_used x used ≡ true))
  unfolding dangling
  both_placed =
      let tests
      = any_more _ (not_exactly (is_used f used) (λ e. e, λ e. e)) (any_more _ (not_exactly (is_used x used) (λ e. e, λ e. e)) any_none)
      in
      (λ e. let (a, (b, _)) = tests.0 e in (a, b), λ h. tests.1 (h.0, (h.1, tt)))

-- ---- the rows of the slots

module _ (w : List ℕ) (f x : ℤ) (used : ℕ) where
  pub slot_numbered : Numbered (slot_rows w f x used)
  unfolding slot_rows
  slot_numbered = (omega arith, (omega arith, (omega arith, tt)))

  -- none holds exactly where slots, f and x are well
  pub slots_clear : SlotsPass w used → (used ≡ 0 → ⊥) → is_used f used ≡ true → is_used x used ≡ true → Clear (slot_rows w f x used)
  unfolding slot_rows unsound
  slots_clear good some hf hx =
      let whole : not (sound w used) ≡ false = rw good.sound in
      more ((in_room w used).1 (some, good.fits)) (more ((both_placed f x used).1 (hf, hx)) (more whole none))

  module _ (clear : Clear (slot_rows w f x used)) where
    clear_room : (used ≡ 0 → ⊥) × (used ≤ room w)
    unfolding slot_rows row_holds
    clear_room = (in_room w used).0 (clear_row 21 clear)

    -- some slot is used, and f and x are
    pub clear_some : used ≡ 0 → ⊥
    clear_some = clear_room.0

    pub clear_places : (is_used f used ≡ true) × (is_used x used ≡ true)
    unfolding slot_rows row_holds
    clear_places = (both_placed f x used).0 (clear_row 23 clear)

    clear_sound : sound w used ≡ true
    unfolding slot_rows row_holds unsound
    clear_sound = not-false (sound w used) (clear_row 24 clear)

    -- f and x are slots' numbers
    pub clear_named : (f ≡ pos (nat_abs f)) × (x ≡ pos (nat_abs x))
    clear_named = ((used_slot f used clear_places.0).0, (used_slot x used clear_places.1).0)

    -- and the state is ready
    pub clear_ready : (from : From) → Runnable w (state_from from (named_slot f) (named_slot x) used)
    clear_ready from =
        record {
          slots = record { fits = clear_room.1; sound = clear_sound };
          f = (used_slot f used clear_places.0).1;
          x = (used_slot x used clear_places.1).1;
        }

-- ---- the rows of how a run begins

-- sound frames wait
names_of : (used : ℕ) (r : Record) → SoundJob used r → FrameNames used (frame_of r.tag r.first r.second)
names_of used r s =
    by_test (FrameNames used) (eqb r.tag 1) (λ e. (s.first, s.second (eqb-true r.tag 1 e)))
    (λ _. by_test (FrameNames used) (eqb r.tag 2) (λ _. s.first) (λ _. s.first))

pub sound_waits : (j : List ℕ) (used waiting : ℕ) → frames_sound used j waiting ≡ true → Waits j used waiting
unfolding frame_at
sound_waits j used n e =
    let s = (frames_sound_lem used j n).0 e in
    record { fits = s.fits; names = λ k l. names_of used (job_words_at j k) (s.each k l) }

module _ (j : List ℕ) (used waiting steps fuel : ℕ) where
  -- none holds where the frames are sound and the steps can be counted
  pub stop_clear : frames_sound used j waiting ≡ true → steps + fuel ≤ max_steps → Clear (stop_rows j used waiting steps fuel)
  unfolding stop_rows frames_unsound steps_overflow
  stop_clear good l = let whole : not (frames_sound used j waiting) ≡ false = rw good in more whole (more ((below_exactly max_steps (steps + fuel)).1 l) none)

  module _ (clear : Clear (stop_rows j used waiting steps fuel)) where
    pub clear_frames : frames_sound used j waiting ≡ true
    unfolding stop_rows row_holds frames_unsound
    clear_frames = not-false (frames_sound used j waiting) (clear_row 24 clear)

    pub clear_few : steps + fuel ≤ max_steps
    unfolding stop_rows row_holds steps_overflow
    clear_few = ltb-false max_steps (steps + fuel) (clear_row 40 clear)

module _ (j : List ℕ) (used fuel : ℕ) where
  pub clear_waits : (from : From) → Clear (from_rows from j used fuel) → Waits (jobs_from from j) used (waiting_of from)
  clear_waits Scratch clear = waits_none (cleared j) used
  clear_waits (Stop waiting steps) clear = sound_waits j used waiting (clear_frames j used waiting steps fuel clear)

  pub clear_steps : (from : From) → Clear (from_rows from j used fuel) → fuel ≤ max_steps → fuel + steps_of from ≤ max_steps
  clear_steps Scratch clear l = omega arith
  clear_steps (Stop waiting steps) clear l = omega (arith, clear_few j used waiting steps fuel clear)

-- ---- all of them

module _ (w : List ℕ) (f x : ℤ) (used fuel : ℕ) (j : List ℕ) where
  pub run_numbered : (from : From) → Numbered (run_rows from w f x used fuel j)
  unfolding run_rows slot_rows stop_rows
  run_numbered Scratch = (omega arith, (omega arith, (omega arith, tt)))
  run_numbered (Stop waiting steps) = (omega arith, (omega arith, (omega arith, (omega arith, (omega arith, tt)))))

  module _ (from : From) where
    pub rows_clear : Clear (slot_rows w f x used) → Clear (from_rows from j used fuel) → Clear (run_rows from w f x used fuel j)
    unfolding run_rows
    rows_clear h k = clear_joined h k

    pub run_slots : Clear (run_rows from w f x used fuel j) → Clear (slot_rows w f x used)
    unfolding run_rows
    run_slots clear = clear_before (slot_rows w f x used) (from_rows from j used fuel) clear

    pub run_begins : Clear (run_rows from w f x used fuel j) → Clear (from_rows from j used fuel)
    unfolding run_rows
    run_begins clear = clear_after (slot_rows w f x used) (from_rows from j used fuel) clear
