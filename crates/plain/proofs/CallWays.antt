-- What the rows of a plain run tell, that the application works on used slots where none holds, and what comes of a base in the table.
use Prim.Native.Nat.{ℕ, ◌-◌, ◌≤◌, ◌<◌}
use mathlib.Core.Path.{◌≡◌, refl, ap, ◌∙◌}
use mathlib.Core.Bool.{true}
use mathlib.Core.List.{List, []}
use native.Mathlib.Omega.{arith}
use lib.Dec.{ltb}
use lib.IntN.{ℤ, pos, nat_abs}
use lib.ListN.{length, take, drop}
use borrow.Rule.Slice.PartMut.{mid_of, put_mid}
use borrow.Author.Tests.{lt-ltb, le-ltb}
use mir.Syntax.{w32}
use mir.Val.{to_z, of_z}
use Rattle.lists.specs.Lists.{any_of}
use Rattle.lists.proofs.Tests.{cond_test}
use Rattle.refusals.specs.Refusals.{answer, Clear, none, Numbered}
use Rattle.refusals.proofs.Rows.{accept, answer_clear, clear_before}
use Rattle.std.specs.Prelude.{Option, Some}
use Rattle.table.specs.declared.slots.Slot.{Slot}
use Rattle.table.specs.Base.{base_of}
use Rattle.table.specs.Slots.{named_slot}
use Rattle.table.proofs.Tail.{tail_lent, tail_home}
use Rattle.table.proofs.BaseLaws.{base_told, from_at}
use Rattle.engine.specs.declared.From.TheVariants.{Scratch}
use Rattle.engine.specs.Admission.{slot_rows, run_rows}
use Rattle.engine.proofs.AdmissionLaws.{rows_clear}
use Rattle.engine.proofs.CallWays.{asked_slots, asked_ready}
use Rattle.applying.specs.Fit.{Fit}
use Rattle.plain.specs.Answer.{PlainAnswer}
use Rattle.plain.specs.Run.{played, most_plain, too_deep, plain_rows, plain_tail, played_with, plain_run}

-- ---- what 49 asks

module _ (fuel places : ℕ) where
  pub deep_fuel : most_plain < fuel → too_deep fuel places ≡ true
  unfolding too_deep any_of
  deep_fuel h = rw (lt-ltb most_plain fuel h)

  pub deep_places : fuel ≤ most_plain → too_deep fuel places ≡ ltb most_plain places
  unfolding too_deep any_of
  deep_places h = rw (le-ltb most_plain fuel h, cond_test (ltb most_plain places))

-- ---- the rows

module _ (w : List ℕ) (f x : ℤ) (used fuel places : ℕ) where
  pub plain_numbered : Numbered (plain_rows w f x used fuel places)
  unfolding plain_rows slot_rows
  plain_numbered = (omega arith, (omega arith, (omega arith, (omega arith, tt))))

  pub plain_slots : Clear (plain_rows w f x used fuel places) → Clear (slot_rows w f x used)
  unfolding plain_rows
  plain_slots clear = clear_before (slot_rows w f x used) _ clear

  -- ---- on our part of the table, where no row holds

  module _ (e : 0 ≡ answer (plain_rows w f x used fuel places)) where
    -- no row of a run from scratch does
    no_row : 0 ≡ answer (run_rows Scratch w f x used fuel [])
    no_row =
        let slots = plain_slots (answer_clear _ plain_numbered e refl) in
        accept _ (rows_clear w f x used fuel [] Scratch slots none)

    -- f and x are slots' numbers
    pub plain_named : (to_z w32 (of_z w32 f) ≡ pos (nat_abs (to_z w32 (of_z w32 f)))) × (to_z w32 (of_z w32 x) ≡ pos (nat_abs (to_z w32 (of_z w32 x))))
    plain_named = asked_slots Scratch w f x used fuel [] no_row

    -- and may be applied
    pub plain_fit : (s t : Slot) → s ≡ named_slot (to_z w32 (of_z w32 f)) → t ≡ named_slot (to_z w32 (of_z w32 x)) →
        Fit w s t (record { left = fuel; used = used })
    plain_fit s t es et =
        let (ready, _, _) = asked_ready Scratch w f x used fuel [] no_row s t es et _ refl _ refl in
        record { slots = ready.slots; function = ready.f; argument = ready.x }

-- ---- at a base in the table

-- (the base, f and x are read back from their bits)
module _ (w : List ℕ) (b f x : ℤ) (used fuel places : ℕ) (z : ℤ) (passed : z ≡ b) (p : Option ℕ) (e : p ≡ base_of z (length w))
    (n : ℕ) (h : p ≡ Some n) where
  pub run_behind : (f' x' : ℤ) → f' ≡ f → x' ≡ x → (w' : List ℕ) (r : PlainAnswer) →
      played w' r ≡ plain_tail (mid_of n (length w - n) w) f' x' used fuel places →
      played (put_mid n (length w - n) w w') r ≡ plain_run w b f x used fuel places
  unfolding plain_run
  run_behind f' x' ef ex w' r g =
      let t : played w' r ≡ plain_tail (drop n w) f x used fuel places = g ∙ (rw (tail_lent n w, ef, ex)) in
      ap (λ (l : List ℕ). played l r) (tail_home n w w' (base_told z n (length w) e h))
      ∙ ap (played_with (take n w)) t
      ∙ from_at w _ _ b p (rw (← passed) e) n h
