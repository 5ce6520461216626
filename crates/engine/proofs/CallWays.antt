-- That what the loop of a run starts with is ready, and what comes of a run at a base in the table.
use Prim.Native.Nat.{ℕ, ◌+◌, ◌-◌, ◌≤◌}
use mathlib.Core.Path.{◌≡◌, refl, sym, ap, subst, ◌∙◌}
use mathlib.Core.Bool.{true}
use native.Mathlib.Omega.{arith}
use mir.Syntax.{w32}
use mir.Val.{SFits, to_z, of_z}
use mathlib.Core.List.{List}
use lib.IntN.{ℤ, pos, nat_abs}
use lib.ListN.{length, take, drop}
use borrow.Rule.Slice.PartMut.{mid_of, put_mid}
use Rattle.std.specs.Prelude.{Option, Some}
use Rattle.refusals.specs.Refusals.{answer, Clear}
use Rattle.refusals.proofs.Rows.{answer_clear}
use Rattle.table.specs.declared.slots.Slot.{Slot}
use Rattle.table.specs.Base.{base_of}
use Rattle.table.specs.Slots.{is_used, named_slot}
use Rattle.table.proofs.Signed.{as_passed}
use Rattle.table.proofs.SlotLaws.{room_most, used_slot}
use Rattle.table.proofs.Tail.{tail_lent, tail_home}
use Rattle.table.proofs.BaseLaws.{base_told, from_at}
use Rattle.stepping.specs.Ready.{Runnable, Waits}
use Rattle.engine.specs.declared.From.{From}
use Rattle.engine.specs.Answer.{RunAnswer}
use Rattle.engine.specs.Admission.{max_steps, slot_rows, run_rows}
use Rattle.engine.specs.Run.{ran, steps_of, waiting_of, jobs_from, run_tail, ran_with, run_from}
use Rattle.engine.proofs.AdmissionLaws.{clear_places, clear_named, clear_ready, clear_waits, clear_steps}
use Rattle.engine.proofs.AdmissionLaws.{run_numbered, run_slots, run_begins}

-- ---- on our part of the table, where no row holds

module _ (from : From) (w : List ℕ) (f x : ℤ) (used fuel : ℕ) (j : List ℕ)
    (e : 0 ≡ answer (run_rows from w f x used fuel j)) where
  clear : Clear (run_rows from w f x used fuel j)
  clear = answer_clear _ (run_numbered w f x used fuel j from) e refl

  slots : Clear (slot_rows w f x used)
  slots = run_slots w f x used fuel j from clear

  as_used : (z : ℤ) → is_used z used ≡ true → to_z w32 (of_z w32 z) ≡ z
  as_used z u =
      let (named, below) = used_slot z used u in
      let most = room_most w in
      let fits = (clear_ready w f x used slots from).slots.fits in
      as_passed z (subst (SFits w32) (sym named) (record { sfits = omega arith }))

  -- f and x are read back from their bits,
  as_asked : (to_z w32 (of_z w32 f) ≡ f) × (to_z w32 (of_z w32 x) ≡ x)
  as_asked = let (p, q) = clear_places w f x used slots in (as_used f p, as_used x q)

  -- as slots' numbers,
  pub asked_slots : (to_z w32 (of_z w32 f) ≡ pos (nat_abs (to_z w32 (of_z w32 f)))) × (to_z w32 (of_z w32 x) ≡ pos (nat_abs (to_z w32 (of_z w32 x))))
  asked_slots =
      let (p, q) = clear_named w f x used slots in
      (rw as_asked.0 p, rw as_asked.1 q)

  -- and the loop starts with what is ready
  pub asked_ready : (s t : Slot) → s ≡ named_slot (to_z w32 (of_z w32 f)) → t ≡ named_slot (to_z w32 (of_z w32 x))
      → (j' : List ℕ) → j' ≡ jobs_from from j → (k : ℕ) → k ≡ waiting_of from
      → Runnable w (record { f = s; x = t; used = used; waiting = k }) × Waits j' used k
      × (fuel ≤ max_steps → fuel + steps_of from ≤ max_steps)
  asked_ready s t es et j' ej k ek = (
    rw (es, et, as_asked.0, as_asked.1, ek) (clear_ready w f x used slots from),
    rw (ej, ek) (clear_waits j used fuel from (run_begins w f x used fuel j from clear)),
    clear_steps j used fuel from (run_begins w f x used fuel j from clear),
  )

-- ---- at a base in the table

-- (the base, f and x are read back from their bits)
module _ (from : From) (w j : List ℕ) (b f x : ℤ) (used fuel : ℕ) (z : ℤ) (passed : z ≡ b) (p : Option ℕ)
    (e : p ≡ base_of z (length w)) (n : ℕ) (h : p ≡ Some n) where
  pub run_behind : (f' x' : ℤ) → f' ≡ f → x' ≡ x → (w' j' : List ℕ) (r : RunAnswer) →
      ran w' j' r ≡ run_tail from (mid_of n (length w - n) w) f' x' used fuel j →
      ran (put_mid n (length w - n) w w') j' r ≡ run_from from w b f x used fuel j
  unfolding run_from
  run_behind f' x' ef ex w' j' r g =
      let t : ran w' j' r ≡ run_tail from (drop n w) f x used fuel j = g ∙ (rw (tail_lent n w, ef, ex)) in
      ap (λ (l : List ℕ). ran l j' r) (tail_home n w w' (base_told z n (length w) e h))
      ∙ ap (ran_with (take n w)) t
      ∙ from_at w _ _ b p (rw (← passed) e) n h
