-- How a load is judged: which of its checks hold, and what it comes to.
use Rattle.std.specs.Prelude.{Err}
use Prim.Native.Nat.{ℕ, ◌≤◌, ◌<◌}
use mathlib.Core.Path.{◌≡◌, refl, sym, ◌∙◌}
use mathlib.Core.Bool.{Bool, true, false}
use mathlib.Core.List.{List}
use mathlib.Core.Logic.{◌↔◌}
use native.Mathlib.Omega.{arith}
use native.Mathlib.Decide.{dec_lt}
use lib.ListN.{length, drop}
use lib.Dec.{ltb}
use lib.IntN.{ℤ, pos}
use borrow.Author.Tests.{lt-ltb, ltb-true, ltb-false, eq-eqb, ne_eqb}
use Rattle.lists.proofs.Same.{not_both}
use Rattle.refusals.specs.Refusals.{Clear, none, more, row_holds}
use Rattle.refusals.proofs.Rows.{accept, clear_row, clear_joined, clear_before, clear_after}
use Rattle.table.specs.Slots.{room}
use Rattle.table.proofs.BaseLaws.{from_negative, from_past, from_inside, by_base}
use Rattle.bundle.specs.Checks.{checks}
use Rattle.loader.specs.Load.{records_in, exports_in, unfit, crowded, load_checks, load_refusal, loaded, accept_from, load}
use Rattle.loader.proofs.Refusals.{all_clear}
use Rattle.guarantees.specs.Load.{Unfit, base_negative, base_past, small_room}

-- ---- 21 and 22

module _ (w : List ℕ) (n : ℕ) where
  abbrev small : List ℕ → List ℕ → Bool
  small before part = ltb (room part) n

  unfit_is : (base : ℤ) → unfit w base n ≡ true → Unfit w n base
  unfolding unfit
  unfit_is =
      by_base w true small (λ z t. t ≡ true → Unfit w n z) (λ b e. base_negative) (λ b h e. base_past h)
      (λ b h e. small_room (ltb-true _ _ e))

  is_unfit : {base : ℤ} → Unfit w n base → unfit w base n ≡ true
  unfolding unfit
  is_unfit (base_negative {b = b}) = from_negative w true small b
  is_unfit (base_past {b = b} h) = from_past w true small b h
  is_unfit (small_room {b = b} h) = elim (dec_lt (length w) b) [
    | yes l ↦ from_past w true small b l
    | no l ↦ from_inside w true small b (omega (arith, l)) ∙ lt-ltb (room (drop b w)) n h
  ]

  -- where 21 does not hold, the base is in the table, and there is room
  pub fitting : (base : ℤ) → unfit w base n ≡ false → (b : ℕ) × (base ≡ pos b) × (b ≤ length w) × (n ≤ room (drop b w))
  unfolding unfit
  fitting =
      by_base w true small (λ z t. t ≡ false → (b : ℕ) × (z ≡ pos b) × (b ≤ length w) × (n ≤ room (drop b w)))
      (λ b e. not_both refl e) (λ b h e. not_both refl e) (λ b h e. (b, refl, h, ltb-false _ _ e))

-- the tests of 21 and 22 say just this
pub fits_exactly : (words exports : List ℕ) (base : ℤ) (nodes asked : ℕ) →
    ((unfit words base nodes ≡ true) ↔ Unfit words nodes base) × ((crowded exports asked ≡ true) ↔ (length exports < asked))
unfolding crowded
fits_exactly words exports base nodes asked =
    ((unfit_is words nodes base, is_unfit words nodes), (ltb-true (length exports) asked, lt-ltb (length exports) asked))

-- ---- the table of refusals

module _ (file w : List ℕ) (base : ℤ) (out : List ℕ) where
  -- nothing refuses it exactly where no check holds
  pub unrefused_exactly : (load_refusal file w base out ≡ 0) ↔
      (Clear (checks file) × (unfit w base (length (records_in file)) ≡ false) ×
      (crowded out (length (exports_in file)) ≡ false))
  unfolding load_refusal load_checks row_holds
  unrefused_exactly = (
    λ e.
        let all = all_clear file w base out e in
        let ours = clear_after (checks file) _ all in
        (clear_before (checks file) _ all, clear_row 21 ours, clear_row 22 ours),
    λ h. sym (accept (load_checks file w base out) (clear_joined h.0 (more h.1 (more h.2 none)))),
  )

  pub load_unrefused : load_refusal file w base out ≡ 0 → load file w base out ≡ accept_from file w base out
  unfolding load
  load_unrefused e = rw (eq-eqb (load_refusal file w base out) 0 e)

  pub load_refused : (load_refusal file w base out ≡ 0 → ⊥) →
      load file w base out ≡ loaded w out (Err (load_refusal file w base out))
  unfolding load
  load_refused n = rw (ne_eqb (load_refusal file w base out) 0 n)
