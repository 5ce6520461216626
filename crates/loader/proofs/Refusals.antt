-- The load call's table of refusals: who answers, and what an answer of 0 tells.
use Prim.Native.Nat.{ℕ, ◌≤◌}
use mathlib.Core.Path.{◌≡◌, refl, sym}
use mathlib.Core.Bool.{false, cond}
use mathlib.Core.List.{List}
use native.Mathlib.Omega.{arith}
use lib.IntN.{ℤ}
use lib.ListN.{length}
use borrow.Author.Tests.{ltb-false}
use Rattle.refusals.specs.Refusals.{answer, Clear, row_holds}
use Rattle.refusals.proofs.Rows.{accept, answer_clear, clear_row, clear_before, clear_after, refused_first, passed_first}
use Rattle.container.specs.Checks.{header_checks, directory_checks, container_checks}
use Rattle.bundle.specs.Checks.{manifest_checks, node_checks, name_checks, checks, refusal}
use Rattle.bundle.proofs.Stages.{sound_clear}
use Rattle.loader.specs.Load.{records_in, exports_in, unfit, crowded, load_checks, load_refusal}

module _ (file w : List ℕ) (base : ℤ) (out : List ℕ) where
  -- a refusal by 1 to 20 stands; n stands for it
  pub by_bundle : {n : ℕ} → n ≡ refusal file → (n ≡ 0 → ⊥) → n ≡ load_refusal file w base out
  unfolding refusal load_refusal load_checks
  by_bundle e some = refused_first (checks file) _ e some

  -- where none of them holds, 21 and 22 are asked
  pub past_bundle : refusal file ≡ 0 →
      load_refusal file w base out ≡
      cond {A = ℕ} (unfit w base (length (records_in file))) 21 (cond (crowded out (length (exports_in file))) 22 0)
  unfolding load_refusal load_checks answer
  past_bundle z = passed_first _ (sound_clear file z)

  -- where none at all holds
  module _ (z : load_refusal file w base out ≡ 0) where
    pub all_clear : Clear (load_checks file w base out)
    unfolding load_refusal load_checks checks name_checks container_checks header_checks directory_checks manifest_checks node_checks
    all_clear = answer_clear (load_checks file w base out) (omega arith) refl z

    pub bundle_clear : refusal file ≡ 0
    unfolding load_checks refusal
    bundle_clear = sym (accept (checks file) (clear_before (checks file) _ all_clear))

    pub table_fits : unfit w base (length (records_in file)) ≡ false
    unfolding load_checks row_holds
    table_fits = clear_row 21 (clear_after (checks file) _ all_clear)

    pub exports_fit : length (exports_in file) ≤ length out
    unfolding load_checks row_holds crowded
    exports_fit = ltb-false _ _ (clear_row 22 (clear_after (checks file) _ all_clear))
