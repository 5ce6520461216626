-- The rows of the manifest, from the calls that test them; x stands for the manifest as it was read, r for what a test answered.
use Rattle.std.specs.Prelude.{Option, Some, None, Ok, Err}
use Prim.Native.Nat.{ℕ, ◌<◌}
use mathlib.Core.Path.{◌≡◌, refl, sym, ◌∙◌}
use mathlib.Core.List.{List}
use mathlib.Core.Bool.{Bool, true, false}
use native.Mathlib.Omega.{arith}
use Rattle.refusals.specs.Refusals.{answer, Clear, none, more}
use Rattle.refusals.proofs.Rows.{accept, by_refusal, by_pass}
use Rattle.manifest_shape.specs.declared.Layout.{Layout}
use Rattle.manifest_shape.specs.Shape.{manifest_of}
use Rattle.manifest.specs.Judged.{malformed, unsupported_at, unsupported, misnamed_at, misnamed}
use Rattle.manifest.proofs.Shaped.{shape_formed, shape_unsupported, shape_misnamed, no_shape}
use Rattle.bundle.specs.Checks.{manifest_checks}
use Rattle.bundle.specs.Verdict.{layout_of, checked_manifest}
use Rattle.bundle.proofs.Verdicts.{shape_layout}

module _ (m : List ℕ) {x : Option Layout} (e : x ≡ manifest_of m) where
  pub told_malformed : x ≡ None → malformed m ≡ true
  told_malformed f = no_shape m (sym e ∙ f)

  module _ {l : Layout} (f : x ≡ Some l) where
    pub told_formed : malformed m ≡ false
    told_formed = shape_formed m (sym e ∙ f)

    pub told_unsupported : {r b : Bool} → r ≡ unsupported_at m l → r ≡ b → unsupported m ≡ b
    told_unsupported g h = shape_unsupported m (sym e ∙ f) ∙ sym g ∙ h

    pub told_misnamed : {r b : Bool} → r ≡ misnamed_at m l → r ≡ b → misnamed m ≡ b
    told_misnamed g h = shape_misnamed m (sym e ∙ f) ∙ sym g ∙ h

    pub manifest_passed : Clear (manifest_checks m) → Ok l ≡ checked_manifest m
    unfolding checked_manifest
    manifest_passed h =
        rw (← shape_layout m (sym e ∙ f)) (by_pass Err (Ok (layout_of m)) (accept (manifest_checks m) h) refl)

pub manifest_refused : (m : List ℕ) {n : ℕ} → n ≡ answer (manifest_checks m) → 0 < n → Err n ≡ checked_manifest m
unfolding checked_manifest
manifest_refused m e h = by_refusal Err (Ok (layout_of m)) e (λ z. omega arith)

pub ruleset manifestRows = (none, more, told_malformed, told_formed, told_unsupported, told_misnamed)
