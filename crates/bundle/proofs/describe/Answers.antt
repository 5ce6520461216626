-- The stage that answers, or what was found.
use mathlib.Core.Path.{refl, ◌∙◌}
use Rattle.refusals.proofs.Outcomes.{handed_on}
use Rattle.bundle.proofs.Verdicts.{by_container, by_manifest, all_found}
use Rattle.bundle.proofs.describe.Goals as goal

pub returns-in_err-s : goal.returns-in_err-s
returns-in_err-s c = handed_on _ _ c.from_residual.ensures.1 ∙ by_container _ c.in_err-s.ensures refl

pub returns-in_err-layout : goal.returns-in_err-layout
returns-in_err-layout c =
    handed_on _ _ c.from_residual-in_err-layout.ensures.1 ∙
    by_manifest _ c.in_ok-s.ensures refl c.of.ensures c.in_err-layout.ensures refl

pub returns : goal.returns
returns c = all_found _ c.in_ok-s.ensures refl c.of.ensures c.in_ok-layout.ensures refl
