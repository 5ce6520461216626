-- The number of a refusal, or 0.
use mathlib.Core.Path.{refl, sym, ◌∙◌}
use Rattle.refusals.proofs.Outcomes.{answer_on}
use Rattle.bundle.proofs.Verdicts.{judged_refused, judged_passed}
use Rattle.bundle.proofs.check.Goals as goal

pub returns-in_err-check_and_place : goal.returns-in_err-check_and_place
returns-in_err-check_and_place c =
    answer_on _ _ c.from_residual.ensures.1 ∙ (judged_refused _ c.in_err-check_and_place.ensures.0 refl).0

pub returns : goal.returns
returns c = sym (judged_passed _ c.in_ok-check_and_place.ensures.0 refl)
