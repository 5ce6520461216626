-- The stage that answers, or what was found.
use mathlib.Core.Path.{refl, ◌∙◌}
use native.Mathlib.Omega.{arith}
use Rattle.refusals.proofs.Outcomes.{handed_on, number_some}
use Rattle.bundle.proofs.Verdicts.{by_names, manifest_shape, by_nodes, all_pass, placed_nodes}
use Rattle.bundle.proofs.check_and_place.Goals as goal

pub returns-in_err-c : goal.returns-in_err-c
returns-in_err-c c =
    let (r, some) = by_names _ c.describe.ensures (grind arith) in
    (handed_on _ _ c.from_residual.ensures.1 ∙ r, λ z. absurd (some z))

pub check_nodes-requires : goal.check_nodes-requires
check_nodes-requires c = (manifest_shape _ c.describe.ensures {c = c.in_ok-c.c} (grind arith) c.of.ensures, c.requires)

pub returns-in_err-check_nodes : goal.returns-in_err-check_nodes
returns-in_err-check_nodes c =
    let (r, some) =
    by_nodes _ c.describe.ensures {c = c.in_ok-c.c} (grind arith) c.of.ensures c.of-2.ensures c.in_err-check_nodes.ensures.answer (number_some _) in
    (handed_on _ _ c.from_residual-in_err-check_nodes.ensures.1 ∙ r, λ z. absurd (some z))

pub returns : goal.returns
returns c =
    let checked = c.in_ok-check_nodes.ensures in (
      all_pass _ c.describe.ensures {c = c.in_ok-c.c} (grind arith) c.of.ensures c.of-2.ensures checked.answer refl,
      λ z. placed_nodes _ c.describe.ensures {c = c.in_ok-c.c} (grind arith) c.of.ensures c.of-2.ensures checked.answer checked.placed,
    )
