-- The stage that answers, or the sections.
use mathlib.Core.Path.{◌∙◌}
use Rattle.refusals.proofs.Outcomes.{handed_on, number_some}
use Rattle.container.proofs.Stages.{by_header, header_inside, by_directory, in_sections}
use Rattle.container.proofs.Surveys.{found_sections}
use Rattle.container.proofs.locate.Goals as goal

pub returns-in_err-check_header : goal.returns-in_err-check_header
returns-in_err-check_header c =
    handed_on _ _ c.from_residual.ensures.1 ∙ by_header _ c.in_err-check_header.ensures (number_some _)

pub surveyed-s-requires : goal.surveyed-s-requires
surveyed-s-requires c = header_inside _ c.in_ok-check_header.ensures

pub returns-in_err-check_directory : goal.returns-in_err-check_directory
returns-in_err-check_directory c =
    handed_on _ _ c.from_residual-in_err-check_directory.ensures.1 ∙
    by_directory _ c.in_ok-check_header.ensures c.in_err-check_directory.ensures (number_some _)

pub returns : goal.returns
returns c =
    in_sections _ c.in_ok-check_header.ensures c.in_ok-check_directory.ensures
    (found_sections _ c.surveyed-s.ensures c.part_of.ensures c.part_of-2.ensures)
