-- What is found so far is what is to be found of the entries from i on.
use native.Mathlib.Omega.{arith}
use Rattle.container.proofs.Surveys.{survey_start, survey_step, survey_end, times_fit}
use Rattle.container.proofs.directory.surveyed.Goals as goal

pub loop-i-init : goal.loop-i-init
loop-i-init c =
    let all = c.section_count-i.ensures in
    (omega arith, omega arith, rw all (survey_start _ _))

pub noted-s-requires : goal.noted-s-requires
noted-s-requires c = times_fit _ _ _ c.loop-i.invariant.2 (omega arith)

pub loop-i-preserved : goal.loop-i-preserved
loop-i-preserved c =
    let loop = c.loop-i in (
      omega arith,
      loop.invariant.1,
      survey_step _ _ loop.i (omega arith) loop.invariant.0 loop.invariant.2 c.entry_at.ensures c.noted-s.ensures,
    )

pub returns : goal.returns
returns c = survey_end _ _ (omega arith) c.loop-i.invariant.2
