-- The rest of the run from each turn on is the whole run; a step leaves what the next one works on.
use mathlib.Core.Path.{◌∙◌, subst}
use native.Mathlib.Omega.{arith}
use Rattle.stepping.proofs.Keeps.{LeftBy, step_left}
use Rattle.engine.proofs.DriveWays.{some_left, drive_going, drive_done, drive_stopped}
use Rattle.engine.proofs.drive.Goals as goal

pub loop-rest-preserved : goal.loop-rest-preserved
loop-rest-preserved c =
    let inv = c.loop-rest.invariant in
    let e = c.step.ensures in
    let left = subst (LeftBy _ _) c.in-Going.is (step_left _ _ _ inv.ready inv.waits _ _ _ e) in
    record {
      same =
          rw (c.spend-rest.ensures.0, c.spend-rest.ensures.1)
          (drive_going _ _ _ _ _ _ _ _ (some_left inv c.loop-rest-test.true) e c.in-Going.is ∙ inv.same);
      ready = left.0;
      waits = left.1;
      sum = omega (arith, inv.sum, some_left inv c.loop-rest-test.true, c.spend-rest.ensures.0, c.spend-rest.ensures.1);
      words_long = c.step.auto.words ∙ inv.words_long;
      jobs_long = c.step.auto.jobs ∙ inv.jobs_long;
    }

pub returns-in-Done : goal.returns-in-Done
returns-in-Done c =
    drive_done _ _ _ _ _ _ _ _ (some_left c.loop-rest.invariant c.loop-rest-test.true) c.step.ensures _ c.in-Done.is
    c.spend.ensures.1 c.finished.ensures
    ∙ c.loop-rest.invariant.same

pub returns-in-Stopped : goal.returns-in-Stopped
returns-in-Stopped c =
    drive_stopped _ _ _ _ _ _ _ _ (some_left c.loop-rest.invariant c.loop-rest-test.true) c.step.ensures _ c.in-Stopped.is
    c.stopped.ensures
    ∙ c.loop-rest.invariant.same
