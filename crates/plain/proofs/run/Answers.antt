-- The plain run on the table from the base on.
use Rattle.table.proofs.Signed.{as_passed}
use Rattle.plain.proofs.CallWays.{run_behind}
use Rattle.plain.proofs.run.Goals as goal

pub returns-in-Some : goal.returns-in-Some
returns-in-Some c =
    let fits = c.ranges in
    run_behind _ _ _ _ _ _ _ _ (as_passed _ fits.base) _ c.base_of.ensures _ c.in-Some.is
    _ _ (as_passed _ fits.f) (as_passed _ fits.x) _ _ c.plain_tail.ensures
