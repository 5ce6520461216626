-- A row for each test.
use Rattle.refusals.specs.Refusals.{rows_before, row_holds}
use Rattle.refusals.proofs.Rows.{comparing, refuse, accept}
use Rattle.loader.specs.Admit.{fit_checks}
use Rattle.loader.proofs.check_fit.Goals as goal

pub returns-then-most-nodes : goal.returns-then-most-nodes
unfolding fit_checks rows_before row_holds
returns-then-most-nodes c = refuse 21 _ (search comparing depth 20 fits 4000) (search comparing)

pub returns-then-space-exports : goal.returns-then-space-exports
unfolding fit_checks rows_before row_holds
returns-then-space-exports c = refuse 22 _ (search comparing depth 20 fits 4000) (search comparing)

pub returns : goal.returns
unfolding fit_checks rows_before row_holds
returns c = accept _ (search comparing depth 20 fits 4000)
