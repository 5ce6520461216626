-- The tests of the rows, each where those before it do not hold.
use borrow.Author.Rules.{rules}
use Rattle.refusals.specs.Refusals.{rows_before, row_holds}
use Rattle.refusals.proofs.Rows.{refuse, accept}
use Rattle.bundle.specs.Checks.{node_checks}
use Rattle.bundle.proofs.NodeRows.{nodeRows}
use Rattle.bundle.proofs.check_records.Goals as goal

pub returns-then-some_record : goal.returns-then-some_record
unfolding node_checks rows_before row_holds
returns-then-some_record c = record { answer = refuse 16 _ (search nodeRows depth 20 fits 4000) (search nodeRows); placed = tt {0} }

pub returns-then-some_record-2 : goal.returns-then-some_record-2
unfolding node_checks rows_before row_holds
returns-then-some_record-2 c = record { answer = refuse 17 _ (search nodeRows depth 20 fits 4000) (search nodeRows); placed = tt {0} }

pub returns-then-some_record-3 : goal.returns-then-some_record-3
unfolding node_checks rows_before row_holds
returns-then-some_record-3 c = record { answer = refuse 18 _ (search nodeRows depth 20 fits 4000) (search nodeRows); placed = tt {0} }

pub returns-then-circular : goal.returns-then-circular
unfolding node_checks rows_before row_holds
returns-then-circular c = record { answer = refuse 19 _ (search nodeRows depth 20 fits 4000) (search nodeRows); placed = tt {0} }

pub returns-then-unresolved : goal.returns-then-unresolved
unfolding node_checks rows_before row_holds
returns-then-unresolved c = record { answer = refuse 20 _ (search nodeRows depth 20 fits 4000) (search nodeRows); placed = tt {0} }

pub returns : goal.returns
unfolding node_checks rows_before row_holds
returns c = record { answer = accept _ (search nodeRows depth 20 fits 4000); placed = search rules }
