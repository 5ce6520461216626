-- 15, or what the tests of the records answer.
use mathlib.Core.Path.{sym}
use Rattle.refusals.specs.Refusals.{rows_before, row_holds}
use Rattle.refusals.proofs.Rows.{told_not_false, refuse}
use Rattle.nodes.proofs.StartTable.{room_for_starts, starts_filled}
use Rattle.bundle.specs.Checks.{node_checks}
use Rattle.bundle.proofs.NodeRows.{nodeRows}
use Rattle.bundle.proofs.check_nodes.Goals as goal

pub returns-then-not-shaped : goal.returns-then-not-shaped
unfolding node_checks rows_before row_holds
returns-then-not-shaped c = record { answer = refuse 15 _ (search nodeRows depth 20 fits 4000) (search nodeRows); placed = tt {0} }

pub fill_starts-requires : goal.fill_starts-requires
unfolding node_checks rows_before row_holds
fill_starts-requires c = room_for_starts _ c.count.ensures (search told_not_false)

pub new-requires : goal.new-requires
new-requires c = starts_filled _ c.count.ensures (search told_not_false) _ _ c.fill_starts.ensures

pub check_records-requires : goal.check_records-requires
check_records-requires c = (c.requires.0, rw c.new.ensures (sym c.if-not-shaped.ensures), c.requires.1)
