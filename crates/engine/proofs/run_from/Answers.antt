-- The run on the table from the base on.
use borrow.Author.Rules.{rules}
use Rattle.table.proofs.Signed.{as_passed}
use Rattle.table.proofs.BaseLaws.{base_told}
use Rattle.engine.proofs.CallWays.{run_behind}
use Rattle.engine.proofs.run_from.Goals as goal

pub offset_bounds-words-at : goal.offset_bounds-words-at
offset_bounds-words-at c =
    let inside = base_told _ _ _ c.base_of.ensures c.in-Some.is in
    search (rules, inside)

pub slice_bounds-run_tail-count : goal.slice_bounds-run_tail-count
slice_bounds-run_tail-count c =
    let inside = base_told _ _ _ c.base_of.ensures c.in-Some.is in
    search (rules, inside)

pub slice_bounds-run_tail-start : goal.slice_bounds-run_tail-start
slice_bounds-run_tail-start c =
    let inside = base_told _ _ _ c.base_of.ensures c.in-Some.is in
    search (rules, inside)

pub returns-in-Some : goal.returns-in-Some
returns-in-Some c =
    let fits = c.ranges in
    run_behind _ _ _ _ _ _ _ _ _ (as_passed _ fits.base) _ c.base_of.ensures _ c.in-Some.is
    _ _ (as_passed _ fits.f) (as_passed _ fits.x) _ _ _ c.run_tail.ensures
