-- A refusal by 1 to 20, or what is admitted to our part of the table.
use native.Mathlib.Omega.{arith}
use Rattle.refusals.specs.Numbers.{refusal_number}
use Rattle.refusals.proofs.Outcomes.{handed_on}
use Rattle.table.proofs.Signed.{as_passed}
use Rattle.bundle.proofs.Verdicts.{judged_refused, judged_passed, judged_described}
use Rattle.loader.proofs.Loading.{started_inside, load_refused, load_admitted}
use Rattle.loader.proofs.load.Goals as goal

pub offset_bounds-words-at : goal.offset_bounds-words-at
offset_bounds-words-at c = omega (arith, started_inside _ _ c.start-at.ensures, c.well_formed)

pub slice_bounds-admit-count : goal.slice_bounds-admit-count
slice_bounds-admit-count c = started_inside _ _ c.start-at.ensures

pub slice_bounds-admit-start : goal.slice_bounds-admit-start
slice_bounds-admit-start c = started_inside _ _ c.start-at.ensures

pub admit-requires : goal.admit-requires
admit-requires c =
    let (found, placed) = c.check_and_place.ensures in
    let clear = judged_passed _ found {c = c.in_ok-c.c} (grind arith) in
    record { clear = clear; found = judged_described _ found (grind arith); placing = placed clear }

pub returns-in_err-c : goal.returns-in_err-c
returns-in_err-c c =
    let told = judged_refused _ c.check_and_place.ensures.0 {n = refusal_number c.in_err-c.field-0.0} (grind arith) in
    rw (handed_on _ _ c.from_residual.ensures.1) (load_refused _ _ _ _ told.0 told.1)

pub returns : goal.returns
returns c =
    load_admitted _ _ _ _ (judged_passed _ c.check_and_place.ensures.0 {c = c.in_ok-c.c} (grind arith))
    (as_passed _ c.ranges.base) _ c.start-at.ensures c.admit.ensures
