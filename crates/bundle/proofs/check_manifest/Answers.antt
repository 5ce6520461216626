-- The tests of the rows, each where those before it do not hold.
use native.Mathlib.Omega.{arith}
use Rattle.refusals.specs.Refusals.{rows_before, row_holds}
use Rattle.refusals.proofs.Rows.{refuse}
use Rattle.bundle.specs.Checks.{manifest_checks}
use Rattle.bundle.proofs.ManifestRows.{manifest_refused, manifest_passed, manifestRows}
use Rattle.bundle.proofs.check_manifest.Goals as goal

pub returns-then-unsupported : goal.returns-then-unsupported
unfolding manifest_checks rows_before row_holds
returns-then-unsupported c = manifest_refused _ (refuse 13 _ (search manifestRows depth 20 fits 4000) (search manifestRows)) (omega arith)

pub returns-then-misnamed : goal.returns-then-misnamed
unfolding manifest_checks rows_before row_holds
returns-then-misnamed c = manifest_refused _ (refuse 14 _ (search manifestRows depth 20 fits 4000) (search manifestRows)) (omega arith)

pub returns : goal.returns
unfolding manifest_checks rows_before row_holds
returns c = search (manifestRows, manifest_passed)

pub returns-in_default : goal.returns-in_default
unfolding manifest_checks rows_before row_holds
returns-in_default c = manifest_refused _ (refuse 12 _ (search manifestRows depth 20 fits 4000) (search manifestRows)) (omega arith)
