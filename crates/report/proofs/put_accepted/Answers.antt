-- The line of the bundle, and the lines of its exports.
use mathlib.Core.Path.{sym, refl}
use native.Mathlib.Omega.{arith}
use Rattle.text.proofs.Putting.{then}
use Rattle.report.proofs.ExportLines.{undescribed, accepted_fits}
use Rattle.report.proofs.put_accepted.Goals as goal

pub put_ok-at-requires : goal.put_ok-at-requires
put_ok-at-requires c =
    omega (arith, accepted_fits c.requires.0 c.args.nodes)

pub put_lines-requires : goal.put_lines-requires
put_lines-requires c =
    (sym c.in-Ok.ensures, c.requires.0, omega (arith, accepted_fits c.requires.0 c.args.nodes))

pub returns-in-Ok : goal.returns-in-Ok
returns-in-Ok c = then c.put_ok-at.ensures c.put_lines.ensures

pub returns-in-Err : goal.returns-in-Err
returns-in-Err c = undescribed c.requires.0 c.in-Err.ensures refl
