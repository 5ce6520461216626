-- The parts of the line, one after the other.
use native.Mathlib.Omega.{arith}
use Rattle.report.specs.Report.{line}
use Rattle.text.proofs.Putting.{then}
use Rattle.report.proofs.Lines.{line_length}
use Rattle.report.proofs.put_line.Goals as goal

pub put_decimal-a-requires : goal.put_decimal-a-requires
put_decimal-a-requires c =
    let a = c.args in
    omega (arith, line_length a.slot a.name.now)

pub put_bytes-b-requires : goal.put_bytes-b-requires
put_bytes-b-requires c =
    let a = c.args in
    omega (arith, line_length a.slot a.name.now)

pub put_decimal-c-requires : goal.put_decimal-c-requires
put_decimal-c-requires c =
    let a = c.args in
    omega (arith, line_length a.slot a.name.now)

pub put_bytes-d-requires : goal.put_bytes-d-requires
put_bytes-d-requires c =
    let a = c.args in
    omega (arith, line_length a.slot a.name.now)

pub put_bytes-e-requires : goal.put_bytes-e-requires
put_bytes-e-requires c =
    let a = c.args in
    omega (arith, line_length a.slot a.name.now)

pub put_bytes-requires : goal.put_bytes-requires
put_bytes-requires c =
    let a = c.args in
    omega (arith, line_length a.slot a.name.now)

pub returns : goal.returns
unfolding line
returns c =
    then c.put_decimal-a.ensures
    (then c.put_bytes-b.ensures
    (then c.put_decimal-c.ensures
    (then c.put_bytes-d.ensures (then c.put_bytes-e.ensures c.put_bytes.ensures))))
