-- The parts of the line, one after the other.
use native.Mathlib.Omega.{arith}
use Rattle.report.specs.Report.{ok_line}
use Rattle.text.proofs.Putting.{then}
use Rattle.report.proofs.Lines.{ok_length}
use Rattle.report.proofs.put_ok.Goals as goal

pub put_bytes-a-requires : goal.put_bytes-a-requires
put_bytes-a-requires c =
    let a = c.args in
    omega (arith, ok_length a.nodes a.exports)

pub put_decimal-b-requires : goal.put_decimal-b-requires
put_decimal-b-requires c =
    let a = c.args in
    omega (arith, ok_length a.nodes a.exports)

pub put_bytes-c-requires : goal.put_bytes-c-requires
put_bytes-c-requires c =
    let a = c.args in
    omega (arith, ok_length a.nodes a.exports)

pub put_decimal-d-requires : goal.put_decimal-d-requires
put_decimal-d-requires c =
    let a = c.args in
    omega (arith, ok_length a.nodes a.exports)

pub put_bytes-requires : goal.put_bytes-requires
put_bytes-requires c =
    let a = c.args in
    omega (arith, ok_length a.nodes a.exports)

pub returns : goal.returns
unfolding ok_line
returns c =
    then c.put_bytes-a.ensures
    (then c.put_decimal-b.ensures
    (then c.put_bytes-c.ensures (then c.put_decimal-d.ensures c.put_bytes.ensures)))
