-- The parts of the line, one after the other.
use native.Mathlib.Omega.{arith}
use Rattle.report.specs.Report.{refused_line}
use Rattle.text.proofs.Putting.{then}
use Rattle.report.proofs.Lines.{refused_length}
use Rattle.report.proofs.put_refused.Goals as goal

pub put_bytes-a-requires : goal.put_bytes-a-requires
put_bytes-a-requires c =
    omega (arith, refused_length c.args.number)

pub put_decimal-b-requires : goal.put_decimal-b-requires
put_decimal-b-requires c =
    omega (arith, refused_length c.args.number)

pub put_bytes-requires : goal.put_bytes-requires
put_bytes-requires c =
    let a = c.args in
    omega (arith, refused_length a.number)

pub returns : goal.returns
unfolding refused_line
returns c =
    then c.put_bytes-a.ensures (then c.put_decimal-b.ensures c.put_bytes.ensures)
