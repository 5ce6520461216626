-- The lines of the first i exports are put.
use mathlib.Core.Path.{◌≡◌, refl, ◌∙◌}
use native.Mathlib.Omega.{arith}
use lib.ListN.{length}
use Rattle.text.proofs.Putting.{put_none}
use Rattle.report.specs.Report.{lines}
use Rattle.report.proofs.ExportLines.{line_fits, line_put}
use Rattle.report.proofs.put_lines.Goals as goal

pub loop-i-init : goal.loop-i-init
unfolding lines
loop-i-init c = (refl, put_none _ _)

pub name_of-requires : goal.name_of-requires
name_of-requires c = c.requires.0

pub put_line-p-requires : goal.put_line-p-requires
put_line-p-requires c =
    line_fits c.requires.1 c.loop-i-test.true c.name_of.ensures c.of.ensures c.args.at c.loop-i.p
    (length c.loop-i.out) (omega arith) c.loop-i.invariant.1.ends

pub loop-i-preserved : goal.loop-i-preserved
loop-i-preserved c = (
  c.put_line-p.auto.out ∙ c.loop-i.invariant.0,
  line_put c.requires.1 c.loop-i-test.true c.name_of.ensures c.of.ensures c.loop-i.invariant.1
      c.put_line-p.ensures,
)

pub shape_of-out : goal.shape_of-out
shape_of-out c = c.loop-i.invariant.0

pub returns : goal.returns
returns c =
    let turn = c.loop-i in
    let e : turn.i ≡ c.args.count = omega arith in
    rw e at turn.invariant.1
