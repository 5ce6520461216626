-- The number is there where its bytes are inside.
use mathlib.Core.Path.{◌∙◌, ap}
use Rattle.wire.specs.Wire.{big_endian}
use Rattle.wire.proofs.Parts.{part_lent, part_length}
use Rattle.wire.proofs.Spans.{end_at, end_past, number_in, number_out}
use Rattle.wire.proofs.number_at.Goals as goal

pub returns-in_err-end-clause-value : goal.returns-in_err-end-clause-value
returns-in_err-end-clause-value g c = c.from_residual.ensures ∙ number_out _ _ _ (end_past _ _ _ c.span_end.ensures.place c.in_err-end.was)

pub big_endian-requires : goal.big_endian-requires
big_endian-requires g c =
    let (e, h) = end_at _ _ _ c.span_end.ensures.place c.in_ok-end.was in
    rw (e, part_lent, part_length _ _ _ h) c.requires

pub returns-clause-value : goal.returns-clause-value
returns-clause-value g c =
    let (e, h) = end_at _ _ _ c.span_end.ensures.place c.in_ok-end.was in
    number_in _ _ _ h (c.big_endian.ensures ∙ rw e (ap big_endian (part_lent c.args.s.now c.args.at g.row.N)))

pub returns-clause-within : goal.returns-clause-within
returns-clause-within g c = (end_at _ _ _ c.span_end.ensures.place c.in_ok-end.was).1

pub returns-in_err-end-clause-within : goal.returns-in_err-end-clause-within
returns-in_err-end-clause-within g c = rw c.from_residual.ensures (tt {0})
