-- Where there is room the part is compared with the string, and nothing else is answered true.
use mathlib.Core.Path.{◌∙◌}
use Rattle.wire.proofs.Spans.{end_at, end_past}
use Rattle.wire.proofs.Bytes.{holds_lent, holds_out}
use Rattle.wire.proofs.holds_at.Goals as goal

pub returns-in-Some : goal.returns-in-Some
returns-in-Some c =
    let (e, h) = end_at _ _ _ c.span_end.ensures.place c.in-Some.is in
    c.same_bytes.ensures ∙ rw e (holds_lent _ _ _ h)

pub returns-in-None : goal.returns-in-None
returns-in-None c = holds_out _ _ _ (end_past _ _ _ c.span_end.ensures.place c.in-None.is)
