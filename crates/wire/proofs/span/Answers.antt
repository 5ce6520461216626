-- The part is the span where it is inside.
use native.Mathlib.Omega.{arith}
use Rattle.wire.proofs.Spans.{inside_true, inside_false, span_lent, span_out}
use Rattle.wire.proofs.span.Goals as goal

pub overflow_add-end : goal.overflow_add-end
overflow_add-end c = omega (arith, inside_true _ _ _ c.inside.ensures c.if-inside.true)

pub slice_bounds-result-count : goal.slice_bounds-result-count
slice_bounds-result-count c = omega arith

pub slice_bounds-result-start : goal.slice_bounds-result-start
slice_bounds-result-start c = omega arith

pub slice_bounds-result-end : goal.slice_bounds-result-end
slice_bounds-result-end c = omega (arith, inside_true _ _ _ c.inside.ensures c.if-inside.true)

pub returns-then-inside : goal.returns-then-inside
returns-then-inside c = span_lent _ _ _ (inside_true _ _ _ c.inside.ensures c.if-inside.true)

pub returns : goal.returns
returns c = span_out _ _ _ (inside_false _ _ _ c.inside.ensures c.if-inside.false)
