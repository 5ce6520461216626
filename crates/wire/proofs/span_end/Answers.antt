-- The end is there where the span is inside.
use native.Mathlib.Omega.{arith}
use Rattle.wire.proofs.Spans.{inside_true, inside_false, end_in, end_out}
use Rattle.wire.proofs.span_end.Goals as goal

pub overflow_add-result : goal.overflow_add-result
overflow_add-result c = omega (arith, inside_true _ _ _ c.inside.ensures c.if-inside.true)

pub returns-then-inside-clause-place : goal.returns-then-inside-clause-place
returns-then-inside-clause-place c = end_in _ _ _ (inside_true _ _ _ c.inside.ensures c.if-inside.true)

pub returns-clause-place : goal.returns-clause-place
returns-clause-place c = end_out _ _ _ (inside_false _ _ _ c.inside.ensures c.if-inside.false)

pub returns-then-inside-clause-within : goal.returns-then-inside-clause-within
returns-then-inside-clause-within c = omega (arith, inside_true _ _ _ c.inside.ensures c.if-inside.true)
