-- The test by subtraction is the test of the sum.
use mathlib.Core.Path.{sym, ◌∙◌}
use native.Mathlib.Omega.{arith}
use borrow.Author.Tests.{lt-leb}
use Rattle.wire.proofs.Spans.{inside_out, inside_rest}
use Rattle.wire.proofs.inside.Goals as goal

pub returns-then-start-s : goal.returns-then-start-s
returns-then-start-s c = inside_rest _ _ _ (omega arith)

pub returns-else-start-s : goal.returns-else-start-s
returns-else-start-s c = lt-leb _ _ (omega arith) ∙ sym (inside_out _ _ _ (omega arith))
