-- The size keeps the sum small.
use mathlib.Core.Path.{◌≡◌, sym, ◌∙◌}
use mathlib.Core.Bool.{true}
use native.Mathlib.Omega.{arith}
use borrow.Author.Tests.{not-false}
use Rattle.sizes.proofs.Within.{within_exactly}
use Rattle.container.proofs.header.no_directory.Goals as goal
use Rattle.container.proofs.header.no_directory.Goals.{then-not-allows, else-not-allows}

allowed : (c : goal.Else-or_zero) → c.allows.result ≡ true
allowed c = elim c.if-not-allows.branch [
  | then-not-allows w ↦ not-false _ (sym w.value-is ∙ c.if-or_zero.false)
  | else-not-allows w ↦ w.if-not-allows.false
]

pub overflow_mul-result : goal.overflow_mul-result
overflow_mul-result c = omega (arith, (within_exactly _ _).0 (sym c.allows.ensures ∙ allowed c))

pub overflow_add-result : goal.overflow_add-result
overflow_add-result c = omega (arith, (within_exactly _ _).0 (sym c.allows.ensures ∙ allowed c))
