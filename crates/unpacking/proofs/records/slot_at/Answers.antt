-- The slot is one less than the word.
use native.Mathlib.Omega.{arith}
use Rattle.unpacking.proofs.records.slot_at.Goals as goal

pub overflow_cast-result : goal.overflow_cast-result
overflow_cast-result c = omega (arith, c.type_inv.slots c.args.i)
