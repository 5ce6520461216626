-- A number below 2 ^ 31 is the same with a sign.
use native.Mathlib.Omega.{arith}
use mir.Syntax.{w32}
use mir.ValLaws.{to_z_pos}
use Rattle.table.proofs.slots.Slot.number.Goals as goal

pub returns : goal.returns
returns c = to_z_pos w32 c.args.self.0 (omega arith)
