-- `apply` calls `carry_out` with the fuel that it has, and `carry_out` calls `apply` with less: twice the fuel and 1, and twice the fuel.
use Prim.Native.Nat.{◌+◌, ◌*◌}
use Rattle.applying.proofs.+apply_carry_out.Given as goal

abbrev pub decreases-apply : goal.decreases-apply
decreases-apply l = 2 * l.p.left + 1

abbrev pub decreases-carry_out : goal.decreases-carry_out
decreases-carry_out l = 2 * l.p.left
