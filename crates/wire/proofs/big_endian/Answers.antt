-- The number of the bytes so far.
use mathlib.Core.Path.{refl, ◌∙◌, ap}
use Prim.Native.Nat.{◌+◌}
use native.Mathlib.Omega.{arith}
use lib.Seq.{take_all}
use Rattle.wire.specs.Wire.{big_endian}
use Rattle.wire.proofs.Numbers.{big_endian_more, big_endian_fits}
use Rattle.wire.proofs.big_endian.Goals as goal

pub overflow_mul-n : goal.overflow_mul-n
overflow_mul-n c =
    let turn = c.loop-b in
    omega (
      arith,
      turn.invariant,
      big_endian_more c.args.bytes.now turn.b-index c.loop-b-test.true,
      big_endian_fits c.args.bytes.now (turn.b-index + 1) (λ i. omega (arith, c.type_inv.bytes i)) (omega arith),
    )

pub overflow_add-n : goal.overflow_add-n
overflow_add-n c =
    let turn = c.loop-b in
    omega (
      arith,
      turn.invariant,
      big_endian_more c.args.bytes.now turn.b-index c.loop-b-test.true,
      big_endian_fits c.args.bytes.now (turn.b-index + 1) (λ i. omega (arith, c.type_inv.bytes i)) (omega arith),
    )

pub loop-b-init : goal.loop-b-init
unfolding big_endian
loop-b-init c = refl

pub loop-b-preserved : goal.loop-b-preserved
loop-b-preserved c = rw c.loop-b.invariant (big_endian_more _ _ c.loop-b-test.true)

pub returns : goal.returns
returns c = c.loop-b.invariant ∙ ap big_endian (take_all _ _ c.loop-b-test.false)
