-- What the applications after the first of rules 4 and 7 work on.
use native.Mathlib.Omega.{arith}
use Rattle.applying.proofs.Ways.{both_second, both_third, then_second}
use Rattle.applying.proofs.+apply_carry_out.Goals as goal

pub carry_out-apply-requires-in-Both-2 : goal.carry_out-apply-requires-in-Both-2
carry_out-apply-requires-in-Both-2 t c =
    let next = both_second c.requires c.spend-in-Both.ensures _ _ c.in-Both.is c.apply-in-Both.ensures c.in_ok-u-in-Both.was in
    (omega (arith, c.decreases, next.1), next.0)

pub carry_out-apply-requires-in-Both-3 : goal.carry_out-apply-requires-in-Both-3
carry_out-apply-requires-in-Both-3 t c =
    let next = both_third c.requires c.spend-in-Both.ensures _ _ c.in-Both.is c.apply-in-Both.ensures c.in_ok-u-in-Both.was c.apply-in-Both-2.ensures c.in_ok-v-in-Both.was in
    (omega (arith, c.decreases, next.1), next.0)

pub carry_out-apply-requires-in-Then-2 : goal.carry_out-apply-requires-in-Then-2
carry_out-apply-requires-in-Then-2 t c =
    let next = then_second c.requires c.spend-in-Then.ensures _ _ c.in-Then.is c.apply-in-Then.ensures c.in_ok-t-in-Then.was in
    (omega (arith, c.decreases, next.1), next.0)
