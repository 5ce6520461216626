-- The slots are named, and the loop starts with what is ready.
use native.Mathlib.Omega.{arith}
use Rattle.engine.proofs.CallWays.{asked_slots, asked_ready}
use Rattle.engine.proofs.run_tail.Goals as goal

pub named-requires : goal.named-requires
named-requires c = (asked_slots _ _ _ _ _ _ _ (c.in_ok-refusal.ensures {u = tt})).0

pub named-requires-2 : goal.named-requires-2
named-requires-2 c = (asked_slots _ _ _ _ _ _ _ (c.in_ok-refusal.ensures {u = tt})).1

pub drive-requires : goal.drive-requires
drive-requires c =
    let (runnable, waits, few)
    = asked_ready _ _ _ _ _ _ _ (c.in_ok-refusal.ensures {u = tt}) _ _ c.named.ensures c.named-2.ensures
    _ c.begin.ensures.0 _ c.begin.ensures.1
    in (runnable, waits, omega (arith, few, c.new-fuel.ensures.0, c.new-fuel.ensures.1, c.steps.ensures))
