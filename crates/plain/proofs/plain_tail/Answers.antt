-- Where nothing refuses, f and x are slots, and the application works on them.
use Rattle.applying.proofs.Ways.{ends}
use Rattle.plain.proofs.CallWays.{plain_named, plain_fit}
use Rattle.plain.proofs.plain_tail.Goals as goal

pub named-requires : goal.named-requires
named-requires c = (plain_named _ _ _ _ _ _ (c.in_ok-refusal.ensures {u = tt})).0

pub named-requires-2 : goal.named-requires-2
named-requires-2 c = (plain_named _ _ _ _ _ _ (c.in_ok-refusal.ensures {u = tt})).1

pub apply-end-requires : goal.apply-end-requires
apply-end-requires c = plain_fit _ _ _ _ _ _ (c.in_ok-refusal.ensures {u = tt}) _ _ c.named.ensures c.named-2.ensures

pub ended_by-requires : goal.ended_by-requires
ended_by-requires c =
    ends (plain_fit _ _ _ _ _ _ (c.in_ok-refusal.ensures {u = tt}) _ _ c.named.ensures c.named-2.ensures) _ _ c.apply-end.ensures
