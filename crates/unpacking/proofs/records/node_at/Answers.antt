-- The node by its links, 0 or not.
use Rattle.placing.specs.Circles.{first, second}
use Rattle.unpacking.proofs.NodeLaws.{linked_leaf, linked_stem, linked_fork, link_placed}
use Rattle.unpacking.proofs.records.node_at.Goals as goal

pub returns-in-0-default : goal.returns-in-0-default
returns-in-0-default c = linked_leaf _ _ _ c.in-0-default.is-0

pub slot_at-requires : goal.slot_at-requires
slot_at-requires c = link_placed c.requires _ (λ j. first) c.in_default-eq0.is-0.1

pub returns-in_default-eq0 : goal.returns-in_default-eq0
returns-in_default-eq0 c = linked_stem _ _ _ c.in_default-eq0.is-0.1 c.slot_at.ensures c.in_default-eq0.is-1

pub slot_at-requires-in_default : goal.slot_at-requires-in_default
slot_at-requires-in_default c = link_placed c.requires _ (λ j. first) c.in_default.is-0.1

pub slot_at-requires-in_default-2 : goal.slot_at-requires-in_default-2
slot_at-requires-in_default-2 c = link_placed c.requires _ (λ j. second) c.in_default.is-1.1

pub returns-in_default : goal.returns-in_default
returns-in_default c =
    linked_fork _ _ _ c.in_default.is-0.1 c.slot_at-in_default.ensures c.in_default.is-1.1 c.slot_at-in_default-2.ensures
