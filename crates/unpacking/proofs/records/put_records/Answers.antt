-- The first i records are written.
use Prim.Native.Nat.{◌≤◌}
use mathlib.Core.Path.{◌∙◌}
use native.Mathlib.Omega.{arith}
use Rattle.unpacking.specs.Ready.{PlacedAt}
use Rattle.unpacking.proofs.NodeLaws.{placed_fits}
use Rattle.unpacking.proofs.Writing.{count_is, stored_start, stored_end, stored_fits, stored_on}
use Rattle.unpacking.proofs.records.put_records.Goals as goal

pub loop-i-init : goal.loop-i-init
loop-i-init c = stored_start _ _

pub slot_at-requires : goal.slot_at-requires
slot_at-requires c =
    let counted = count_is _ c.count-i-end.ensures c.requires.0.shape in
    let (p, room) = stored_fits _ _ c.loop-i.invariant c.requires.0 (omega arith) c.requires.1 in
    (p.here, p.placed)

pub node_at-requires : goal.node_at-requires
node_at-requires c =
    let counted = count_is _ c.count-i-end.ensures c.requires.0.shape in
    (stored_fits _ _ c.loop-i.invariant c.requires.0 (omega arith) c.requires.1).0

pub put_node-requires : goal.put_node-requires
put_node-requires c =
    let counted = count_is _ c.count-i-end.ensures c.requires.0.shape in
    let (p, room) = stored_fits _ _ c.loop-i.invariant c.requires.0 (omega arith) c.requires.1 in
    placed_fits p _ room c.slot_at.ensures c.node_at.ensures

pub loop-i-preserved : goal.loop-i-preserved
loop-i-preserved c =
    let counted = count_is _ c.count-i-end.ensures c.requires.0.shape in
    stored_on _ _ c.loop-i.invariant c.requires.0 (omega arith) (c.put_node.ensures ∙ rw (c.slot_at.ensures, c.node_at.ensures))

pub shape_of-words : goal.shape_of-words
shape_of-words c = c.loop-i.invariant.long

pub returns : goal.returns
returns c =
    let counted = count_is _ c.count-i-end.ensures c.requires.0.shape in
    stored_end _ _ c.loop-i.invariant (omega arith)
