-- The slot of the record that was found.
use mathlib.Core.Path.{ap}
use native.Mathlib.Omega.{arith}
use Rattle.table.specs.declared.slots.Slot.{Slot}
use Rattle.unpacking.proofs.Placements.{named_there, named_found, named_lost}
use Rattle.unpacking.proofs.exports.slot_named.Goals as goal

pub slot_at-requires : goal.slot_at-requires
slot_at-requires c = named_there c.requires _ c.find_record.ensures c.in-Some.is

pub overflow_cast-result : goal.overflow_cast-result
overflow_cast-result c =
    let slot = ap (λ (x : Slot). x.0) c.slot_at.ensures in
    omega (arith, slot, c.type_inv.slots c.in-Some.i)

pub returns-in-Some : goal.returns-in-Some
returns-in-Some c =
    ap (λ (x : Slot). x.0) (named_found c.requires _ c.find_record.ensures c.in-Some.is c.slot_at.ensures)

pub returns-in-None : goal.returns-in-None
returns-in-None c = ap (λ (x : Slot). x.0) (named_lost c.requires _ c.find_record.ensures c.in-None.is)
