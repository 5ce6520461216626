-- The slots of the first j exports are written.
use native.Mathlib.Omega.{arith}
use Rattle.unpacking.proofs.Naming.{naming_none, naming_all, naming_bad, naming_on}
use Rattle.unpacking.proofs.exports.put_exports.Goals as goal

pub loop-j-init : goal.loop-j-init
loop-j-init c = naming_none _ _ _ _ _ c.requires.2

pub bounds-out-j : goal.bounds-out-j
bounds-out-j c = omega (arith, c.loop-j.invariant.fill.long)

pub loop-j-preserved : goal.loop-j-preserved
loop-j-preserved c =
    naming_on _ _ _ _ _ c.loop-j.invariant c.loop-j-test.true c.reference_end.ensures
    c.in-Some.is c.requires.1 c.reference_hash.ensures c.slot_named.ensures

pub returns-in_default : goal.returns-in_default
returns-in_default c = naming_bad _ _ _ _ _ c.loop-j.invariant c.loop-j-test.true c.reference_end.ensures c.in_default.is

pub shape_of-out : goal.shape_of-out
shape_of-out c = c.loop-j.invariant.fill.long

pub returns : goal.returns
returns c = naming_all _ _ _ _ _ c.loop-j.invariant c.loop-j-test.false
