-- The marked cases and the further ones, by computation.
use mathlib.Core.Path.{refl}
use Rattle.calculus.specs.Rules.{tree_rule}
use Rattle.calculus.specs.Machine.{machine_meet, machine_carry, machine_step, run}
use Rattle.calculus.specs.Cases.{peak, MachineCasesHold, FurtherHold}

pub cases_hold : MachineCasesHold
unfolding tree_rule machine_meet machine_carry machine_step run peak
cases_hold = refl

pub further_hold : FurtherHold
unfolding tree_rule machine_meet machine_carry machine_step run peak
further_hold = refl
