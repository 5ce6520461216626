-- What a rule on used slots asks for may be carried out.
use native.Mathlib.Omega.{arith}
use Rattle.stepping.specs.Rules.{on_function, slot_rule}
use Rattle.stepping.proofs.Keeps.{rule_carries}
use Rattle.stepping.proofs.step.Goals as goal

pub make-requires : goal.make-requires
unfolding slot_rule on_function
make-requires c = rule_carries _ _ _ c.requires.0 c.requires.1 _ (grind arith)

pub make-requires-in-Stem : goal.make-requires-in-Stem
unfolding slot_rule on_function
make-requires-in-Stem c = rule_carries _ _ _ c.requires.0 c.requires.1 _ (grind arith)

pub on_fork-requires : goal.on_fork-requires
unfolding slot_rule on_function
on_fork-requires c = (c.requires.0, rule_carries _ _ _ c.requires.0 c.requires.1 _ (grind arith))
