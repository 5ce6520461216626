-- The plain engine's rules are the run's: the same seven, in other words.
use Prim.Native.Nat.{ℕ, ◌<◌}
use mathlib.Core.Path.{◌≡◌, refl, sym, subst}
use mathlib.Core.List.{List}
use Rattle.table.specs.declared.slots.Slot.{Slot}
use Rattle.table.specs.declared.slots.Node.{Node}
use Rattle.table.specs.declared.slots.Node.TheVariants.{Leaf, Stem, Fork}
use Rattle.frames.specs.declared.Frame.TheVariants.{Operand, Argument}
use Rattle.table.specs.Slots.{node_at}
use Rattle.table.specs.Sound.{SlotsPass}
use Rattle.stepping.specs.Rules.{SlotAction, on_argument, on_fork, on_function}
use Rattle.stepping.specs.Rules as run
use Rattle.stepping.specs.Ready.{Asks}
use Rattle.stepping.proofs.Keeps.{rule_asks}
use Rattle.applying.specs.declared.Task.{Task}
use Rattle.applying.specs.declared.Task.TheVariants.{Make, Give, Go, Both, Then}
use Rattle.applying.specs.Rules.{rules, first_child, rule}
use Rattle.applying.specs.Fit.{TaskNames}

-- what the run's rule asks for where the plain engine's leaves a task
abbrev pub action : Task → SlotAction
action (Make n) = run.Make n
action (Give t) = run.Give t
action (Go f x) = run.Go f x
action (Both a b x) = run.Push a x (Operand b x)
action (Then c u v) = run.Push c u (Argument v)

module _ (w : List ℕ) (x : Slot) where
  same_argument : (s c a b : Slot) (n : Node) → action (rules (Fork s c) (Fork a b) n x) ≡ on_argument a b c n
  unfolding rules on_argument
  same_argument s c a b Leaf = refl
  same_argument s c a b (Stem u) = refl
  same_argument s c a b (Fork u v) = refl

  same_fork : (s c : Slot) (g : Node) → action (rules (Fork s c) g (node_at w x.0) x) ≡ on_fork w g c x
  unfolding rules on_fork
  same_fork s c Leaf = refl
  same_fork s c (Stem a) = refl
  same_fork s c (Fork a b) = same_argument s c a b (node_at w x.0)

  same_function : (n : Node) → action (rules n (node_at w (first_child n)) (node_at w x.0) x) ≡ on_function w n x
  unfolding rules on_function
  same_function Leaf = refl
  same_function (Stem a) = refl
  same_function (Fork s c) = same_fork s c (node_at w s.0)

pub same_rule : (w : List ℕ) (f x : Slot) → action (rule w f x) ≡ run.slot_rule w f x
unfolding rule run.slot_rule
same_rule w f x = same_function w x (node_at w f.0)

-- a task names what its action does
task_names : (used : ℕ) (task : Task) → Asks used (action task) → TaskNames used task
task_names used (Make n) h = h
task_names used (Give t) h = h
task_names used (Go f x) h = h
task_names used (Both a b x) h = (h.0, h.2.0, h.1)
task_names used (Then c u v) h = h

-- the plain engine's rule on used slots names nothing but used slots
pub rule_names : (w : List ℕ) (f x : Slot) (used : ℕ) → SlotsPass w used → f.0 < used → x.0 < used → TaskNames used (rule w f x)
rule_names w f x used slots hf hx =
    task_names used (rule w f x)
    (subst (Asks used) (sym (same_rule w f x))
    (rule_asks w (record { f = f; x = x; used = used; waiting = 0 }) (record { slots = slots; f = hf; x = hx })))
