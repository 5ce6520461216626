-- The seven rules on slots: what applying slot f to slot x asks for. The trees' own rules are calculus's `slot_rule`.
use Rattle.std.specs.Prelude.{List, ℕ}
use Rattle.table.specs.declared.slots.Slot.{Slot}
use Rattle.table.specs.declared.slots.Node.{Node}
use Rattle.table.specs.declared.slots.Node.TheVariants.{Leaf, Stem, Fork}
use Rattle.frames.specs.declared.Frame.{Frame}
use Rattle.frames.specs.declared.Frame.TheVariants.{Operand, Argument}
use Rattle.table.specs.Slots.{node_at}

-- what applying f to x asks for: a new node; a tree that is there already; an application; an application, while a
-- frame waits
pub data SlotAction : Type 0 where
  Make : Node → SlotAction
  Give : Slot → SlotAction
  Go : Slot → Slot → SlotAction
  Push : Slot → Slot → Frame → SlotAction

-- 5, 6 and 7, for what x is
unfoldable pub on_argument : Slot → Slot → Slot → Node → SlotAction
on_argument a b c Leaf = Give a
on_argument a b c (Stem u) = Go b u
on_argument a b c (Fork u v) = Push c u (Argument v)

-- 3, 4 and the rest, for what the fork's first child is
unfoldable pub on_fork : List ℕ → Node → Slot → Slot → SlotAction
on_fork w Leaf c x = Give c
on_fork w (Stem a) c x = Push a x (Operand c x)
on_fork w (Fork a b) c x = on_argument a b c (node_at w x.0)

-- 1, 2 and the rest, for what f is
unfoldable pub on_function : List ℕ → Node → Slot → SlotAction
on_function w Leaf x = Make (Stem x)
on_function w (Stem a) x = Make (Fork a x)
on_function w (Fork g c) x = on_fork w (node_at w g.0) c x

unfoldable pub slot_rule : List ℕ → Slot → Slot → SlotAction
slot_rule w f x = on_function w (node_at w f.0) x
