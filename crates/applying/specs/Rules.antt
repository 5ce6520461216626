-- The seven rules on slots, in their order: what applying slot f to slot x leaves to be done.
use Rattle.std.specs.Prelude.{ℕ, List}
use Rattle.table.specs.declared.slots.Slot.{Slot}
use Rattle.table.specs.declared.slots.Node.{Node}
use Rattle.table.specs.declared.slots.Node.TheVariants.{Leaf, Stem, Fork}
use Rattle.table.specs.Slots.{node_at}
use Rattle.applying.specs.declared.Task.{Task}
use Rattle.applying.specs.declared.Task.TheVariants.{Make, Give, Go, Both, Then}

-- by the node f, the first child of f, the node x, and x
unfoldable pub rules : Node → Node → Node → Slot → Task
-- 1. f leaf: make stem x
rules Leaf g n x = Make (Stem x)
-- 2. f stem a: make fork a x
rules (Stem a) g n x = Make (Fork a x)
-- 3. f fork(leaf, a): give a
rules (Fork s a) Leaf n x = Give a
-- 4. f fork(stem a, b): a to x, then b to x, then the one to the other
rules (Fork s b) (Stem a) n x = Both a b x
-- 5. f fork(fork(a, b), c), x leaf: give a
rules (Fork s c) (Fork a b) Leaf x = Give a
-- 6. the same f, x stem u: b to u
rules (Fork s c) (Fork a b) (Stem u) x = Go b u
-- 7. the same f, x fork(u, v): c to u, then the result to v
rules (Fork s c) (Fork a b) (Fork u v) x = Then c u v

-- the slot of a node's first child; a leaf has none, and no rule asks for it
abbrev pub first_child : Node → ℕ
first_child Leaf = 0
first_child (Stem a) = a.0
first_child (Fork a b) = a.0

unfoldable pub rule : List ℕ → Slot → Slot → Task
rule w f x = rules (node_at w f.0) (node_at w (first_child (node_at w f.0))) (node_at w x.0) x
