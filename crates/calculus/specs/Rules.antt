-- The seven rules: what applying f to x asks for.
use Rattle.calculus.specs.Tree.{Tree, leaf, stem, fork}

-- a continuation frame, the paper's job: what is done with the tree that comes next
pub data TreeFrame : Type 0 where
  -- "then b to x": the tree is the function, and its operand is b applied to x
  operand : Tree → Tree → TreeFrame
  -- "then the result to v": the tree is applied to v
  argument : Tree → TreeFrame
  -- "then w to the result": w is applied to the tree
  function : Tree → TreeFrame

pub data TreeAction : Type 0 where
  -- a new node
  make : Tree → TreeAction
  -- a tree that is there already
  give : Tree → TreeAction
  -- an application
  go : Tree → Tree → TreeAction
  -- an application, while a frame waits
  push : Tree → Tree → TreeFrame → TreeAction

unfoldable pub tree_rule : Tree → Tree → TreeAction
-- 1 to 3
tree_rule leaf x = make (stem x)
tree_rule (stem a) x = make (fork a x)
tree_rule (fork leaf a) x = give a
-- 4
tree_rule (fork (stem a) b) x = push a x (operand b x)
-- 5 to 7
tree_rule (fork (fork a b) c) leaf = give a
tree_rule (fork (fork a b) c) (stem u) = go b u
tree_rule (fork (fork a b) c) (fork u v) = push c u (argument v)
