-- The trees of the triage calculus.

pub data Tree : Type 0 where
  leaf : Tree
  stem : Tree → Tree
  fork : Tree → Tree → Tree
