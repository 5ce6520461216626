-- The items that are left, from each turn on, end where all of them do.
use Prim.Native.Nat.{◌-◌}
use mathlib.Core.Path.{◌≡◌}
use Rattle.manifest_shape.specs.Shape.{items_end}
use Rattle.manifest_shape.proofs.parts.items_end.Given as goal

abbrev pub invariant-loop : goal.invariant-loop
invariant-loop l = items_end l.s l.kind l.n l.at ≡ items_end l.s l.kind (l.n - l.counter) l.end
