-- Placing from the start is placing from the slots and the count of each turn on.
use Prim.Native.Nat.{◌-◌}
use mathlib.Core.Path.{◌≡◌}
use Rattle.placing.specs.Placing.{placing}
use Rattle.placing.proofs.place.Given as goal

abbrev pub invariant-loop-k : goal.invariant-loop-k
invariant-loop-k l =
    placing l.n l.links l.n (record { slots = l.initial.slots; count = 0 })
    ≡ placing (l.n - l.k) l.links l.n (record { slots = l.slots; count = l.k })
