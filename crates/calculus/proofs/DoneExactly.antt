-- The machine is done with t exactly when the seven rules give t: at their cost.
use mathlib.Core.Path.{refl, ap}
use lib.ListN.{length}
use native.Mathlib.Nat.{le_refl}
use Rattle.calculus.specs.Machine.{machine_start, Outcome, run}
use Rattle.calculus.specs.Laws.{DoneExactly}
use Rattle.calculus.proofs.Costs.{costs_exactly}
use Rattle.calculus.proofs.DoneByCost.{done_by_cost}

pub done_exactly : DoneExactly
done_exactly f x t = (
  λ (fuel, free, places, e).
      let o = run fuel free places (machine_start f x) in
      let (k, c, steps, slots, places-do) = (done_by_cost fuel free places o.steps (length o.made) f x t).0
      (o.made, refl, λ i. record { ending = e i; steps = o.steps; made = o.made })
      in
      (costs_exactly f x t).1 (_, _, k, c),
  λ d.
      let (n, m, k, c) = (costs_exactly f x t).0 d in
      let (made, l, e) = (done_by_cost n m k n m f x t).1 (k, c, le_refl _, le_refl _, le_refl _) in
      (n, m, k, ap (λ (o : Outcome). o.ending) e),
)
