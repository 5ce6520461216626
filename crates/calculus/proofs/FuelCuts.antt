-- Fuel m + n is fuel m, and then fuel n: by m, where only a run with no fuel left stops for want of it.
use Prim.Native.Nat.{ℕ, zero, suc, ◌+◌, ◌-◌}
use mathlib.Core.Path.{◌≡◌, refl, ap, ◌∙◌}
use mathlib.Core.Bool.{Bool, true, false, cond}
use mathlib.Core.List.{List, [], ◌∷◌, append_assoc, reverse-reverse}
use native.Mathlib.Nat.{zero-add, suc-add, sub-zero, sub-add-eq}
use lib.Dec.{ltb}
use lib.ListN.{length, length-append}
use Rattle.calculus.specs.Tree.{Tree}
use Rattle.calculus.specs.Rules.{TreeFrame, operand, argument, function, TreeAction, make, give, go, push, tree_rule}
use Rattle.calculus.specs.Machine.{MachineState, out_of_fuel, out_of_slots, out_of_places, MachineTurn, going, done, stop, machine_meet, machine_carry, machine_step}
use Rattle.calculus.specs.Machine.{Ending, ended, stopped, Outcome, stepped, proceed, run}
use Rattle.calculus.specs.Laws.{go_on, FuelCuts}

-- a turn that did not stop for want of fuel
abbrev pub Fuelled : MachineTurn → Type 0
Fuelled (going made s) = Unit {0}
Fuelled (done made t) = Unit {0}
Fuelled (stop out_of_fuel) = ⊥
Fuelled (stop out_of_slots) = Unit {0}
Fuelled (stop out_of_places) = Unit {0}

meet_fuelled : (made : List Tree) (t : Tree) (js : List TreeFrame) → Fuelled (machine_meet made t js)
unfolding machine_meet
meet_fuelled made t [] = tt
meet_fuelled made t (operand b x ∷ js) = tt
meet_fuelled made t (argument v ∷ js) = tt
meet_fuelled made t (function w ∷ js) = tt

tested : (b : Bool) (t u : MachineTurn) → Fuelled t → Fuelled u → Fuelled (cond b t u)
tested true t u h k = h
tested false t u h k = k

carry_fuelled : (free places : ℕ) (js : List TreeFrame) (a : TreeAction) → Fuelled (machine_carry free places js a)
unfolding machine_carry
carry_fuelled free places js (make t) = tested (ltb 0 free) _ _ (meet_fuelled (t ∷ []) t js) tt
carry_fuelled free places js (give t) = meet_fuelled [] t js
carry_fuelled free places js (go f x) = tt
carry_fuelled free places js (push f x j) = tested (ltb (length js) places) _ _ tt tt

pub step_fuelled : (free places : ℕ) (s : MachineState) → Fuelled (machine_step free places s)
unfolding machine_step
step_fuelled free places s = carry_fuelled free places s.frames (tree_rule s.f s.x)

-- a run that goes on with n more, by its own ending
abbrev further : ℕ → ℕ → ℕ → Outcome → Outcome
further n free places o = go_on n free places o o.ending

module _ (n free places : ℕ) where
  -- to go on after a step is to go on, with that step before it
  stepped_on : (made : List Tree) (o : Outcome) (e : Ending)
      → stepped made (go_on n (free - length made) places o e) ≡ go_on n free places (stepped made o) e
  stepped_on made o (ended t) = refl
  stepped_on made o (stopped out_of_slots f x js) = refl
  stepped_on made o (stopped out_of_places f x js) = refl
  stepped_on made o (stopped out_of_fuel f x js) = rw (length-append, sub-add-eq, suc-add, append_assoc)

  proceed_on : (m : ℕ) → ((k : ℕ) (s : MachineState) → run (m + n) k places s ≡ further n k places (run m k places s))
      → (s : MachineState) (t : MachineTurn) → Fuelled t
      → proceed (run (m + n)) free places s t ≡ further n free places (proceed (run m) free places s t)
  proceed_on m cuts s (going made s') h =
      let o = run m (free - length made) places s' in
      ap (stepped made) (cuts (free - length made) s') ∙ stepped_on made o o.ending
  proceed_on m cuts s (done made t) h = refl
  proceed_on m cuts s (stop out_of_fuel) h = absurd h
  proceed_on m cuts s (stop out_of_slots) h = refl
  proceed_on m cuts s (stop out_of_places) h = refl

-- a run goes on where it stopped for want of fuel
pub fuel_cuts : FuelCuts
unfolding run
fuel_cuts zero n free places s = rw (zero-add n, reverse-reverse, sub-zero, zero-add)
fuel_cuts (suc m) n free places s =
    rw (suc-add m n)
    (proceed_on n free places m (λ k s'. fuel_cuts m n k places s') s (machine_step free places s) (step_fuelled free places s))
