-- A run that is done stays done: a step that did not stop is the same with more slots and places, and then by the fuel.
use Prim.Native.Nat.{ℕ, zero, suc, ◌-◌, ◌≤◌}
use mathlib.Core.Path.{◌≡◌, refl, ap}
use mathlib.Core.Bool.{Bool, true, false, cond}
use mathlib.Core.List.{List, []}
use native.Mathlib.Omega.{arith}
use borrow.Author.Tests.{lt-ltb, ltb-true}
use lib.Dec.{ltb}
use lib.ListN.{length}
use Rattle.calculus.specs.Tree.{Tree}
use Rattle.calculus.specs.Rules.{TreeFrame, TreeAction, make, give, go, push, tree_rule}
use Rattle.calculus.specs.Machine.{MachineState, Stop, out_of_slots, out_of_places, MachineTurn, going, done, stop, machine_meet, machine_carry, machine_step}
use Rattle.calculus.specs.Machine.{ended, stopped, Outcome, stepped, proceed, run}
use Rattle.calculus.specs.Laws.{MachineDoneStays}

-- a run that stopped is not done
pub not_done : {A : Type 0} {n : Stop} {f x t : Tree} {js : List TreeFrame} → stopped n f x js ≡ ended t → A
not_done e = let z : ◌≡◌ {A = ℕ} 0 1 = cc in absurd (omega arith)

-- a turn that did not stop, and the same turn
abbrev pub Stays : MachineTurn → MachineTurn → Type 0
Stays (going made s) u = u ≡ going made s
Stays (done made t) u = u ≡ done made t
Stays (stop n) u = Unit {0}

stays : (t : MachineTurn) → Stays t t
stays (going made s) = refl
stays (done made t) = refl
stays (stop n) = tt

tested : (b c : Bool) (t : MachineTurn) (n : Stop) → (b ≡ true → c ≡ true) → Stays (cond b t (stop n)) (cond c t (stop n))
tested true c t n h = rw (h refl) (stays t)
tested false c t n h = tt

module _ (free free' places places' : ℕ) (slots : free ≤ free') (room : places ≤ places') where
  carry_stays : (js : List TreeFrame) (a : TreeAction) → Stays (machine_carry free places js a) (machine_carry free' places' js a)
  unfolding machine_carry
  carry_stays js (make t) =
      tested (ltb 0 free) (ltb 0 free') _ out_of_slots
      (λ e. lt-ltb 0 free' (omega (arith, ltb-true 0 free e)))
  carry_stays js (give t) = stays (machine_meet [] t js)
  carry_stays js (go f x) = refl
  carry_stays js (push f x j) =
      tested (ltb (length js) places) (ltb (length js) places') _ out_of_places
      (λ e. lt-ltb (length js) places' (omega (arith, ltb-true (length js) places e)))

  -- a step that did not stop is the same with more slots and places
  pub step_stays : (s : MachineState) → Stays (machine_step free places s) (machine_step free' places' s)
  unfolding machine_step
  step_stays s = carry_stays s.frames (tree_rule s.f s.x)

  module _ (rest rest' : ℕ → ℕ → MachineState → Outcome) (r : Tree)
      (same : (n n' : ℕ) (s : MachineState) → (rest n places s).ending ≡ ended r → n ≤ n'
      → rest' n' places' s ≡ rest n places s)
      (s : MachineState) where
    proceed_stays : (t u : MachineTurn) → Stays t u → (proceed rest free places s t).ending ≡ ended r
        → proceed rest' free' places' s u ≡ proceed rest free places s t
    proceed_stays (going made s') u h e =
        rw h (ap (stepped made) (same (free - length made) (free' - length made) s' e (omega arith)))
    proceed_stays (done made t) u h e = rw h
    proceed_stays (stop n) u h e = not_done e

-- more of everything: the same outcome
pub done_stays : MachineDoneStays
unfolding run
done_stays zero fuel' free free' places places' s t e h k l = not_done e
done_stays (suc fuel) zero free free' places places' s t e h k l = absurd (omega arith)
done_stays (suc fuel) (suc fuel') free free' places places' s t e h k l =
    proceed_stays free free' places places' k l (run fuel) (run fuel') t
    (λ n n' s' e' k'. done_stays fuel fuel' n n' places places' s' t e' (omega arith) k' l)
    s (machine_step free places s) (machine_step free' places' s) (step_stays free free' places places' k l s) e
