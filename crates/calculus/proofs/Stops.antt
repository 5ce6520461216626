-- A run stops before its first step exactly where document 01's line says so, and with its numbers.
use Prim.Native.Nat.{ℕ, zero, suc, ◌≤◌}
use mathlib.Core.Path.{◌≡◌, refl, ap, subst}
use mathlib.Core.Bool.{cond}
use mathlib.Core.List.{List, [], ◌∷◌}
use mathlib.Core.Logic.{◌↔◌}
use native.Mathlib.Omega.{arith}
use native.Mathlib.Decide.{dec_lt}
use borrow.Author.Tests.{lt-ltb, le-ltb}
use lib.Dec.{ltb}
use lib.ListN.{length}
use Rattle.calculus.specs.Tree.{Tree, leaf, stem, fork}
use Rattle.calculus.specs.Rules.{TreeFrame, operand, argument, function, tree_rule}
use Rattle.calculus.specs.Machine.{MachineState, Stop, out_of_fuel, out_of_slots, out_of_places, MachineTurn, going, done, stop, machine_meet, machine_carry, machine_step}
use Rattle.calculus.specs.Machine.{stop_number, Ending, ended, stopped, Outcome, halted, proceed, run}
use Rattle.calculus.specs.Laws.{StopsAt, fuel_out, slot_for_1, slot_for_2, place_for_4, place_for_7, StopsExactly}
use Rattle.calculus.specs.Laws.{StopNumbers}

-- why a run ended without being done
abbrev reason : Ending → Stop
reason (ended t) = out_of_fuel
reason (stopped why f x js) = why

abbrev Stops : MachineTurn → Stop → Type 0
Stops (going made s) why = ⊥
Stops (done made t) why = ⊥
Stops (stop n) why = n ≡ why

-- a run that comes to nothing is one whose first turn stops
turn_exactly : (rest : ℕ → ℕ → MachineState → Outcome) (free places : ℕ) (s : MachineState) (t : MachineTurn) (why : Stop) →
    (proceed rest free places s t ≡ halted why s) ↔ Stops t why
turn_exactly rest free places s (going made n) why = (λ e. omega (arith, ap (λ (o : Outcome). o.steps) e), λ h. absurd h)
turn_exactly rest free places s (done made t) why = (λ e. omega (arith, ap (λ (o : Outcome). o.steps) e), λ h. absurd h)
turn_exactly rest free places s (stop n) why =
    (λ e. ap (λ (o : Outcome). reason o.ending) e, λ e. ap (λ (w : Stop). halted w s) e)

-- a tree that meets a frame stops nothing
meets : (made : List Tree) (t : Tree) (js : List TreeFrame) (why : Stop) → Stops (machine_meet made t js) why → ⊥
unfolding machine_meet
meets made t [] why h = h
meets made t (operand b x ∷ js) why h = h
meets made t (argument v ∷ js) why h = h
meets made t (function w ∷ js) why h = h

-- what is tested before it is done: m is below n, or `t` stops for want
tested : (m n : ℕ) (t : MachineTurn) (want why : Stop) → (Stops t why → ⊥) →
    Stops (cond (ltb m n) t (stop want)) why ↔ ((n ≤ m) × (want ≡ why))
tested m n t want why goes = elim (dec_lt m n) [
  | yes l ↦ rw (lt-ltb m n l) (λ h. absurd (goes h), λ h. absurd (omega (arith, h.0)))
  | no k ↦ let l : n ≤ m = omega (arith, k) in rw (le-ltb m n l) (λ e. (l, e), λ h. h.1)
]

module _ (fuel free places : ℕ) where
  stops_so : (f x : Tree) (js : List TreeFrame) (why : Stop) → Stops (machine_carry free places js (tree_rule f x)) why →
      StopsAt (suc fuel) free places f x js why
  unfolding machine_carry tree_rule
  stops_so leaf x js why h =
      let (l, e) = (tested 0 free _ out_of_slots why (meets _ _ js why)).0 h in
      subst (StopsAt (suc fuel) free places leaf x js) e (slot_for_1 (omega arith) (omega (arith, l)))
  stops_so (stem a) x js why h =
      let (l, e) = (tested 0 free _ out_of_slots why (meets _ _ js why)).0 h in
      subst (StopsAt (suc fuel) free places (stem a) x js) e (slot_for_2 (omega arith) (omega (arith, l)))
  stops_so (fork leaf a) x js why h = absurd (meets [] a js why h)
  stops_so (fork (stem a) b) x js why h =
      let (l, e) = (tested (length js) places _ out_of_places why (λ k. k)).0 h in
      subst (StopsAt (suc fuel) free places (fork (stem a) b) x js) e (place_for_4 (omega arith) l)
  stops_so (fork (fork a b) c) leaf js why h = absurd (meets [] a js why h)
  stops_so (fork (fork a b) c) (stem u) js why h = absurd h
  stops_so (fork (fork a b) c) (fork u v) js why h =
      let (l, e) = (tested (length js) places _ out_of_places why (λ k. k)).0 h in
      subst (StopsAt (suc fuel) free places (fork (fork a b) c) (fork u v) js) e (place_for_7 (omega arith) l)

  so_stops : (f x : Tree) (js : List TreeFrame) (why : Stop) → StopsAt (suc fuel) free places f x js why →
      Stops (machine_carry free places js (tree_rule f x)) why
  unfolding machine_carry tree_rule
  so_stops f x js _ (fuel_out z) = absurd (omega arith)
  so_stops _ x js _ (slot_for_1 g z) = (tested 0 free _ out_of_slots out_of_slots (meets _ _ js out_of_slots)).1 (omega arith, refl)
  so_stops _ x js _ (slot_for_2 g z) = (tested 0 free _ out_of_slots out_of_slots (meets _ _ js out_of_slots)).1 (omega arith, refl)
  so_stops _ x js _ (place_for_4 g l) = (tested (length js) places _ out_of_places out_of_places (λ k. k)).1 (l, refl)
  so_stops _ _ js _ (place_for_7 g l) = (tested (length js) places _ out_of_places out_of_places (λ k. k)).1 (l, refl)

-- with no fuel there is no other reason
unfuelled : {free places : ℕ} {f x : Tree} {js : List TreeFrame} {why : Stop} → StopsAt 0 free places f x js why → out_of_fuel ≡ why
unfuelled (fuel_out z) = refl
unfuelled (slot_for_1 g z) = absurd (omega arith)
unfuelled (slot_for_2 g z) = absurd (omega arith)
unfuelled (place_for_4 g l) = absurd (omega arith)
unfuelled (place_for_7 g l) = absurd (omega arith)

pub stops_exactly : StopsExactly
unfolding run machine_step
stops_exactly zero free places s why = (
  λ e. subst (StopsAt 0 free places s.f s.x s.frames) (ap (λ (o : Outcome). reason o.ending) e) (fuel_out refl),
  λ h. ap (λ (w : Stop). halted w s) (unfuelled h),
)
stops_exactly (suc fuel) free places s why =
    let turn = turn_exactly (run fuel) free places s (machine_step free places s) why in (
      λ e. stops_so fuel free places s.f s.x s.frames why (turn.0 e),
      λ h. turn.1 (so_stops fuel free places s.f s.x s.frames why h),
    )

pub stop_numbers : StopNumbers
stop_numbers = (refl, refl, refl)

-- a stop's number is no 0, and tells its reason
pub stop_above : (why : Stop) → stop_number why ≡ 0 → ⊥
stop_above out_of_fuel e = omega arith
stop_above out_of_slots e = omega arith
stop_above out_of_places e = omega arith

pub one_reason : (why other : Stop) → stop_number why ≡ stop_number other → why ≡ other
one_reason out_of_fuel out_of_fuel e = refl
one_reason out_of_fuel out_of_slots e = absurd (omega arith)
one_reason out_of_fuel out_of_places e = absurd (omega arith)
one_reason out_of_slots out_of_fuel e = absurd (omega arith)
one_reason out_of_slots out_of_slots e = refl
one_reason out_of_slots out_of_places e = absurd (omega arith)
one_reason out_of_places out_of_fuel e = absurd (omega arith)
one_reason out_of_places out_of_slots e = absurd (omega arith)
one_reason out_of_places out_of_places e = refl
