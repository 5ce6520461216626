-- How many slots and places a run can want: by the fuel, as a step makes at most one node and adds at most one frame.
use Prim.Native.Nat.{ℕ, zero, suc, ◌-◌, ◌≤◌}
use mathlib.Core.Path.{◌≡◌, sym, ap, ◌∙◌}
use mathlib.Core.Bool.{cond}
use mathlib.Core.List.{List, [], ◌∷◌}
use native.Mathlib.Omega.{arith}
use native.Mathlib.Decide.{dec_lt}
use borrow.Author.Tests.{lt-ltb, le-ltb}
use lib.Dec.{ltb}
use lib.ListN.{length, length-append, length-reverse}
use Rattle.calculus.specs.Tree.{Tree}
use Rattle.calculus.specs.Rules.{TreeFrame, operand, argument, function, TreeAction, make, give, go, push, tree_rule}
use Rattle.calculus.specs.Machine.{MachineState, Stop, out_of_fuel, out_of_slots, out_of_places, MachineTurn, going, done, stop, machine_meet, machine_carry, machine_step}
use Rattle.calculus.specs.Machine.{Ending, ended, stopped, halted, proceed, run}
use Rattle.calculus.specs.Laws.{WithinAllowance, AllowanceBounds}

-- a turn from some frames, by what it makes and adds, or wants
module _ (free places : ℕ) (js : List TreeFrame) where
  abbrev Modest : MachineTurn → Type 0
  Modest (going made s) = (length made ≤ 1) × (length s.frames ≤ suc (length js))
  Modest (done made t) = length made ≤ 1
  Modest (stop out_of_fuel) = ⊥
  Modest (stop out_of_slots) = free ≡ 0
  Modest (stop out_of_places) = places ≤ length js

  tested : (m n : ℕ) (t : MachineTurn) (want : Stop) → Modest t → (n ≤ m → Modest (stop want)) → Modest (cond (ltb m n) t (stop want))
  tested m n t want h k =
      elim (dec_lt m n) [
        | yes l ↦ rw (lt-ltb m n l) h
        | no l ↦ let o : n ≤ m = omega (arith, l) in rw (le-ltb m n o) (k o)
      ]

meet_modest : (free places : ℕ) (js : List TreeFrame) (made : List Tree) (t : Tree) → length made ≤ 1 → Modest free places js (machine_meet made t js)
unfolding machine_meet
meet_modest free places [] made t h = h
meet_modest free places (operand b x ∷ js) made t h = (h, omega arith)
meet_modest free places (argument v ∷ js) made t h = (h, omega arith)
meet_modest free places (function w ∷ js) made t h = (h, omega arith)

carry_modest : (free places : ℕ) (js : List TreeFrame) (a : TreeAction) → Modest free places js (machine_carry free places js a)
unfolding machine_carry
carry_modest free places js (make t) =
    tested free places js 0 free _ out_of_slots (meet_modest free places js (t ∷ []) t (omega arith)) (λ l. omega (arith, l))
carry_modest free places js (give t) = meet_modest free places js [] t (omega arith)
carry_modest free places js (go f x) = (omega arith, omega arith)
carry_modest free places js (push f x j) =
    tested free places js (length js) places _ out_of_places (omega arith, omega arith) (λ l. l)

-- endings that differ, and what is left of one that is the same
other : {A : Type 0} → ◌≡◌ {A = ℕ} 0 1 → A
other e = absurd (omega arith)

abbrev frames_of : Ending → List TreeFrame
frames_of (ended t) = []
frames_of (stopped why f x js) = js

left : (s : MachineState) (n why : Stop) (f x : Tree) (js : List TreeFrame) →
    (halted n s).ending ≡ stopped why f x js → length js ≡ length s.frames
left s n why f x js e = sym (ap (λ (d : Ending). length (frames_of d)) e) ∙ length-reverse s.frames

module _ (fuel free places : ℕ) (s : MachineState)
    (later : (k : ℕ) (s' : MachineState) → WithinAllowance fuel k places (length s'.frames) (run fuel k places s')) where
  by_turn : (t : MachineTurn) → Modest free places s.frames t →
      WithinAllowance (suc fuel) free places (length s.frames) (proceed (run fuel) free places s t)
  by_turn (going made s') (few, more) =
      let (nodes, wait, slots, room) = later (free - length made) s' in (
        rw length-append (omega (arith, nodes, few)),
        λ why f x js e. omega (arith, wait why f x js e, more),
        λ f x js e. omega (arith, slots f x js e, few),
        λ f x js e. omega (arith, room f x js e, more),
      )
  by_turn (done made t) few = (omega (arith, few), λ why f x js e. other cc, λ f x js e. other cc, λ f x js e. other cc)
  by_turn (stop out_of_fuel) h = absurd h
  by_turn (stop out_of_slots) h =
      (omega arith, λ why f x js e. omega (arith, left s out_of_slots why f x js e), λ f x js e. omega (arith, h), λ f x js e. other cc)
  by_turn (stop out_of_places) h =
      (omega arith, λ why f x js e. omega (arith, left s out_of_places why f x js e), λ f x js e. other cc, λ f x js e. omega (arith, h))

pub allowance_bounds : AllowanceBounds
unfolding run machine_step
allowance_bounds zero free places s =
    (omega arith, λ why f x js e. omega (arith, left s out_of_fuel why f x js e), λ f x js e. other cc, λ f x js e. other cc)
allowance_bounds (suc fuel) free places s =
    by_turn fuel free places s (λ k s'. allowance_bounds fuel k places s') (machine_step free places s)
    (carry_modest free places s.frames (tree_rule s.f s.x))
