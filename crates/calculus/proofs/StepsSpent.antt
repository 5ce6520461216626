-- The steps of a run are the fuel that it spent: by the fuel.
use Prim.Native.Nat.{ℕ, zero, suc, ◌-◌, ◌≤◌, ◌<◌}
use mathlib.Core.Path.{◌≡◌, refl, ap}
use native.Mathlib.Omega.{arith}
use lib.ListN.{length}
use Rattle.calculus.specs.Tree.{Tree}
use Rattle.calculus.specs.Machine.{MachineState, Stop, out_of_fuel, out_of_slots, out_of_places, MachineTurn, going, done, stop, machine_step, Outcome, run}
use Rattle.calculus.specs.Machine.{ended, halted, last_step, stepped, proceed}
use Rattle.calculus.specs.Laws.{RunsOut, StepsSpent}
use Rattle.calculus.proofs.FuelCuts.{Fuelled, step_fuelled}

-- what is said of an outcome with so much fuel, where other fuel comes to `with`
abbrev Spent : ℕ → (ℕ → Outcome) → Outcome → Type 0
Spent fuel with o =
    (o.steps ≤ fuel) × (RunsOut o → o.steps ≡ fuel) × ((less : ℕ) → less < o.steps → RunsOut (with less)) ×
    ((t : Tree) → o.ending ≡ ended t → with o.steps ≡ o) × ((RunsOut o → ⊥) → with (suc o.steps) ≡ o)

-- a run that stops at once
module _ (why : Stop) (s : MachineState) where
  not_ended : (t : Tree) → (halted why s).ending ≡ ended t → ⊥
  not_ended t q = let z : ◌≡◌ {A = ℕ} 0 1 = cc in omega arith

  for_want : RunsOut (halted why s) → why ≡ out_of_fuel
  for_want (f, x, js, q) = cc

  spent_at_once : (fuel : ℕ) (with : ℕ → Outcome) → (why ≡ out_of_fuel → fuel ≡ 0) →
      ((RunsOut (halted why s) → ⊥) → with 1 ≡ halted why s) → Spent fuel with (halted why s)
  spent_at_once fuel with none one = (
    omega arith,
    λ out. (let e = none (for_want out) in omega arith),
    λ n l. absurd (omega arith),
    λ t q. absurd (not_ended t q),
    one,
  )

slot_other : out_of_slots ≡ out_of_fuel → ⊥
slot_other q = let z : ◌≡◌ {A = ℕ} 0 1 = cc in omega arith

place_other : out_of_places ≡ out_of_fuel → ⊥
place_other q = let z : ◌≡◌ {A = ℕ} 0 1 = cc in omega arith

module _ (free places : ℕ) (s : MachineState) where
  abbrev with : ℕ → Outcome
  with n = run n free places s

  -- with no fuel it stops at once for want of it
  at_once : RunsOut (with 0)
  unfolding run
  at_once = (s.f, s.x, _, refl)

  no_fuel_spent : Spent 0 with (with 0)
  unfolding run
  no_fuel_spent = spent_at_once out_of_fuel s 0 with (λ _. refl) (λ never. absurd (never at_once))

  module _ (fuel : ℕ) (later : (k : ℕ) (s' : MachineState) → Spent fuel (λ n. run n k places s') (run fuel k places s')) where
    -- by what its first step comes to
    by_turn : (t : MachineTurn) → Fuelled t → machine_step free places s ≡ t → Spent (suc fuel) with (proceed (run fuel) free places s t)
    unfolding run
    by_turn (going made s') h e =
        let (most, all, less, whole, other) = later (free - length made) s' in (
          omega (arith, most),
          λ out. ap suc (all out),
          fewer less,
          λ t q. rw e (ap (stepped made) (whole t q)),
          λ never. rw e (ap (stepped made) (other never)),
        )
      where
        fewer : ((n : ℕ) → n < (run fuel (free - length made) places s').steps → RunsOut (run n (free - length made) places s')) →
            (n : ℕ) → n < suc (run fuel (free - length made) places s').steps → RunsOut (with n)
        fewer less zero l = at_once
        fewer less (suc n) l = rw e (less n (omega arith))
    by_turn (done made t) h e = (omega arith, never, fewer, λ t q. rw e refl, λ _. rw e refl)
      where
        never : RunsOut (last_step made t) → 1 ≡ suc fuel
        never (f, x, js, q) = let z : ◌≡◌ {A = ℕ} 0 1 = cc in absurd (omega arith)

        fewer : (n : ℕ) → n < 1 → RunsOut (with n)
        fewer zero l = at_once
        fewer (suc n) l = absurd (omega arith)
    by_turn (stop out_of_fuel) h e = absurd h
    by_turn (stop out_of_slots) h e = spent_at_once out_of_slots s (suc fuel) with (λ q. absurd (slot_other q)) (λ _. rw e refl)
    by_turn (stop out_of_places) h e = spent_at_once out_of_places s (suc fuel) with (λ q. absurd (place_other q)) (λ _. rw e refl)

pub steps_spent : StepsSpent
unfolding run
steps_spent zero free places s = no_fuel_spent free places s
steps_spent (suc fuel) free places s =
    by_turn free places s fuel (λ k s'. steps_spent fuel k places s') (machine_step free places s) (step_fuelled free places s) refl
