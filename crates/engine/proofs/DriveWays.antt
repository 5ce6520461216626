-- One turn of the run's loop, by what its step came to, and what the loop keeps.
use Prim.Native.Nat.{ℕ, zero, suc, ◌+◌, ◌-◌, ◌<◌}
use mathlib.Core.Path.{◌≡◌, ap, ◌∙◌, subst}
use mathlib.Core.List.{List}
use native.Mathlib.Omega.{arith}
use native.Mathlib.Numerals.{add-one, sub-one}
use lib.ListN.{length}
use Rattle.std.specs.Prelude.{Ok}
use Rattle.fuel.specs.declared.Fuel.{Fuel}
use Rattle.stepping.specs.declared.State.{State}
use Rattle.stepping.specs.declared.Turn.{Turn}
use Rattle.stepping.specs.declared.Turn.TheVariants.{Going, Done, Stopped}
use Rattle.stepping.specs.declared.stops.Stop.{Stop}
use Rattle.stepping.specs.Stops.{stops_with}
use Rattle.engine.specs.declared.Ending.{Ending}
use Rattle.stepping.specs.Step.{at, step}
use Rattle.stepping.proofs.Keeps.{LeftBy, slots_below, step_left}
use Rattle.table.proofs.SlotLaws.{room_most}
use Rattle.table.specs.declared.slots.Slot.{Slot}
use Rattle.table.specs.Limits.{max_slots}
use Rattle.stepping.specs.Ready.{Runnable, Waits}
use Rattle.engine.specs.Run.{ran, finished, stopped, resume_as, resume, drive}

-- the fuel is spent
pub drive_none : (w j : List ℕ) (s : State) (n k : ℕ) (r : Ending ℕ) → n ≡ 0 → r ≡ stopped 31 s k →
    ran w j (Ok r) ≡ drive n k w j s
unfolding drive
drive_none w j s n k r h e = rw (h, e)

drive_step : (w j : List ℕ) (s : State) (w' j' : List ℕ) (t : Turn) (n k : ℕ) → 0 < n → at w' j' t ≡ step w j s →
    resume_as (drive (n - 1)) k s w' j' t ≡ drive n k w j s
unfolding drive
drive_step w j s w' j' t zero k h e = absurd (omega arith)
drive_step w j s w' j' t (suc n) k h e = (rw sub-one) ∙ ap (resume (drive n) k s) e

-- a step was taken
module _ (w j : List ℕ) (s : State) (w' j' : List ℕ) (t : Turn) (n k : ℕ) (some : 0 < n)
    (e : at w' j' t ≡ step w j s) where
  turned : (u : Turn) → t ≡ u → resume_as (drive (n - 1)) k s w' j' u ≡ drive n k w j s
  turned u h = rw (← h) (drive_step w j s w' j' t n k some e)

  -- and the run goes on,
  pub drive_going : {next : State} → t ≡ Going next → drive (n - 1) (k + 1) w' j' next ≡ drive n k w j s
  drive_going h = (rw add-one) ∙ turned (Going _) h

  module _ (r : Ending ℕ) where
    -- is done, or stops
    pub drive_done : {a : Slot} {m used : ℕ} → t ≡ Done a used → m ≡ k + 1 → r ≡ finished a m used → ran w' j' (Ok r) ≡ drive n k w j s
    drive_done h em er = (rw (er, em, add-one)) ∙ turned (Done _ _) h

    pub drive_stopped : {why : Stop} → t ≡ Stopped why → r ≡ stopped (stops_with why) s k → ran w' j' (Ok r) ≡ drive n k w j s
    drive_stopped h er = (rw er) ∙ turned (Stopped _) h

-- the result of a step that may be taken is a slot
pub result_below : (w j : List ℕ) (s : State) (w' j' : List ℕ) (t : Turn) (a : Slot) (used : ℕ) → Runnable w s → Waits j s.used s.waiting →
    at w' j' t ≡ step w j s → t ≡ Done a used → a.0 < max_slots
result_below w j s w' j' t a used ready waits e h =
    let (slots, l) = subst (LeftBy w' j') h (step_left w j s ready waits w' j' t e) in
    omega (arith, l, slots.fits, room_most w')

-- what the loop keeps: the rest of the run from here is the whole run, and the next step may be taken
pub record Driven (w₀ j₀ : List ℕ) (s₀ : State) (fuel : Fuel) (w j : List ℕ) (s : State) (rest : Fuel) : Type 0 where
  pub same : drive rest.left rest.spent w j s ≡ drive fuel.left fuel.spent w₀ j₀ s₀
  pub ready : Runnable w s
  pub waits : Waits j s.used s.waiting
  pub sum : rest.left + rest.spent ≡ fuel.left + fuel.spent
  pub words_long : length w ≡ length w₀
  pub jobs_long : length j ≡ length j₀

-- before the end there is fuel, and at the end there is none
module _ {w₀ j₀ : List ℕ} {s₀ : State} {fuel : Fuel} {w j : List ℕ} {s : State} {rest : Fuel}
    (driven : Driven w₀ j₀ s₀ fuel w j s rest) where
  pub some_left : (rest.spent ≡ fuel.left + fuel.spent → ⊥) → 0 < rest.left
  some_left h = omega (arith, h, driven.sum)

  pub none_left : rest.spent ≡ fuel.left + fuel.spent → rest.left ≡ 0
  none_left h = omega (arith, driven.sum)

-- what the loop's stops and the slots that it tells come to
pub ruleset turns = (slots_below, result_below, some_left, none_left, drive_none, drive_stopped)
