-- The reference machine, the paper machine: it applies trees with an allowance of fuel, free slots and places for
-- frames.
use Rattle.std.specs.Prelude.{ℕ, zero, suc, ◌-◌, cond, List, [], ◌∷◌, ◌++◌, reverse, length, ltb}
use Rattle.calculus.specs.Tree.{Tree}
use Rattle.calculus.specs.Rules.{TreeFrame, operand, argument, function, TreeAction, make, give, go, push, tree_rule}

-- f is to be applied to x; the frames wait, newest first
pub record MachineState : Type 0 where
  pub f : Tree
  pub x : Tree
  pub frames : List TreeFrame

-- a run starts with no frame
abbrev pub machine_start : Tree → Tree → MachineState
machine_start f x = record { f = f; x = x; frames = [] }

-- why a machine stops before it is done
pub data Stop : Type 0 where
  out_of_fuel : Stop
  out_of_slots : Stop
  out_of_places : Stop

-- the paper's numbers
abbrev pub stop_number : Stop → ℕ
stop_number out_of_fuel = 31
stop_number out_of_slots = 32
stop_number out_of_places = 33

-- what one step leaves, with the nodes that it made: one or none
pub data MachineTurn : Type 0 where
  going : List Tree → MachineState → MachineTurn
  done : List Tree → Tree → MachineTurn
  stop : Stop → MachineTurn

-- a tree given or made meets the newest frame, at no cost
unfoldable pub machine_meet : List Tree → Tree → List TreeFrame → MachineTurn
machine_meet made t [] = done made t
machine_meet made t (operand b x ∷ js) = going made (record { f = b; x = x; frames = function t ∷ js })
machine_meet made t (argument v ∷ js) = going made (record { f = t; x = v; frames = js })
machine_meet made t (function w ∷ js) = going made (record { f = w; x = t; frames = js })

-- what the rule asks for is done, if there is a slot or a place left for it
unfoldable pub machine_carry : ℕ → ℕ → List TreeFrame → TreeAction → MachineTurn
machine_carry free places js (make t) = cond (ltb 0 free) (machine_meet (t ∷ []) t js) (stop out_of_slots)
machine_carry free places js (give t) = machine_meet [] t js
machine_carry free places js (go f x) = going [] (record { f = f; x = x; frames = js })
machine_carry free places js (push f x j) =
    cond (ltb (length js) places) (going [] (record { f = f; x = x; frames = j ∷ js })) (stop out_of_places)

unfoldable pub machine_step : ℕ → ℕ → MachineState → MachineTurn
machine_step free places s = machine_carry free places s.frames (tree_rule s.f s.x)

-- done, with the tree reached; or stopped, with the f and x still to be applied and the frames, oldest first
pub data Ending : Type 0 where
  ended : Tree → Ending
  stopped : Stop → Tree → Tree → List TreeFrame → Ending

-- the steps are the rules used; the nodes made stand in the order of making
pub record Outcome : Type 0 where
  pub ending : Ending
  pub steps : ℕ
  pub made : List Tree

abbrev pub halted : Stop → MachineState → Outcome
halted n s = record { ending = stopped n s.f s.x (reverse s.frames); steps = 0; made = [] }

abbrev pub last_step : List Tree → Tree → Outcome
last_step made t = record { ending = ended t; steps = 1; made = made }

-- a step that made these nodes, and what came after it
abbrev pub stepped : List Tree → Outcome → Outcome
stepped made o = record { ending = o.ending; steps = suc o.steps; made = made ++ o.made }

-- what comes of a state and its step, with `rest` for the rest of the run, on the free slots that are left
abbrev pub proceed : (ℕ → ℕ → MachineState → Outcome) → ℕ → ℕ → MachineState → MachineTurn → Outcome
proceed rest free places s (going made s') = stepped made (rest (free - length made) places s')
proceed rest free places s (done made t) = last_step made t
proceed rest free places s (stop n) = halted n s

-- fuel, free slots, places for frames, and the state; no fuel stops it before no slot and no place do
unfoldable pub run : ℕ → ℕ → ℕ → MachineState → Outcome
run zero free places s = halted out_of_fuel s
run (suc fuel) free places s = proceed (run fuel) free places s (machine_step free places s)
