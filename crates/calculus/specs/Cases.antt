-- The marked cases of document 01, one statement over one list; and further ones.
use Rattle.std.specs.Prelude.{ℕ, zero, suc, ◌-◌, max, ◌≡◌, List, [], ◌∷◌, map, length}
use Rattle.calculus.specs.Tree.{Tree, leaf, stem, fork}
use Rattle.calculus.specs.Rules.{operand, argument, function}
use Rattle.calculus.specs.Machine.{MachineState, machine_start, out_of_fuel, out_of_slots, out_of_places, MachineTurn, going, done, stop, machine_step}
use Rattle.calculus.specs.Machine.{Ending, ended, stopped, run}

abbrev pub I : Tree
I = fork (stem (stem leaf)) leaf

abbrev pub D : Tree
D = fork (stem I) I

abbrev pub F : Tree
F = fork (fork leaf leaf) leaf

-- the most frames that wait on the way, by the rest of the run for the rest of the way
abbrev pub on_way : (ℕ → ℕ → MachineState → ℕ) → ℕ → ℕ → MachineTurn → ℕ
on_way rest free places (going made s) = rest (free - length made) places s
on_way rest free places (done made t) = 0
on_way rest free places (stop why) = 0

unfoldable pub peak : ℕ → ℕ → ℕ → MachineState → ℕ
peak zero free places s = length s.frames
peak (suc fuel) free places s = max (length s.frames) (on_way (peak fuel) free places (machine_step free places s))

-- an application with its allowance; then its ending, its steps, how many nodes it makes and the most frames that wait
pub record MachineCase : Type 0 where
  pub f : Tree
  pub x : Tree
  pub fuel : ℕ
  pub free : ℕ
  pub places : ℕ
  pub ending : Ending
  pub steps : ℕ
  pub slots : ℕ
  pub jobs : ℕ

pub record MachineSeen : Type 0 where
  pub ending : Ending
  pub steps : ℕ
  pub slots : ℕ
  pub jobs : ℕ

abbrev pub machine_given : MachineCase → MachineSeen
machine_given c =
    let o = run c.fuel c.free c.places (machine_start c.f c.x) in
    record {
      ending = o.ending;
      steps = o.steps;
      slots = length o.made;
      jobs = peak c.fuel c.free c.places (machine_start c.f c.x);
    }

abbrev pub machine_wanted : MachineCase → MachineSeen
machine_wanted c = record { ending = c.ending; steps = c.steps; slots = c.slots; jobs = c.jobs }

-- f to x: t; steps, slots and the most jobs that wait. The run gets just so many slots and places, and fuel to spare
abbrev pub ends : Tree → Tree → Tree → ℕ → ℕ → ℕ → MachineCase
ends f x t steps slots jobs =
    record {
      f = f;
      x = x;
      fuel = 100;
      free = slots;
      places = jobs;
      ending = ended t;
      steps = steps;
      slots = slots;
      jobs = jobs;
    }

-- f to x, with an allowance that does not suffice: fuel, free slots and places; the ending, steps, slots and the most jobs
abbrev pub halts : Tree → Tree → ℕ → ℕ → ℕ → Ending → ℕ → ℕ → ℕ → MachineCase
halts f x fuel free places e steps slots jobs =
    record {
      f = f;
      x = x;
      fuel = fuel;
      free = free;
      places = places;
      ending = e;
      steps = steps;
      slots = slots;
      jobs = jobs;
    }

-- D to D
abbrev pub stops : ℕ → ℕ → ℕ → Ending → ℕ → ℕ → ℕ → MachineCase
stops = halts D D

abbrev pub machine_cases : List MachineCase
machine_cases =
    ends leaf leaf (stem leaf) 1 1 0
    ∷ ends (stem leaf) leaf (fork leaf leaf) 1 1 0
    ∷ ends (fork leaf leaf) leaf leaf 1 0 0
    ∷ ends (fork (stem leaf) leaf) leaf (fork leaf (stem leaf)) 4 3 1
    ∷ ends F leaf leaf 1 0 0
    ∷ ends F (stem leaf) (stem leaf) 2 1 0
    ∷ ends F (fork leaf leaf) (fork leaf leaf) 3 2 1
    ∷ ends I leaf leaf 4 2 1
    ∷ stops 9 100 100 (stopped out_of_fuel D D []) 9 4 2
    ∷ stops 100 3 100 (stopped out_of_slots leaf D (function D ∷ function (fork leaf D) ∷ [])) 7 3 2
    ∷ stops 100 100 1 (stopped out_of_places I D (operand I D ∷ [])) 1 0 1
    ∷ stops 0 100 100 (stopped out_of_fuel D D []) 0 0 0
    ∷ []

abbrev pub MachineCasesHold : Type 0
MachineCasesHold = map machine_given machine_cases ≡ map machine_wanted machine_cases

-- ---- further cases

-- a fork of a fork, no two of its parts alike
abbrev pub G : Tree
G = fork (fork (stem leaf) (stem (stem leaf))) leaf

abbrev pub machine_further : List MachineCase
machine_further =
    -- no fuel comes before no slot and no place
    halts leaf leaf 0 0 0 (stopped out_of_fuel leaf leaf []) 0 0 0
    ∷ halts leaf leaf 1 0 0 (stopped out_of_slots leaf leaf []) 0 0 0
    ∷ halts D D 0 0 0 (stopped out_of_fuel D D []) 0 0 0
    ∷ halts D D 1 0 0 (stopped out_of_places D D []) 0 0 0
    -- 5, 6 and 7 on a fork whose parts differ
    ∷ ends G leaf (stem leaf) 1 0 0
    ∷ ends G (stem leaf) (fork (stem leaf) leaf) 2 1 0
    ∷ ends G (fork (stem leaf) (stem (stem leaf))) (fork (stem leaf) (stem (stem leaf))) 3 2 1
    -- a job "then the result to v" waits, where v is no leaf
    ∷ halts G (fork (stem leaf) (stem (stem leaf))) 1 9 9
    (stopped out_of_fuel leaf (stem leaf) (argument (stem (stem leaf)) ∷ [])) 1 0 1
    ∷ halts G (fork (stem leaf) (stem (stem leaf))) 9 0 9
    (stopped out_of_slots leaf (stem leaf) (argument (stem (stem leaf)) ∷ [])) 1 0 1
    ∷ []

abbrev pub FurtherHold : Type 0
FurtherHold = map machine_given machine_further ≡ map machine_wanted machine_further
