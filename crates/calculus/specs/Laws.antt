-- What holds of every run of the reference machine. The proofs are in proofs/, a file for each statement.
use Rattle.std.specs.Prelude.{ℕ, suc, ◌+◌, ◌-◌, ◌≤◌, ◌<◌, ◌≡◌, List, [], ◌++◌, reverse, ◌↔◌, length}
use Rattle.calculus.specs.Tree.{Tree, leaf, stem, fork}
use Rattle.calculus.specs.Rules.{TreeFrame}
use Rattle.calculus.specs.Machine.{MachineState, machine_start, Stop, out_of_fuel, out_of_slots, out_of_places, stop_number, Ending, ended, stopped, Outcome, run}
use Rattle.calculus.specs.BigStep.{◌·◌⇓◌, Costs}

-- "Before a step, in this order: no fuel, stop 31; rule 1 or 2 comes next and no slot is left, stop 32; rule 4 or 7 comes next and
-- no job place is left, stop 33": when a run of f on x, with some frames that wait, stops before its first step
pub data StopsAt (fuel free places : ℕ) : Tree → Tree → List TreeFrame → Stop → Type 0 where
  fuel_out : {f x : Tree} {js : List TreeFrame} → fuel ≡ 0 → StopsAt fuel free places f x js out_of_fuel
  slot_for_1 : {x : Tree} {js : List TreeFrame} → 0 < fuel → free ≡ 0 → StopsAt fuel free places leaf x js out_of_slots
  slot_for_2 : {a x : Tree} {js : List TreeFrame} → 0 < fuel → free ≡ 0 → StopsAt fuel free places (stem a) x js out_of_slots
  place_for_4 : {a b x : Tree} {js : List TreeFrame} → 0 < fuel → places ≤ length js →
      StopsAt fuel free places (fork (stem a) b) x js out_of_places
  place_for_7 : {a b c u v : Tree} {js : List TreeFrame} → 0 < fuel → places ≤ length js →
      StopsAt fuel free places (fork (fork a b) c) (fork u v) js out_of_places

-- A run stops before its first step exactly there.
abbrev pub StopsExactly : Type 0
StopsExactly =
    (fuel free places : ℕ) (s : MachineState) (why : Stop) →
    (run fuel free places s ≡ record { ending = stopped why s.f s.x (reverse s.frames); steps = 0; made = [] })
    ↔ StopsAt fuel free places s.f s.x s.frames why

-- the numbers of the stops
abbrev pub StopNumbers : Type 0
StopNumbers = (stop_number out_of_fuel ≡ 31) × (stop_number out_of_slots ≡ 32) × (stop_number out_of_places ≡ 33)

-- a run that stopped for want of fuel
abbrev pub RunsOut : Outcome → Type 0
RunsOut o = (f : Tree) × (x : Tree) × (js : List TreeFrame) × (o.ending ≡ stopped out_of_fuel f x js)

-- "Each rule used is one step": the steps are the fuel that was spent. They are no more than there was, and all of it where it ran
-- out. With any less the run would have stopped for want of it; with just so much a done run is done, and with one more each other
-- run that did not run out ends as it did.
abbrev pub StepsSpent : Type 0
StepsSpent =
    (fuel free places : ℕ) (s : MachineState) →
    let o : Outcome = run fuel free places s in
    (o.steps ≤ fuel) × (RunsOut o → o.steps ≡ fuel) ×
    ((less : ℕ) → less < o.steps → RunsOut (run less free places s)) ×
    ((t : Tree) → o.ending ≡ ended t → run o.steps free places s ≡ o) ×
    ((RunsOut o → ⊥) → run (suc o.steps) free places s ≡ o)

-- An outcome makes no more nodes than there was fuel, and at a stop no more frames wait than before and fuel together; it stops for
-- want of a slot only where there were fewer of them than fuel, and for want of a place only where the frames that waited and the fuel
-- were more than the places.
abbrev pub WithinAllowance : ℕ → ℕ → ℕ → ℕ → Outcome → Type 0
WithinAllowance fuel free places waiting o =
    (length o.made ≤ fuel) ×
    ((why : Stop) (f x : Tree) (js : List TreeFrame) → o.ending ≡ stopped why f x js → length js ≤ waiting + fuel) ×
    ((f x : Tree) (js : List TreeFrame) → o.ending ≡ stopped out_of_slots f x js → free < fuel) ×
    ((f x : Tree) (js : List TreeFrame) → o.ending ≡ stopped out_of_places f x js → places < waiting + fuel)

-- Every run does so, as a step makes at most one node and adds at most one frame.
abbrev pub AllowanceBounds : Type 0
AllowanceBounds =
    (fuel free places : ℕ) (s : MachineState) → WithinAllowance fuel free places (length s.frames) (run fuel free places s)

-- A run that is done stays done with at least as much of everything: the same tree, steps and nodes made.
abbrev pub MachineDoneStays : Type 0
MachineDoneStays =
    (fuel fuel' free free' places places' : ℕ) (s : MachineState) (t : Tree)
    → (run fuel free places s).ending ≡ ended t
    → fuel ≤ fuel' → free ≤ free' → places ≤ places'
    → run fuel' free' places' s ≡ run fuel free places s

-- what came first, and what came after it
abbrev pub followed : Outcome → Outcome → Outcome
followed o p = record { ending = p.ending; steps = o.steps + p.steps; made = o.made ++ p.made }

-- a run that stopped for want of fuel goes on with n more, on the free slots that it left; any other is over
abbrev pub go_on : ℕ → ℕ → ℕ → Outcome → Ending → Outcome
go_on n free places o (ended t) = o
go_on n free places o (stopped out_of_slots f x js) = o
go_on n free places o (stopped out_of_places f x js) = o
go_on n free places o (stopped out_of_fuel f x js) =
    followed o (run n (free - length o.made) places (record { f = f; x = x; frames = reverse js }))

-- Fuel m + n is fuel m, and then fuel n.
abbrev pub FuelCuts : Type 0
FuelCuts =
    (m n free places : ℕ) (s : MachineState)
    → run (m + n) free places s ≡ go_on n free places (run m free places s) (run m free places s).ending

-- with some allowance the machine is done with t
abbrev pub Reaches : Tree → Tree → Tree → Type 0
Reaches f x t = (fuel : ℕ) × (free : ℕ) × (places : ℕ) × ((run fuel free places (machine_start f x)).ending ≡ ended t)

-- The machine is done with t exactly when the seven rules give t.
abbrev pub DoneExactly : Type 0
DoneExactly = (f x t : Tree) → (Reaches f x t → f · x ⇓ t) × (f · x ⇓ t → Reaches f x t)

-- What the seven rules give has a cost, and just one.
abbrev pub CostsExactly : Type 0
CostsExactly = (f x t : Tree) → (f · x ⇓ t) ↔ ((n : ℕ) × (m : ℕ) × (k : ℕ) × Costs f x t n m k)

abbrev pub OneCost : Type 0
OneCost =
    (f x t t' : Tree) (n m k n' m' k' : ℕ)
    → Costs f x t n m k → Costs f x t' n' m' k' → (t ≡ t') × (n ≡ n') × (m ≡ m') × (k ≡ k')

-- The machine is done with t, by n steps and with m nodes made, exactly when the seven rules give t at that cost and there is
-- enough of everything: fuel, free slots, and places for the jobs.
abbrev pub DoneByCost : Type 0
DoneByCost =
    (fuel free places n m : ℕ) (f x t : Tree)
    → ((made : List Tree) × (length made ≡ m)
    × (run fuel free places (machine_start f x) ≡ record { ending = ended t; steps = n; made = made }))
    ↔ ((k : ℕ) × Costs f x t n m k × (n ≤ fuel) × (m ≤ free) × (k ≤ places))
