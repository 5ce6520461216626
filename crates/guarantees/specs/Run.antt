-- What the run call and the carry-on call guarantee, for each call by itself: a run from scratch, or from a stop. The proofs are in
-- proofs/, a file for each statement.
use Rattle.std.specs.Prelude.{ℕ, ◌+◌, ◌-◌, ◌*◌, ◌≤◌, ◌<◌, ◌≡◌, List, [], ◌++◌, reverse, Bool, true, false, ◌&&◌, ◌||◌, ◌⊎◌, ◌↔◌, length, get_or, drop, eqb, leb, ℤ, pos, negsuc, Ok, Err}
use Rattle.calculus.specs.Tree.{Tree}
use Rattle.calculus.specs.Rules.{TreeFrame}
use Rattle.calculus.specs.Machine.{Outcome}
use Rattle.calculus.specs.Machine as machine
use Rattle.table.specs.Slots.{room, SameSlots}
use Rattle.frames.specs.Frames.{frame_room}
use Rattle.table.specs.Sound.{SoundSlot, SoundSlots}
use Rattle.table.specs.Holds.{Holds}
use Rattle.frames.specs.Stand.{StandFrom, ZeroFrom}
use Rattle.frames.specs.SoundFrames.{SoundJobs}
use Rattle.engine.specs.declared.Ending.TheVariants.{Done, Stopped}
use Rattle.engine.specs.Run.{Ran, ran, run_from}
use Rattle.engine.specs.declared.From.{From}
use Rattle.engine.specs.declared.From.TheVariants.{Scratch, Stop}
use Rattle.engine.specs.Answer.{RunAnswer, RunNumbers, run_numbers}
use Rattle.guarantees.specs.Agrees.{Agrees}

-- what any call leaves and answers, by the word table, the base, f, x, the used count, the fuel and the frame table
abbrev pub RunCall : Type 0
RunCall = List ℕ → ℤ → ℤ → ℤ → ℕ → ℕ → List ℕ → Ran

-- a call for each way to begin, as the run call and the carry-on call are
abbrev pub Calls : Type 0
Calls = From → RunCall

-- ---- what a run begins with

-- the steps that were taken before
abbrev pub steps_before : From → ℕ
steps_before Scratch = 0
steps_before (Stop waiting steps) = steps

-- 40: earlier steps and fuel, as whole numbers, are above 4,294,967,295
abbrev pub TooMany : From → ℕ → Type 0
TooMany Scratch fuel = ⊥
TooMany (Stop waiting steps) fuel = 4294967295 < steps + fuel

-- these frames wait, oldest first: none, or those that sound jobs stand for
abbrev pub Waiting : From → List ℕ → ℕ → List ℕ → List TreeFrame → Type 0
Waiting Scratch w used j frames = frames ≡ []
Waiting (Stop waiting steps) w used j frames =
    SoundJobs used j waiting × (length frames ≡ waiting) × StandFrom w used j 0 frames

-- an outcome with the earlier steps in its count
abbrev pub later : ℕ → Outcome → Outcome
later steps o = record { ending = o.ending; steps = steps + o.steps; made = o.made }

-- A run on sound used slots is the reference machine's, on the trees that they hold: with the frames that wait, newest first, the
-- call's fuel, the room less the used slots, and the frame table's room. The steps are in total. The words before the base stay.
abbrev pub SimulatesFrom : From → RunCall → Type 0
SimulatesFrom from call =
    (before w j : List ℕ) (used f x fuel : ℕ) (ft xt : Tree) (frames : List TreeFrame)
    → SoundSlots w used → Holds w used f ft → Holds w used x xt → Waiting from w used j frames → (TooMany from fuel → ⊥)
    → (v : List ℕ) × (k : List ℕ) × (a : RunAnswer)
    × (call (before ++ w) (pos (length before)) (pos f) (pos x) used fuel j ≡ ran (before ++ v) k a)
    × Agrees w used j v k (run_numbers a)
    (later (steps_before from)
    (machine.run fuel (room w - used) (frame_room j) (record { f = ft; x = xt; frames = reverse frames })))

abbrev pub RunSimulates : Calls → Type 0
RunSimulates calls = (from : From) → SimulatesFrom from (calls from)

-- ---- the refusals

-- a refusal's numbers: its own, and every other 0
abbrev pub refusal_numbers : ℕ → RunNumbers
refusal_numbers n = record { number = n; slot = pos 0; f = pos 0; x = pos 0; steps = 0; used = 0; waiting = 0 }

-- the number of a run that was let start: 0, or a stop's, 31, 32 or 33
abbrev pub started : ℕ → Bool
started n = eqb n 0 || (leb 31 n && leb n 33)

-- a call on these two tables is refused with this number: it answers that, and changes no word
abbrev pub RefusedWith : ℕ → List ℕ → List ℕ → Ran → Type 0
RefusedWith n w j (ran v k a) = (run_numbers a ≡ refusal_numbers n) × (v ≡ w) × (k ≡ j)

-- the numbers of the list that a run of some kind may be refused with, the last one its own
abbrev pub Listed : ℕ → ℕ → Type 0
Listed last n = (n ≡ 21) ⊎ ((n ≡ 23) ⊎ ((n ≡ 24) ⊎ (n ≡ last)))

-- A run that was not let start has a number of the list, with every other number 0, and changes nothing; 40 is a carry-on's alone, as
-- RefusedExactly says.
abbrev pub RefusalKeeps : Type 0
RefusalKeeps =
    (from : From) (w v j k : List ℕ) (base f x : ℤ) (used fuel : ℕ) (a : RunAnswer)
    → run_from from w base f x used fuel j ≡ ran v k a → started (run_numbers a).number ≡ false
    → (n : ℕ) × RefusedWith n w j (ran v k a) × Listed 40 n

-- The number tells which case of the answer it is: a refusal has 21, 23, 24 or 40, a stop 31, 32 or 33.
abbrev pub Tells : RunAnswer → Type 0
Tells (Err n) = Listed 40 n
Tells (Ok (Done slot steps used)) = Unit {0}
Tells (Ok (Stopped n f x steps used waiting)) = (31 ≤ n) × (n ≤ 33)

abbrev pub NumberTells : Type 0
NumberTells =
    (from : From) (w v j k : List ℕ) (base f x : ℤ) (used fuel : ℕ) (a : RunAnswer)
    → run_from from w base f x used fuel j ≡ ran v k a → Tells a

-- and with it the numbers tell the whole answer
abbrev pub OneAnswer : Type 0
OneAnswer = (a a' : RunAnswer) → Tells a → Tells a' → run_numbers a ≡ run_numbers a' → a ≡ a'

-- 21: base negative or past the end of the table, or used count 0 or above room
pub data OutOfTable (w : List ℕ) : ℤ → ℕ → Type 0 where
  base_negative : {b used : ℕ} → OutOfTable w (negsuc b) used
  base_past : {b used : ℕ} → length w < b → OutOfTable w (pos b) used
  none_used : {base : ℤ} {used : ℕ} → used ≡ 0 → OutOfTable w base used
  above_room : {b used : ℕ} → room (drop b w) < used → OutOfTable w (pos b) used

-- 23: a slot is negative or not below the used count
pub data Misplaced (used : ℕ) : ℤ → Type 0 where
  negative : {i : ℕ} → Misplaced used (negsuc i)
  not_used : {i : ℕ} → used ≤ i → Misplaced used (pos i)

-- 24: some used slot is not sound
abbrev pub Damaged : List ℕ → ℤ → ℕ → Type 0
Damaged w (pos b) used = (i : ℕ) × (i < used) × (SoundSlot (drop b w) i → ⊥)
Damaged w (negsuc b) used = ⊥

-- 24, too: the jobs that a stop left are not sound
abbrev pub JobsDamaged : From → ℕ → List ℕ → Type 0
JobsDamaged Scratch used j = ⊥
JobsDamaged (Stop waiting steps) used j = SoundJobs used j waiting → ⊥

-- the lowest number that applies is answered: 21 for A, 23 for B, 24 for C, and the last one for D
abbrev pub InOrder : (ℕ → Type 0) → Type 0 → Type 0 → Type 0 → ℕ → Type 0 → Type 0
InOrder Answered A B C last D =
    (Answered 21 ↔ A)
    × (Answered 23 ↔ ((A → ⊥) × B))
    × (Answered 24 ↔ ((A → ⊥) × (B → ⊥) × C))
    × (Answered last ↔ ((A → ⊥) × (B → ⊥) × (C → ⊥) × D))

-- A run is refused exactly when one of these holds, with the lowest number that applies.
abbrev pub RefusedFrom : From → RunCall → Type 0
RefusedFrom from call =
    (w j : List ℕ) (base f x : ℤ) (used fuel : ℕ)
    → InOrder (λ n. RefusedWith n w j (call w base f x used fuel j))
    (OutOfTable w base used)
    (Misplaced used f ⊎ Misplaced used x)
    (Damaged w base used ⊎ JobsDamaged from used j)
    40 (TooMany from fuel)

abbrev pub RefusedExactly : Calls → Type 0
RefusedExactly calls = (from : From) → RefusedFrom from (calls from)

-- ---- what holds of every run

-- Every run that was let start leaves sound waiting jobs, as many as it answers: none where it is done.
abbrev pub JobsSound : Type 0
JobsSound =
    (from : From) (w v j k : List ℕ) (base f x : ℤ) (used fuel : ℕ) (a : RunAnswer)
    → run_from from w base f x used fuel j ≡ ran v k a → started (run_numbers a).number ≡ true
    → SoundJobs (run_numbers a).used k (run_numbers a).waiting

-- No word before the base is looked at or changed: wherever our part stands, and whatever is before it, the answer, our part and
-- the frame table come out the same. With a base that is negative or past the end every run is refused with 21.
abbrev pub BaseBlind : Type 0
BaseBlind =
    (from : From) (before before' w j : List ℕ) (f x : ℤ) (used fuel : ℕ)
    → (v : List ℕ) × (k : List ℕ) × (a : RunAnswer)
    × (run_from from (before ++ w) (pos (length before)) f x used fuel j ≡ ran (before ++ v) k a)
    × (run_from from (before' ++ w) (pos (length before')) f x used fuel j ≡ ran (before' ++ v) k a)

-- the same jobs wait in a second frame table, with zeros above them; from scratch its words do not matter
abbrev pub SameJobs : From → List ℕ → List ℕ → Type 0
SameJobs Scratch j j' = Unit {0}
SameJobs (Stop waiting steps) j j' = ((i : ℕ) → i < 3 * waiting → get_or j i 0 ≡ get_or j' i 0) × ZeroFrom j' waiting

-- A done run, one that is answered 0, stays done with at least as much fuel and room for slots and frames, on the same
-- used slots, wherever they stand, and the same jobs: the same answer, and the same slots.
abbrev pub DoneStays : Type 0
DoneStays =
    (from : From) (before before' w w' v j j' k : List ℕ) (f x : ℤ) (used fuel fuel' : ℕ) (a : RunAnswer)
    → run_from from (before ++ w) (pos (length before)) f x used fuel j ≡ ran (before ++ v) k a → (run_numbers a).number ≡ 0
    → SameSlots used w w' → SameJobs from j j' → (TooMany from fuel' → ⊥)
    → fuel ≤ fuel' → room w ≤ room w' → frame_room j ≤ frame_room j'
    → (v' : List ℕ) × (k' : List ℕ)
    × (run_from from (before' ++ w') (pos (length before')) f x used fuel' j' ≡ ran (before' ++ v') k' a)
    × SameSlots (run_numbers a).used v v'

-- ---- how large the tables have to be

-- the jobs that wait before it
abbrev pub waiting_before : From → ℕ
waiting_before Scratch = 0
waiting_before (Stop waiting steps) = waiting

-- A run makes no more nodes than it has fuel, and leaves no more jobs than waited before it and fuel together. It stops with 32 only
-- where the used slots and the fuel are more than the room, and with 33 only where the jobs that waited and the fuel are more than the job
-- room. So a slot and a place for each step of the allowance are enough, of one run and of several.
abbrev pub RoomSuffices : Type 0
RoomSuffices =
    (from : From) (w v j k : List ℕ) (b : ℕ) (f x : ℤ) (used fuel : ℕ) (a : RunAnswer)
    → run_from from w (pos b) f x used fuel j ≡ ran v k a → started (run_numbers a).number ≡ true
    → ((run_numbers a).used ≤ used + fuel)
    × ((run_numbers a).waiting ≤ waiting_before from + fuel)
    × ((run_numbers a).number ≡ 32 → room (drop b w) < used + fuel)
    × ((run_numbers a).number ≡ 33 → frame_room j < waiting_before from + fuel)
