-- A list of requests on one table, runs and carry-ons, refused ones included, against the reference machine and its store of trees.
use Rattle.std.specs.Prelude.{ℕ, zero, suc, ◌+◌, ◌-◌, ◌<◌, ◌≡◌, Bool, false, cond, ◌&&◌, List, [], ◌∷◌, ◌++◌, map, reverse, length, get_or, drop, eqb, leb, ltb, ℤ, pos, negsuc}
use Rattle.calculus.specs.Tree.{Tree, leaf}
use Rattle.calculus.specs.Rules.{TreeFrame, operand, argument, function}
use Rattle.calculus.specs.Machine.{Outcome}
use Rattle.calculus.specs.Machine as machine
use Rattle.table.specs.Slots.{room}
use Rattle.frames.specs.Frames.{frame_room}
use Rattle.table.specs.Sound.{SoundSlots}
use Rattle.table.specs.Holds.{Holds, HoldsFrom}
use Rattle.engine.specs.Run.{Ran, ran, run_from}
use Rattle.engine.specs.declared.From.{From}
use Rattle.engine.specs.declared.From.TheVariants.{Scratch, Stop}
use Rattle.engine.specs.Answer.{RunAnswer, run_numbers}
use Rattle.guarantees.specs.Agrees.{Agrees}
use Rattle.guarantees.specs.Run.{Calls, steps_before, later, RunSimulates, RefusedExactly, refusal_numbers, started}

-- a request to run, from scratch or from a stop: the words that are before the base by then, the slots f and x, the fuel and the
-- frame table that is lent
pub record ToRun : Type 0 where
  pub from : From
  pub before : List ℕ
  pub f : ℤ
  pub x : ℤ
  pub fuel : ℕ
  pub jobs : List ℕ

pub data Request : Type 0 where
  to_run : ToRun → Request

-- the tables that a request brings: the words before the base, and the frame table
abbrev pub before_of : Request → List ℕ
before_of (to_run c) = c.before

abbrev pub jobs_of : Request → List ℕ
jobs_of (to_run c) = c.jobs

-- each brings as many words before the base as the base says
abbrev pub Bring : ℕ → List Request → Type 0
Bring b [] = Unit {0}
Bring b (c ∷ cs) = (length (before_of c) ≡ b) × Bring b cs

-- ---- the machine and its store of trees, the paper's book

-- what is found there, if anything is
pub data Lookup (A : Type 0) : Type 0 where
  found : A → Lookup A
  nowhere : Lookup A

-- what is made of it, where it is found
abbrev pub lookup_then : {A B : Type 0} → Lookup A → (A → Lookup B) → Lookup B
lookup_then (found a) make = make a
lookup_then nowhere make = nowhere

-- the tree at a place of the store
abbrev pub look_up : List Tree → ℤ → Lookup Tree
look_up store (pos i) = cond (ltb i (length store)) (found (get_or store i leaf)) nowhere
look_up store (negsuc i) = nowhere

-- the frame that a job's three words stand for: "then b to x" is (1, b, x), "then the result to v" (2, v, 0), "then w to the result"
-- (3, w, 0), where every slot is a place of the store
abbrev pub job_in : List Tree → ℕ → ℕ → ℕ → Lookup TreeFrame
job_in store tag a b =
    cond (eqb tag 1) (lookup_then (look_up store (pos a)) (λ t. lookup_then (look_up store (pos b)) (λ u. found (operand t u))))
    (cond (eqb tag 2 && eqb b 0) (lookup_then (look_up store (pos a)) (λ t. found (argument t)))
    (cond (eqb tag 3 && eqb b 0) (lookup_then (look_up store (pos a)) (λ t. found (function t))) nowhere))

-- so many jobs, oldest first, with nothing but zeros above them
abbrev pub jobs_in : List Tree → ℕ → List ℕ → Lookup (List TreeFrame)
jobs_in store zero [] = found []
jobs_in store zero (word ∷ j) = cond (eqb word 0) (jobs_in store zero j) nowhere
jobs_in store (suc n) [] = nowhere
jobs_in store (suc n) (tag ∷ []) = nowhere
jobs_in store (suc n) (tag ∷ a ∷ []) = nowhere
jobs_in store (suc n) (tag ∷ a ∷ b ∷ j) =
    lookup_then (job_in store tag a b) (λ f. lookup_then (jobs_in store n j) (λ fs. found (f ∷ fs)))

-- the frames that a run begins with: none, or those of its jobs, which are no more than the job room
abbrev pub frames_in : List Tree → From → List ℕ → Lookup (List TreeFrame)
frames_in store Scratch j = found []
frames_in store (Stop waiting steps) j = cond (leb waiting (frame_room j)) (jobs_in store waiting j) nowhere

-- whether earlier steps and fuel are above 4,294,967,295
abbrev pub too_many : From → ℕ → Bool
too_many Scratch fuel = false
too_many (Stop waiting steps) fuel = ltb 4294967295 (steps + fuel)

-- refused with a number, or the machine's outcome
pub data Reply : Type 0 where
  refused : ℕ → Reply
  answered : Outcome → Reply

-- 23 if f or x is no place in the store, 24 if the jobs are not sound, 40 if the steps are too many; else the machine gets the
-- trees, the frames newest first, the fuel, the free slots and the places, and its steps count on
abbrev pub reply_to : ToRun → ℕ → Lookup Tree → Lookup Tree → Lookup (List TreeFrame) → Reply
reply_to c free nowhere x frames = refused 23
reply_to c free (found f) nowhere frames = refused 23
reply_to c free (found f) (found x) nowhere = refused 24
reply_to c free (found f) (found x) (found frames) =
    cond (too_many c.from c.fuel) (refused 40)
    (answered
    (later (steps_before c.from)
    (machine.run c.fuel free (frame_room c.jobs) (record { f = f; x = x; frames = reverse frames }))))

-- the free slots are the room less the store's length
abbrev pub reply : ℕ → List Tree → Request → Reply
reply most store (to_run c) =
    reply_to c (most - length store) (look_up store c.f) (look_up store c.x) (frames_in store c.from c.jobs)

-- nodes made join the store in turn
abbrev pub store_after : List Tree → Reply → List Tree
store_after store (refused n) = store
store_after store (answered o) = store ++ o.made

-- ---- the calls: our part of the table as last left, and the used count that the last request not refused answered

pub record Table : Type 0 where
  pub words : List ℕ
  pub used : ℕ

-- our part stands after the words that the request brings, at base b
abbrev pub called : Calls → ℕ → Table → Request → Ran
called calls b t (to_run c) = calls c.from (c.before ++ t.words) (pos b) c.f c.x t.used c.fuel c.jobs

abbrev pub table_after : ℕ → Table → Ran → Table
table_after b t (ran w j a) =
    record { words = drop b w; used = cond (started (run_numbers a).number) (run_numbers a).used t.used }

-- ---- both

-- both refuse with one number, and nothing changes; or both answer, what they answer agrees, and the words before the base stay
pub data Alike (t : Table) (c : Request) : Ran → Reply → Type 0 where
  alike_refused : {a : RunAnswer} {n : ℕ} → run_numbers a ≡ refusal_numbers n → started n ≡ false
      → Alike t c (ran (before_of c ++ t.words) (jobs_of c) a) (refused n)
  alike_answered : {w j : List ℕ} {a : RunAnswer} {o : Outcome}
      → Agrees t.words t.used (jobs_of c) w j (run_numbers a) o
      → Alike t c (ran (before_of c ++ w) j a) (answered o)

-- used slot i holds the store's tree i, slot zero the leaf; the used slots are sound
pub record Holding (w : List ℕ) (used : ℕ) (store : List Tree) : Type 0 where
  pub slots : SoundSlots w used
  pub some : 0 < used
  pub long : length store ≡ used
  pub each : HoldsFrom w used 0 store
  pub zero : Holds w used 0 leaf

-- the whole list, at base b in a table whose room is `most` throughout; after it the used slots hold the store
abbrev pub AllAlike : Calls → ℕ → ℕ → Table → List Tree → List Request → Type 0
AllAlike calls b most t store [] = Holding t.words t.used store × (room t.words ≡ most)
AllAlike calls b most t store (c ∷ cs) =
    Alike t c (called calls b t c) (reply most store c)
    × AllAlike calls b most (table_after b t (called calls b t c)) (store_after store (reply most store c)) cs

-- From any table whose used slots hold a store of trees, any list of requests goes as the machine does on that store,
-- whatever stands before the base at each of them; and so with any calls that keep two promises of ours.
abbrev pub SessionSimulates : Type 0
SessionSimulates =
    (calls : Calls) → RefusedExactly calls → RunSimulates calls
    → (w : List ℕ) (used : ℕ) (store : List Tree) → Holding w used store
    → (b : ℕ) (requests : List Request) → Bring b requests
    → AllAlike calls b (room w) (record { words = w; used = used }) store requests

-- ---- the words before the base

-- the request with nothing before the base
abbrev pub bare : Request → Request
bare (to_run c) =
    to_run (record { from = c.from; before = []; f = c.f; x = c.x; fuel = c.fuel; jobs = c.jobs })

-- what a call leaves from the base on, with its frame table and its answer
abbrev pub our_part : ℕ → Ran → Ran
our_part b (ran w j a) = ran (drop b w) j a

-- that of each request of a list
abbrev pub left_by : Calls → ℕ → Table → List Request → List Ran
left_by calls b t [] = []
left_by calls b t (c ∷ cs) =
    our_part b (called calls b t c) ∷ left_by calls b (table_after b t (called calls b t c)) cs

-- Whatever the receiver writes before the base between two requests, the list goes as on our part alone.
abbrev pub SessionBlind : Type 0
SessionBlind =
    (b : ℕ) (t : Table) (requests : List Request) → Bring b requests
    → left_by run_from b t requests ≡ left_by run_from 0 t (map bare requests)

-- Sound used slots hold just one store.
abbrev pub OneStore : Type 0
OneStore =
    (w : List ℕ) (used : ℕ) → SoundSlots w used → 0 < used
    → (store : List Tree) × Holding w used store × ((other : List Tree) → Holding w used other → other ≡ store)
