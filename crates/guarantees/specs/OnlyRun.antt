-- Nothing that the rules fix is left open: which calls keep the promises of the run call and of the carry-on call.
use Rattle.std.specs.Prelude.{ℕ, ◌+◌, ◌≡◌, List, [], ◌∷◌, ◌++◌, length, take, ℤ, pos}
use Rattle.calculus.specs.Tree.{Tree}
use Rattle.calculus.specs.Rules.{TreeFrame}
use Rattle.table.specs.Holds.{Holds, HoldsFrom, Untouched}
use Rattle.frames.specs.Stand.{StandFrom}
use Rattle.frames.specs.SoundFrames.{SoundJobs}
use Rattle.engine.specs.Run.{Ran, ran, run_from}
use Rattle.engine.specs.declared.From.{From}
use Rattle.engine.specs.Answer.{RunAnswer, RunNumbers, run_numbers}
use Rattle.guarantees.specs.Agrees.{done_with, stopped_with}
use Rattle.guarantees.specs.Run.{RunCall, Calls, SimulatesFrom, refusal_numbers, RefusedFrom}
use Rattle.guarantees.specs.Session.{Request, before_of, jobs_of, Bring, Table, called, table_after, AllAlike}

-- ---- one call

-- our parts of two tables, with n used slots at the start and m now: the same words outside the slots made since, and the
-- same trees in those
pub record SameSince (n m : ℕ) (v v' : List ℕ) : Type 0 where
  pub outside : Untouched v n v' m
  pub made : List Tree
  pub count : n + length made ≡ m
  pub new : HoldsFrom v m n made
  pub new' : HoldsFrom v' m n made

-- what two runs leave: v and k are our part of the word table and the frame table after the one, v' and k' after the other
pub record SameTables (n m : ℕ) (v k v' k' : List ℕ) (frames : List TreeFrame) : Type 0 where
  pub slots : SameSince n m v v'
  -- the frame tables are as long, and have sound jobs for the same frames
  pub long : length k ≡ length k'
  pub jobs : SoundJobs m k (length frames)
  pub jobs' : SoundJobs m k' (length frames)
  pub stand : StandFrom v m k 0 frames
  pub stand' : StandFrom v' m k' 0 frames

-- The answers, too: the same number, steps, used count and frames that wait; slots that hold the same trees. The rules leave
-- open just which slot that is, where two hold one tree.
pub data SameEnd (n : ℕ) (v k v' k' : List ℕ) : RunNumbers → RunNumbers → Type 0 where
  same_done : {slot slot' steps m : ℕ} {t : Tree}
      → Holds v m slot t → Holds v' m slot' t → SameTables n m v k v' k' []
      → SameEnd n v k v' k' (done_with slot steps m) (done_with slot' steps m)
  same_stop : {number f x f' x' steps m : ℕ} {ft xt : Tree} {frames : List TreeFrame}
      → Holds v m f ft → Holds v' m f' ft → Holds v m x xt → Holds v' m x' xt → SameTables n m v k v' k' frames
      → SameEnd n v k v' k' (stopped_with number f x steps m (length frames)) (stopped_with number f' x' steps m (length frames))

-- what two calls on the same tables leave and answer: both are refused alike, and leave the tables as they were; or both
-- end alike, and leave the words before the base as they were
pub data SameCall (w j : List ℕ) (used : ℕ) (base : ℤ) : Ran → Ran → Type 0 where
  both_refused : {a a' : RunAnswer} {n : ℕ} → run_numbers a ≡ refusal_numbers n → run_numbers a' ≡ refusal_numbers n
      → SameCall w j used base (ran w j a) (ran w j a')
  both_ended : {b : ℕ} {v k v' k' : List ℕ} {a a' : RunAnswer} → base ≡ pos b
      → SameEnd used v k v' k' (run_numbers a) (run_numbers a')
      → SameCall w j used base (ran (take b w ++ v) k a) (ran (take b w ++ v') k' a')

-- A call that is refused exactly where the run call is, and elsewhere simulates the machine, does what the run call does, on
-- every input, but for that choice of slots; and so with the carry-on call. A run that does nothing and answers 31, takes one step
-- and then only lowers the fuel, makes a step count up or writes a word more breaks one of the two promises; so does a carry-on
-- that trusts its jobs, zeroes them first or counts its own steps alone.
abbrev pub OnlyRun : Type 0
OnlyRun =
    (from : From) (call : RunCall) → RefusedFrom from call → SimulatesFrom from call
    → (w j : List ℕ) (base f x : ℤ) (used fuel : ℕ)
    → SameCall w j used base (call w base f x used fuel j) (run_from from w base f x used fuel j)

-- ---- a list of requests

-- what two calls leave and answer of one request, each in its own table: both are refused alike, and change nothing; or
-- both end alike
pub data SameAnswer (n : ℕ) (t t' : Table) (c : Request) : Ran → Ran → Type 0 where
  refused_alike : {a a' : RunAnswer} {number : ℕ} → run_numbers a ≡ refusal_numbers number → run_numbers a' ≡ refusal_numbers number
      → SameAnswer n t t' c (ran (before_of c ++ t.words) (jobs_of c) a) (ran (before_of c ++ t'.words) (jobs_of c) a')
  ended_alike : {v k v' k' : List ℕ} {a a' : RunAnswer} → SameEnd n v k v' k' (run_numbers a) (run_numbers a')
      → SameAnswer n t t' c (ran (before_of c ++ v) k a) (ran (before_of c ++ v') k' a')

-- two calls go the same over a list, each in its own table, of which n slots were used at the start
abbrev pub SameAll : Calls → Calls → ℕ → ℕ → Table → Table → List Request → Type 0
SameAll calls others b n t t' [] = (t.used ≡ t'.used) × SameSince n t.used t.words t'.words
SameAll calls others b n t t' (c ∷ cs) =
    SameAnswer n t t' c (called calls b t c) (called others b t' c)
    × SameAll calls others b n (table_after b t (called calls b t c)) (table_after b t' (called others b t' c)) cs

-- Two calls under which a list goes as the machine does on one store go the same over that list.
abbrev pub OnlySession : Type 0
OnlySession =
    (calls others : Calls) (b most : ℕ) (t : Table) (store : List Tree) (requests : List Request) → Bring b requests
    → AllAlike calls b most t store requests → AllAlike others b most t store requests
    → SameAll calls others b t.used t t requests
