-- The studio's three demands, a field or a line for each of their sentences. That every public call ends, and checks
-- everything itself, is said by the calls' contracts: they are equations for all inputs, with no `requires`. A run is one from scratch,
-- by the run call, or one from a stop, by the carry-on call. A plain run is one by the plain engine's call.
use Rattle.std.specs.Prelude.{ℕ, ◌≡◌, true, List, drop, ℤ, pos, Result}
use Rattle.loader.specs.declared.Accepted.{Accepted}
use Rattle.calculus.specs.Tree.{leaf}
use Rattle.calculus.specs.Laws.{StopNumbers}
use Rattle.table.specs.Slots.{room, RoomIs}
use Rattle.frames.specs.Frames.{JobRoomIs, JobWords}
use Rattle.table.specs.Holds.{Holds}
use Rattle.engine.specs.Run.{ran, run_from}
use Rattle.engine.specs.declared.From.{From}
use Rattle.engine.specs.Answer as engine
use Rattle.engine.specs.Answer.{RunAnswer}
use Rattle.plain.specs.Answer as plain
use Rattle.plain.specs.Answer.{PlainAnswer}
use Rattle.plain.specs.Run.{played, plain_run}
use Rattle.plain.specs.Meaning.{PlainIsRun}
use Rattle.bundle.specs.Checks.{refusal}
use Rattle.bundle.specs.Exports.{name_part}
use Rattle.soundness.specs.Meaning as checks
use Rattle.soundness.specs.Applies.{NumberExactly}
use Rattle.soundness.specs.ExportCalls.{NameByIndex, NameRefused, NameBytes, NameInFile}
use Rattle.soundness.specs.ExportCalls.{index, IndexByName, NoSuchName, EmptyName, IndexRefused}
use Rattle.soundness.specs.FileMeaning.{BigEndian}
use Rattle.soundness.specs.NodesMeaning.{ReadsChildren}
use Rattle.loader.specs.Answer.{LoadNumbers, load_numbers}
use Rattle.loader.specs.Load.{loaded, load}
use Rattle.guarantees.specs.Run.{Calls, RunSimulates, started, RefusalKeeps, RefusedExactly, JobsSound, BaseBlind, DoneStays}
use Rattle.guarantees.specs.Plain.{PlainRefusedExactly, PlainRefusalKeeps, PlainBlind, PlainDoneExactly}
use Rattle.guarantees.specs.Onward.{FuelInParts, StopsCarryOn}
use Rattle.guarantees.specs.Session.{Request, Bring, AllAlike}
use Rattle.guarantees.specs.Load.{LoadAcceptedExactly, LoadNumberExactly, LoadRefusalKeeps, Loads, LoadLeaves, LoadBlind}

-- slot zero of the table from the base on, a slot in its room, holds the leaf
abbrev pub ZeroIsLeaf : ℤ → List ℕ → Type 0
ZeroIsLeaf base words = (b : ℕ) × (base ≡ pos b) × Holds (drop b words) (room (drop b words)) 0 leaf

-- 1. Any bytes, any slot, any table: every public call answers bad input with a number from the written list, a refusal changes
-- no lent word, and nothing before our part of the table is written or looked at.
pub record Demand1 : Type 0 where
  -- bad input is answered with a number from the list, and a refusal changes no lent word
  pub load_kept : LoadRefusalKeeps load
  pub run_refused : RefusedExactly run_from
  pub run_kept : RefusalKeeps
  pub plain_refused : PlainRefusedExactly plain_run
  pub plain_kept : PlainRefusalKeeps
  -- a call asked for a name answers the part of the file that it is, (0, 0) by 1 to 14 or where there is no such index
  pub name_by_index : NameByIndex name_part
  pub name_refused : NameRefused name_part
  pub name_bytes : NameBytes
  pub name_in_file : NameInFile
  -- a call asked for an index answers it, 25 where there is no such name, or the smallest of 1 to 14
  pub index_by_name : IndexByName index
  pub no_such_name : NoSuchName index
  pub empty_name : EmptyName index
  pub index_refused : IndexRefused index
  -- nothing before our part of the table is written or looked at
  pub load_blind : LoadBlind
  pub run_blind : BaseBlind
  pub plain_blind : PlainBlind
  -- slot zero is the leaf after every accepted load and every run or plain run that was let start
  pub load_zero : (file words words' : List ℕ) (base : ℤ) (exports exports' : List ℕ) (a : Result Accepted ℕ) →
      load file words base exports ≡ loaded words' exports' a → (load_numbers a).number ≡ 0 → ZeroIsLeaf base words'
  pub run_zero : (from : From) (words words' jobs jobs' : List ℕ) (base f x : ℤ) (used fuel : ℕ) (a : RunAnswer) →
      run_from from words base f x used fuel jobs ≡ ran words' jobs' a → started (engine.run_numbers a).number ≡ true →
      ZeroIsLeaf base words'
  pub plain_zero : (words words' : List ℕ) (base f x : ℤ) (used fuel places : ℕ) (a : PlainAnswer) →
      plain_run words base f x used fuel places ≡ played words' a → started (plain.plain_numbers a).number ≡ true →
      ZeroIsLeaf base words'
  -- the room of the two tables, and where a job stands
  pub room_is : RoomIs
  pub job_room_is : JobRoomIs
  pub job_words : JobWords

-- 2. A bundle is accepted exactly when it is within the limits, fits the lent tables and is sound by the format, the digests and
-- the node hashes. Otherwise the answer is the lowest number that applies.
pub record Demand2 : Type 0 where
  -- of the load, and what it leaves; of the check alone, 1 to 20
  pub load_accepted : LoadAcceptedExactly
  pub load_by_number : LoadNumberExactly load
  pub load_leaves : LoadLeaves load
  pub check_accepted : checks.AcceptedExactly
  pub check_by_number : NumberExactly refusal
  -- numbers are big-endian; what a payload names is read
  pub big_endian : BigEndian
  pub reads_children : ReadsChildren

-- 3. For every accepted bundle and every list of runs after it, refused ones included, the runs go as the bundle's own trees
-- do on the reference machine. One claim about the whole list: from the table and the used count that a load leaves (Loads), any
-- requests, whatever each finds before the base, with the store that starts with the records' trees in the order of placing.
abbrev pub AllRuns : Calls → Type 0
AllRuns calls =
    (file words words' : List ℕ) (base : ℤ) (exports exports' : List ℕ) (n : LoadNumbers) →
    (l : Loads file words base exports words' exports' n) (requests : List Request) → Bring l.at requests →
    AllAlike calls l.at (room (drop l.at words)) (record { words = drop l.at words'; used = n.nodes }) l.store requests

pub record Demand3 : Type 0 where
  pub all_runs : AllRuns run_from
  -- and so does a single run, on any sound slots; the numbers of the stops
  pub run_simulates : RunSimulates run_from
  pub stop_numbers : StopNumbers
  -- the jobs that a run leaves are sound
  pub jobs_sound : JobsSound
  -- a done run stays done with more fuel and room
  pub done_stays : DoneStays
  -- fuel in parts is one run with the sum; a stop may be carried on, but for too many steps
  pub fuel_in_parts : FuelInParts
  pub stops_carry_on : StopsCarryOn
  -- for fuel and job room up to 1,000 a plain run is the run's twin, and is done just where the seven rules say so
  pub plain_is_run : PlainIsRun plain_run
  pub plain_done : PlainDoneExactly
