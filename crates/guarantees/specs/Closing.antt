-- What closes the demands: nothing is left open by them, and the definitions that they are said in agree with others of the same
-- things. None of this has to be believed to believe the demands.
use Rattle.std.specs.Prelude.{ℕ, List, drop, ℤ}
use Rattle.calculus.specs.Laws as machine
use Rattle.calculus.specs.Cases.{MachineCasesHold, FurtherHold}
use Rattle.frames.specs.SoundFrames.{OneFrameList}
use Rattle.engine.specs.Run.{run_from}
use Rattle.soundness.specs.Sound.{Sound}
use Rattle.soundness.specs.Meaning as checks
use Rattle.soundness.specs.ExportCalls.{OnlyName, IndexTells, OnlyIndex}
use Rattle.soundness.specs.Skipped.{SkippedUnread}
use Rattle.soundness.specs.NodesMeaning.{HashedBytes, LongestReached}
use Rattle.plain.specs.Run.{plain_run}
use Rattle.loader.specs.Answer.{LoadNumbers}
use Rattle.guarantees.specs.Run.{Calls, NumberTells, OneAnswer}
use Rattle.guarantees.specs.Plain.{OnlyPlain, PlainNumberTells, PlainOneAnswer}
use Rattle.guarantees.specs.Onward.{NoFuelKeeps}
use Rattle.guarantees.specs.OnlyRun.{OnlyRun, SameAll}
use Rattle.guarantees.specs.Session.{Request, Bring, Table, SessionBlind}
use Rattle.guarantees.specs.Load.{Loads, OnlyLoad, OneOrder, OneStart, LoadSkips}
use Rattle.guarantees.specs.Demands.{AllRuns}

-- Calls for which demand 3 holds go the same as the run call and the carry-on call over every list after an accepted load.
abbrev pub OnlyRuns : Type 0
OnlyRuns =
    (calls : Calls) → AllRuns calls →
    (file words words' : List ℕ) (base : ℤ) (exports exports' : List ℕ) (n : LoadNumbers) →
    (l : Loads file words base exports words' exports' n) (requests : List Request) → Bring l.at requests →
    let t : Table = record { words = drop l.at words'; used = n.nodes } in
    SameAll calls run_from l.at n.nodes t t requests

-- Nothing is left open: no other call keeps the promises that the demands make of it.
pub record Closing : Type 0 where
  -- of a load, of a check, and of the calls on exports
  pub only_load : OnlyLoad
  pub only_check : checks.OnlyCheck
  pub only_name : OnlyName
  pub only_index : OnlyIndex
  -- of a run and of a carry-on, but for which of two slots with one tree is named: of single calls, and of all lists
  pub only_run : OnlyRun
  pub only_runs : OnlyRuns
  -- of a plain run
  pub only_plain : OnlyPlain
  -- the number tells which case of an answer it is, and the numbers the whole answer
  pub run_tells : NumberTells
  pub one_answer : OneAnswer
  pub plain_tells : PlainNumberTells plain_run
  pub plain_one_answer : PlainOneAnswer
  pub index_tells : IndexTells
  -- what the demands say to exist is there once: the order of placing, the store that a load starts with, the jobs' frames
  pub one_order : OneOrder
  pub one_start : OneStart
  pub one_frame_list : OneFrameList

-- The definitions of the demands agree with others of the same things; and what else document 01 says of these things.
pub record Agreeing : Type 0 where
  -- sound is that none of 1 to 20 applies, described that none of 1 to 14 does
  pub sound_exactly : checks.SoundExactly
  pub described : checks.DescribedExactly
  -- some bundle is sound, so that no promise about accepted bundles is empty
  pub some_bundle : (file : List ℕ) × Sound file
  -- a section of any other type is skipped unread
  pub skipped_unread : SkippedUnread
  pub load_skips : LoadSkips
  -- how much is hashed of a payload, and how long the nodes section can be
  pub hashed_bytes : HashedBytes
  pub longest_nodes : checks.LongestNodes
  pub longest_reached : LongestReached
  -- the marked cases of document 01, and further ones, hold of the machine
  pub marked_cases : MachineCasesHold
  pub further_cases : FurtherHold
  -- it is done just where the seven rules say so, its steps are the fuel spent, and it stops just where document 01 says
  pub done_exactly : machine.DoneExactly
  pub steps_spent : machine.StepsSpent
  pub stops_exactly : machine.StopsExactly
  -- what the seven rules give has a cost, just one, and the machine is done just where there is enough for it
  pub costs_exactly : machine.CostsExactly
  pub one_cost : machine.OneCost
  pub done_by_cost : machine.DoneByCost
  -- whatever the receiver writes before the base meanwhile, the runs go the same
  pub session_blind : SessionBlind
  -- a carry-on with no fuel changes nothing
  pub no_fuel_keeps : NoFuelKeeps
