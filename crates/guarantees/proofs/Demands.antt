-- The three demands hold.
use Prim.Native.Nat.{ℕ}
use mathlib.Core.List.{List}
use lib.ListN.{drop}
use lib.IntN.{ℤ}
use Rattle.calculus.proofs.Stops.{stop_numbers}
use Rattle.table.specs.Slots.{room}
use Rattle.table.proofs.SlotLaws.{room_long, room_is}
use Rattle.frames.proofs.FrameLaws.{job_room_is, job_words}
use Rattle.engine.specs.Run.{run_from}
use Rattle.plain.proofs.PlainIsRun.{plain_is_run}
use Rattle.soundness.proofs.ExportCalls.{name_by_index, name_refused, name_bytes, name_in_file}
use Rattle.soundness.proofs.ExportCalls.{index_by_name, no_such_name, empty_name, index_refused}
use Rattle.soundness.proofs.Meaning as checks
use Rattle.soundness.proofs.Applies.{number_exactly}
use Rattle.soundness.proofs.FileMeaning.{big_endian_lem}
use Rattle.soundness.proofs.NodesMeaning.{reads_children}
use Rattle.loader.specs.Answer.{LoadNumbers}
use Rattle.guarantees.specs.Session.{Request, Bring, AllAlike}
use Rattle.guarantees.specs.Load.{Loads}
use Rattle.guarantees.specs.Demands.{Demand1, Demand2, AllRuns, Demand3}
use Rattle.guarantees.proofs.RefusalKeeps.{refusal_keeps}
use Rattle.guarantees.proofs.RefusedExactly.{refused_exactly}
use Rattle.guarantees.proofs.BaseBlind.{base_blind}
use Rattle.guarantees.proofs.RunSimulates.{run_simulates}
use Rattle.guarantees.proofs.DoneStays.{done_stays}
use Rattle.guarantees.proofs.FuelInParts.{fuel_in_parts}
use Rattle.guarantees.proofs.StopsCarryOn.{stops_carry_on}
use Rattle.guarantees.proofs.SessionSimulates.{session_simulates}
use Rattle.guarantees.proofs.LoadAccepted.{accepted_exactly, load_number_exactly, load_refusal_keeps}
use Rattle.guarantees.proofs.LoadBlind.{load_blind}
use Rattle.guarantees.proofs.LoadLeaves.{load_leaves}
use Rattle.guarantees.proofs.JobsSound.{jobs_sound}
use Rattle.guarantees.proofs.RunZero.{leaf_in, run_zero}
use Rattle.guarantees.proofs.PlainRefused.{plain_refused_exactly, plain_refusal_keeps}
use Rattle.guarantees.proofs.PlainBlind.{plain_blind}
use Rattle.guarantees.proofs.PlainZero.{plain_zero}
use Rattle.guarantees.proofs.PlainDone.{plain_done_exactly}

pub demand_1 : Demand1
demand_1 =
    record {
      load_kept = load_refusal_keeps;
      run_refused = refused_exactly;
      run_kept = refusal_keeps;
      plain_refused = plain_refused_exactly;
      plain_kept = plain_refusal_keeps;
      name_by_index = name_by_index;
      name_refused = name_refused;
      name_bytes = name_bytes;
      name_in_file = name_in_file;
      index_by_name = index_by_name;
      no_such_name = no_such_name;
      empty_name = empty_name;
      index_refused = index_refused;
      load_blind = load_blind;
      run_blind = base_blind;
      plain_blind = plain_blind;
      load_zero = λ file words words' base exports exports' a e z.
          let l = load_leaves file words words' base exports exports' a e z in
          (l.at, l.base_is, leaf_in l.holding.slots.fits l.holding.zero);
      run_zero = run_zero;
      plain_zero = plain_zero;
      room_is = room_is;
      job_room_is = job_room_is;
      job_words = job_words;
    }

pub demand_2 : Demand2
demand_2 =
    record {
      load_accepted = accepted_exactly;
      load_by_number = load_number_exactly;
      load_leaves = load_leaves;
      check_accepted = checks.accepted_exactly;
      check_by_number = number_exactly;
      big_endian = big_endian_lem;
      reads_children = reads_children;
    }

-- the requests start from what the load left
module _ {file words words' : List ℕ} {base : ℤ} {exports exports' : List ℕ} {n : LoadNumbers}
    (l : Loads file words base exports words' exports' n) where
  pub goes_on : (requests : List Request) → Bring l.at requests →
      AllAlike run_from l.at (room (drop l.at words)) (record { words = drop l.at words'; used = n.nodes })
      l.store requests
  goes_on =
      let v = drop l.at words' in
      rw (← room_long (drop l.at words) v l.untouched.long)
      (session_simulates run_from refused_exactly run_simulates v n.nodes l.store l.holding l.at)

all_runs : AllRuns run_from
all_runs file words words' base exports exports' n l = goes_on l

pub demand_3 : Demand3
demand_3 =
    record {
      all_runs = all_runs;
      run_simulates = run_simulates;
      stop_numbers = stop_numbers;
      jobs_sound = jobs_sound;
      done_stays = done_stays;
      fuel_in_parts = fuel_in_parts;
      stops_carry_on = stops_carry_on;
      plain_is_run = plain_is_run;
      plain_done = plain_done_exactly;
    }
