-- Nothing is left open by the demands, and their definitions agree with others of the same things.
use lib.ListN.{drop}
use Rattle.calculus.proofs.Cases.{cases_hold, further_hold}
use Rattle.calculus.proofs.DoneExactly.{done_exactly}
use Rattle.calculus.proofs.StepsSpent.{steps_spent}
use Rattle.calculus.proofs.Stops.{stops_exactly}
use Rattle.calculus.proofs.Costs.{costs_exactly, one_cost}
use Rattle.calculus.proofs.DoneByCost.{done_by_cost}
use Rattle.table.specs.Slots.{room}
use Rattle.frames.proofs.SoundFrames.{one_frame_list}
use Rattle.engine.specs.Run.{run_from}
use Rattle.soundness.proofs.ExportCalls.{only_name, index_tells, only_index}
use Rattle.soundness.proofs.Meaning as checks
use Rattle.soundness.proofs.Skipped.{skipped_unread}
use Rattle.soundness.proofs.NodesMeaning.{hashed_bytes, longest_reached}
use Rattle.bundle_example.specs.Leaf.{leaf_bundle}
use Rattle.bundle_example.proofs.Cases.{leaf_sound}
use Rattle.guarantees.specs.Closing.{OnlyRuns, Closing, Agreeing}
use Rattle.guarantees.proofs.RefusalKeeps.{number_tells, one_answer}
use Rattle.guarantees.proofs.SessionBlind.{session_blind}
use Rattle.guarantees.proofs.FuelInParts.{no_fuel_keeps}
use Rattle.guarantees.proofs.LoadSkips.{load_skips}
use Rattle.guarantees.proofs.OneOrder.{one_order, one_start}
use Rattle.guarantees.proofs.OnlyLoad.{only_load}
use Rattle.guarantees.proofs.OnlyRun.{only_run}
use Rattle.guarantees.proofs.OnlySession.{only_session}
use Rattle.guarantees.proofs.PlainRefused.{plain_number_tells, plain_one_answer}
use Rattle.guarantees.proofs.OnlyPlain.{only_plain}
use Rattle.guarantees.proofs.Demands.{goes_on}

only_runs : OnlyRuns
only_runs call all file words words' base exports exports' n l requests bring =
    only_session call run_from l.at (room (drop l.at words)) (record { words = drop l.at words'; used = n.nodes })
    l.store requests bring (all file words words' base exports exports' n l requests bring) (goes_on l requests bring)

pub closing : Closing
closing =
    record {
      only_load = only_load;
      only_check = checks.only_check;
      only_name = only_name;
      only_index = only_index;
      only_run = only_run;
      only_runs = only_runs;
      only_plain = only_plain;
      run_tells = number_tells;
      one_answer = one_answer;
      plain_tells = plain_number_tells;
      plain_one_answer = plain_one_answer;
      index_tells = index_tells;
      one_order = one_order;
      one_start = one_start;
      one_frame_list = one_frame_list;
    }

pub agreeing : Agreeing
agreeing =
    record {
      sound_exactly = checks.sound_exactly;
      described = checks.described_exactly;
      some_bundle = (leaf_bundle, leaf_sound);
      skipped_unread = skipped_unread;
      load_skips = load_skips;
      hashed_bytes = hashed_bytes;
      longest_nodes = checks.longest_nodes;
      longest_reached = longest_reached;
      marked_cases = cases_hold;
      further_cases = further_hold;
      done_exactly = done_exactly;
      steps_spent = steps_spent;
      stops_exactly = stops_exactly;
      costs_exactly = costs_exactly;
      one_cost = one_cost;
      done_by_cost = done_by_cost;
      session_blind = session_blind;
      no_fuel_keeps = no_fuel_keeps;
    }
