-- The cases on the two tables, by computation.
use mathlib.Core.Path.{refl}
use Rattle.lists.specs.Lists.{any_of}
use Rattle.refusals.specs.Refusals.{answer}
use Rattle.table.specs.Base.{base_of, from_base}
use Rattle.table.specs.Slots.{room, is_used, first_at, second_at, put_words, node_at, put_node}
use Rattle.table.specs.Sound.{slot_sound, sound}
use Rattle.frames.specs.Frames.{frame_room, job_words_at, put_record, frame_at, put_frame, drop_frame, cleared}
use Rattle.stepping.specs.Rules.{on_argument, on_fork, on_function, slot_rule}
use Rattle.stepping.specs.Step.{meet_frame, meet, carry, step}
use Rattle.engine.specs.Admission.{out_of_room, dangling, unsound, slot_rows, run_rows}
use Rattle.engine.specs.Run.{drive, run_tail, run_from}
use Rattle.engine.specs.Cases.{RunCasesHold, AnswersHold}

pub cases_hold : RunCasesHold
unfolding any_of answer base_of from_base room is_used first_at second_at put_words node_at put_node slot_sound sound
    frame_room job_words_at put_record frame_at put_frame drop_frame cleared
    on_argument on_fork on_function slot_rule meet_frame meet carry step drive
    out_of_room dangling unsound slot_rows run_rows run_tail run_from
cases_hold = refl

pub answers_hold : AnswersHold
unfolding any_of answer base_of from_base room is_used first_at second_at put_words node_at put_node slot_sound sound
    frame_room job_words_at put_record frame_at put_frame drop_frame cleared
    on_argument on_fork on_function slot_rule meet_frame meet carry step drive
    out_of_room dangling unsound slot_rows run_rows run_tail run_from
answers_hold = (refl, refl)
