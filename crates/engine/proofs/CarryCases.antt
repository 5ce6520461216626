-- The cases of carry-ons, by computation.
use mathlib.Core.Path.{refl}
use Rattle.lists.specs.Lists.{any_of}
use Rattle.refusals.specs.Refusals.{answer}
use Rattle.table.specs.Base.{base_of, from_base}
use Rattle.table.specs.Slots.{room, is_used, first_at, second_at, put_words, node_at, put_node}
use Rattle.table.specs.Sound.{slot_sound, sound}
use Rattle.frames.specs.Frames.{frame_room, job_words_at, put_record, frame_at, put_frame, drop_frame}
use Rattle.frames.specs.SoundFrames.{frame_sound, each_sound, all_zero, frames_sound}
use Rattle.stepping.specs.Rules.{on_argument, on_fork, on_function, slot_rule}
use Rattle.stepping.specs.Step.{meet_frame, meet, carry, step}
use Rattle.engine.specs.Admission.{out_of_room, dangling, unsound, slot_rows, frames_unsound, steps_overflow, stop_rows, run_rows}
use Rattle.engine.specs.Run.{drive, run_tail, run_from}
use Rattle.engine.specs.CarryCases.{CarryCasesHold, CarryAnswersHold}

pub carry_cases_hold : CarryCasesHold
unfolding any_of answer base_of from_base room is_used first_at second_at put_words node_at put_node slot_sound sound
    frame_room job_words_at put_record frame_at put_frame drop_frame frame_sound each_sound all_zero frames_sound
    on_argument on_fork on_function slot_rule meet_frame meet carry step drive
    out_of_room dangling unsound slot_rows frames_unsound steps_overflow stop_rows run_rows run_tail run_from
carry_cases_hold = refl

pub carry_answers_hold : CarryAnswersHold
unfolding any_of answer base_of from_base room is_used first_at second_at put_words node_at put_node slot_sound sound
    frame_room job_words_at put_record frame_at put_frame drop_frame frame_sound each_sound all_zero frames_sound
    on_argument on_fork on_function slot_rule meet_frame meet carry step drive
    out_of_room dangling unsound slot_rows frames_unsound steps_overflow stop_rows run_rows run_tail run_from
carry_answers_hold = (refl, refl)
