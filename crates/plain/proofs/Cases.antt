-- The cases on the plain engine, by computation.
use mathlib.Core.Path.{refl}
use Rattle.lists.specs.Lists.{any_of}
use Rattle.refusals.specs.Refusals.{answer}
use Rattle.table.specs.Base.{base_of, from_base}
use Rattle.table.specs.Slots.{room, is_used, first_at, second_at, put_words, node_at, put_node}
use Rattle.table.specs.Sound.{slot_sound, sound}
use Rattle.frames.specs.Frames.{frame_room}
use Rattle.engine.specs.Admission.{out_of_room, dangling, unsound, slot_rows}
use Rattle.applying.specs.Rules.{rules, rule}
use Rattle.applying.specs.Apply.{make, carry_out, apply}
use Rattle.plain.specs.Run.{too_deep, plain_rows, plain_tail, plain_run}
use Rattle.plain.specs.Cases.{PlainCasesHold, PlainFurtherHold}

pub plain_cases_hold : PlainCasesHold
unfolding any_of answer base_of from_base room is_used first_at second_at put_words node_at put_node slot_sound sound frame_room
    out_of_room dangling unsound slot_rows rules rule make carry_out apply too_deep plain_rows plain_tail plain_run
plain_cases_hold = refl

pub plain_further_hold : PlainFurtherHold
unfolding any_of answer base_of from_base room is_used first_at second_at put_words node_at put_node slot_sound sound frame_room
    out_of_room dangling unsound slot_rows rules rule make carry_out apply too_deep plain_rows plain_tail plain_run
plain_further_hold = refl
