-- The slots that a run or a carry-on answers.
use Rattle.std.specs.Prelude.{ℕ, ◌≤◌, ◌<◌, ◌≡◌, List, ℤ, pos, Ok, Err}
use Rattle.table.specs.Limits.{max_slots}
use Rattle.engine.specs.declared.Ending.TheVariants.{Done, Stopped}
use Rattle.engine.specs.declared.From.{From}
use Rattle.engine.specs.Answer.{RunAnswer}
use Rattle.engine.specs.Run.{ran, run_from}

-- a number names one of the used slots
abbrev pub UsedSlot : ℕ → ℤ → Type 0
UsedSlot used z = (i : ℕ) × (z ≡ pos i) × (i < used)

abbrev pub RunSlotsUsed : RunAnswer → Type 0
RunSlotsUsed (Err n) = Unit {0}
RunSlotsUsed (Ok (Done slot steps used)) = (used ≤ max_slots) × UsedSlot used slot
RunSlotsUsed (Ok (Stopped n f x steps used waiting)) = (used ≤ max_slots) × UsedSlot used f × UsedSlot used x

-- Every slot that a run or a carry-on answers is a used one, so that it may be handed back as f or x.
abbrev pub SlotsNamed : Type 0
SlotsNamed =
    (from : From) (w v j k : List ℕ) (base f x : ℤ) (used fuel : ℕ) (a : RunAnswer) →
    run_from from w base f x used fuel j ≡ ran v k a → RunSlotsUsed a
