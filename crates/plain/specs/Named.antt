-- The slot that the plain engine answers.
use Rattle.std.specs.Prelude.{ℕ, ◌≤◌, ◌≡◌, List, ℤ, Ok, Err}
use Rattle.table.specs.Limits.{max_slots}
use Rattle.engine.specs.Named.{UsedSlot}
use Rattle.plain.specs.declared.PlainEnding.TheVariants.{Done, Stopped}
use Rattle.plain.specs.Answer.{PlainAnswer}
use Rattle.plain.specs.Run.{played, plain_run}

abbrev pub PlainSlotUsed : PlainAnswer → Type 0
PlainSlotUsed (Err n) = Unit {0}
PlainSlotUsed (Ok (Done slot steps used)) = (used ≤ max_slots) × UsedSlot used slot
PlainSlotUsed (Ok (Stopped n steps used)) = Unit {0}

-- A result's slot is a used one, so that it may be handed back as f or x.
abbrev pub PlainSlotNamed : Type 0
PlainSlotNamed =
    (w v : List ℕ) (base f x : ℤ) (used fuel places : ℕ) (a : PlainAnswer) →
    plain_run w base f x used fuel places ≡ played v a → PlainSlotUsed a
