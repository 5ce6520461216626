-- The ways through a meeting.
use Prim.Native.Nat.{ℕ, zero, suc, ◌-◌}
use mathlib.Core.Path.{◌≡◌, refl}
use mathlib.Core.List.{List}
use native.Mathlib.Numerals.{sub-one}
use Rattle.table.specs.declared.slots.Slot.{Slot}
use Rattle.frames.specs.Frames.{frame_at}
use Rattle.stepping.specs.declared.Turn.TheVariants.{Done}
use Rattle.stepping.specs.Step.{met, meet_frame, meet}

-- slot t meets no frame, or the newest
module _ (j : List ℕ) (t : Slot) (used : ℕ) where
  pub meet_none : meet j t used 0 ≡ met j (Done t used)
  unfolding meet
  meet_none = refl

  pub meet_newest : (waiting : ℕ) → (waiting ≡ 0 → ⊥) →
      meet j t used waiting ≡ meet_frame j t used (waiting - 1) (frame_at j (waiting - 1))
  unfolding meet
  meet_newest zero h = absurd (h refl)
  meet_newest (suc k) h = rw sub-one
