-- Whether the used slots are sound.
use Rattle.std.specs.Prelude.{ℕ, zero, suc, ◌+◌, ◌*◌, ◌≤◌, ◌<◌, ◌≡◌, Bool, true, ◌&&◌, List, ◌↔◌, leb, eqb, get_or}
use Rattle.calculus.specs.Tree.{leaf}
use Rattle.table.specs.Slots.{room, first_at, second_at}
use Rattle.table.specs.Holds.{Holds}

-- ---- the test

-- slot 0 is (0, 0); in each later slot i the first word is 1 to i and the second 0 to i
unfoldable pub slot_sound : ℕ → ℕ → ℕ → Bool
slot_sound zero p q = eqb p 0 && eqb q 0
slot_sound (suc i) p q = leb 1 p && (leb p (suc i) && leb q (suc i))

-- slot i of w is sound
abbrev pub sound_at : List ℕ → ℕ → Bool
sound_at w i = slot_sound i (first_at w i) (second_at w i)

-- the first n slots are sound
unfoldable pub sound : List ℕ → ℕ → Bool
sound w zero = true
sound w (suc i) = sound w i && sound_at w i

-- the first n slots of a table, within its room, sound: what a run works on
pub record SlotsPass (w : List ℕ) (n : ℕ) : Type 0 where
  pub fits : n ≤ room w
  pub sound : sound w n ≡ true

-- ---- what it says

-- slot 0 is (0, 0); in each later slot i the first word is 1 to i and the second 0 to i
abbrev pub SoundSlot : List ℕ → ℕ → Type 0
SoundSlot w zero = (get_or w 0 0 ≡ 0) × (get_or w 1 0 ≡ 0)
SoundSlot w (suc i) = (1 ≤ get_or w (2 * suc i) 0) × (get_or w (2 * suc i) 0 ≤ suc i) × (get_or w (2 * suc i + 1) 0 ≤ suc i)

-- the first n slots, within the room, are sound
pub record SoundSlots (w : List ℕ) (n : ℕ) : Type 0 where
  pub fits : n ≤ room w
  pub each : (i : ℕ) → i < n → SoundSlot w i

-- The test says just that.
abbrev pub SlotsSoundExactly : Type 0
SlotsSoundExactly = (w : List ℕ) (n : ℕ) → SlotsPass w n ↔ SoundSlots w n

-- In a sound table only slot zero holds the leaf.
abbrev pub OnlyZeroIsLeaf : Type 0
OnlyZeroIsLeaf = (w : List ℕ) (n i : ℕ) → SoundSlots w n → Holds w n i leaf → i ≡ 0
