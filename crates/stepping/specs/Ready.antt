-- What a step works on: sound used slots, an f and an x among them, and frames that name only those.
use Rattle.std.specs.Prelude.{ℕ, ◌≤◌, ◌<◌, ◌≡◌, List}
use Rattle.table.specs.declared.slots.Node.TheVariants.{Leaf}
use Rattle.table.specs.Limits.{max_slots}
use Rattle.table.specs.Slots.{Below}
use Rattle.table.specs.Sound.{SlotsPass}
use Rattle.frames.specs.Frames.{frame_room, frame_at, FrameNames}
use Rattle.stepping.specs.declared.State.{State}
use Rattle.stepping.specs.Rules.{SlotAction, Make, Give, Go, Push}

pub record Runnable (w : List ℕ) (s : State) : Type 0 where
  pub slots : SlotsPass w s.used
  pub f : s.f.0 < s.used
  pub x : s.x.0 < s.used

pub record Waits (j : List ℕ) (used waiting : ℕ) : Type 0 where
  pub fits : waiting ≤ frame_room j
  pub names : (k : ℕ) → k < waiting → FrameNames used (frame_at j k)

-- the slots that an action names are used, and the node that it makes is no leaf
abbrev pub Asks : ℕ → SlotAction → Type 0
Asks used (Make n) = Below used n × (n ≡ Leaf → ⊥)
Asks used (Give t) = t.0 < used
Asks used (Go f x) = (f.0 < used) × (x.0 < used)
Asks used (Push f x k) = (f.0 < used) × (x.0 < used) × FrameNames used k

-- what carrying out an action works on
pub record Carries (j : List ℕ) (s : State) (a : SlotAction) : Type 0 where
  pub most : s.used ≤ max_slots
  pub waits : Waits j s.used s.waiting
  pub asks : Asks s.used a
