-- What the parts of the plain engine work on.
use Rattle.std.specs.Prelude.{ℕ, ◌≤◌, ◌<◌, ◌≡◌, List, Ok, Err}
use Rattle.table.specs.declared.slots.Slot.{Slot}
use Rattle.table.specs.declared.slots.Node.TheVariants.{Leaf}
use Rattle.table.specs.Limits.{max_slots}
use Rattle.table.specs.Slots.{Below}
use Rattle.table.specs.Sound.{SlotsPass}
use Rattle.applying.specs.declared.Progress.{Progress}
use Rattle.applying.specs.declared.Task.{Task}
use Rattle.applying.specs.declared.Task.TheVariants.{Make, Give, Go, Both, Then}
use Rattle.applying.specs.Apply.{Applied}

-- what applying f to x works on
pub record Fit (w : List ℕ) (f x : Slot) (p : Progress) : Type 0 where
  pub slots : SlotsPass w p.used
  pub function : f.0 < p.used
  pub argument : x.0 < p.used

-- the slots that a task names are used, and the node that it makes is no leaf
abbrev pub TaskNames : ℕ → Task → Type 0
TaskNames used (Make n) = Below used n × (n ≡ Leaf → ⊥)
TaskNames used (Give t) = t.0 < used
TaskNames used (Go f x) = (f.0 < used) × (x.0 < used)
TaskNames used (Both a b x) = (a.0 < used) × (b.0 < used) × (x.0 < used)
TaskNames used (Then c u v) = (c.0 < used) × (u.0 < used) × (v.0 < used)

-- what carrying out a task works on
pub record Able (w : List ℕ) (task : Task) (p : Progress) : Type 0 where
  pub slots : SlotsPass w p.used
  pub names : TaskNames p.used task
  pub some : 0 < p.left

-- what an application with so much fuel comes to: no more is left, and the slot that is given has a number that the calls have
abbrev pub Ends : ℕ → Applied → Type 0
Ends fuel (Ok (t, p)) = (p.left ≤ fuel) × (t.0 < max_slots)
Ends fuel (Err h) = h.at.left ≤ fuel
