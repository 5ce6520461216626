-- An application by the plain engine: one part applies, the other carries out what the rule left.
use Rattle.std.specs.Prelude.{ℕ, zero, suc, ◌+◌, ◌-◌, ◌≤◌, ◌≡◌, cond, List, ltb, eqb, Result, Ok, Err}
use Rattle.table.specs.declared.slots.Slot.{Slot}
use Rattle.table.specs.declared.slots.Node.{Node}
use Rattle.table.specs.Slots.{slot, room, put_node}
use Rattle.stepping.specs.declared.stops.Stop.{Stop}
use Rattle.stepping.specs.declared.stops.Stop.TheVariants.{OutOfFuel, OutOfSlots, OutOfPlaces}
use Rattle.applying.specs.declared.Progress.{Progress}
use Rattle.applying.specs.declared.Halt.{Halt}
use Rattle.applying.specs.declared.Task.{Task}
use Rattle.applying.specs.declared.Task.TheVariants.{Make, Give, Go, Both, Then}
use Rattle.applying.specs.Rules.{rule}

-- what an application comes to: the tree in a slot, or why it stops, and how far it has come
abbrev pub Applied : Type 0
Applied = Result (Slot × Progress) Halt

abbrev pub stopped_at : Stop → Progress → Applied
stopped_at why p = Err (record { why = why; at = p })

-- the word table then, and what an application comes to
pub data Came : Type 0 where
  came : List ℕ → Applied → Came

-- what is given goes on; a stop is passed on
abbrev pub applied_then : Came → (List ℕ → Slot → Progress → Came) → Came
applied_then (came w (Ok (t, p))) next = next w t p
applied_then (came w (Err h)) next = came w (Err h)

-- a step more
abbrev pub spend : Progress → Progress
spend p = record { left = p.left - 1; used = p.used }

-- a slot more
abbrev pub grow : Progress → Progress
grow p = record { left = p.left; used = p.used + 1 }

-- a new node takes the next slot, where one is left
unfoldable pub make : List ℕ → Progress → Node → Came
make w p n =
    cond (ltb p.used (room w))
    (came (put_node w p.used n) (Ok (slot p.used, grow (spend p))))
    (came w (stopped_at OutOfSlots p))

-- how one slot is applied to another, while so many jobs wait
abbrev pub Application : Type 0
Application = ℕ → List ℕ → Slot → Slot → Progress → Came

-- the paper's "continue": by how the next applications go, the places for jobs, and how many wait, where a place is left for one more
unfoldable pub carry_out : Application → ℕ → ℕ → List ℕ → Progress → Task → Came
-- 1 and 2
carry_out next places waiting w p (Make n) = make w p n
-- 3 and 5
carry_out next places waiting w p (Give t) = came w (Ok (t, spend p))
-- 6
carry_out next places waiting w p (Go f x) = next waiting w f x (spend p)
-- 4: a job waits while a is applied to x, which gives u, and while b is, which gives v; then u is applied to v
carry_out next places waiting w p (Both a b x) =
    cond (ltb waiting places)
    (applied_then (next (waiting + 1) w a x (spend p))
    (λ w₁ u p₁. applied_then (next (waiting + 1) w₁ b x p₁)
    (λ w₂ v p₂. next waiting w₂ u v p₂)))
    (came w (stopped_at OutOfPlaces p))
-- 7: a job waits while c is applied to u, which gives t; then t is applied to v
carry_out next places waiting w p (Then c u v) =
    cond (ltb waiting places)
    (applied_then (next (waiting + 1) w c u (spend p))
    (λ w₁ t p₁. next waiting w₁ t v p₁))
    (came w (stopped_at OutOfPlaces p))

-- Where no fuel is left, it stops. The depth starts as the fuel, and a next application has less of both.
unfoldable pub apply : ℕ → ℕ → Application
apply zero places waiting w f x p = came w (stopped_at OutOfFuel p)
apply (suc depth) places waiting w f x p =
    cond (eqb p.left 0) (came w (stopped_at OutOfFuel p)) (carry_out (apply depth places) places waiting w p (rule w f x))

-- to the depth of the fuel
abbrev pub by_fuel : ℕ → Application
by_fuel places waiting w f x p = apply p.left places waiting w f x p

-- So it is the fuel that ends it: any depth that is no less comes to the same.
abbrev pub FuelEnds : Type 0
FuelEnds =
    (depth places waiting : ℕ) (w : List ℕ) (f x : Slot) (p : Progress) → p.left ≤ depth →
    apply depth places waiting w f x p ≡ apply p.left places waiting w f x p
