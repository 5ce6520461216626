-- The fuel never grows, and so a depth of as much as the fuel is deep enough.
use Prim.Native.Nat.{ℕ, zero, suc, ◌+◌, ◌-◌, ◌≤◌}
use mathlib.Core.Path.{◌≡◌, refl, sym, ap, ◌∙◌}
use mathlib.Core.Bool.{cond}
use mathlib.Core.List.{List}
use native.Mathlib.Omega.{arith}
use lib.Dec.{ltb, eqb}
use borrow.Author.Tests.{eq-eqb, ne_eqb}
use Rattle.table.specs.declared.slots.Slot.{Slot}
use Rattle.table.specs.Slots.{room}
use Rattle.table.proofs.Tests.{by_test}
use Rattle.stepping.specs.declared.stops.Stop.TheVariants.{OutOfFuel, OutOfPlaces}
use Rattle.applying.specs.declared.Progress.{Progress}
use Rattle.std.specs.Prelude.{Ok, Err}
use Rattle.applying.specs.declared.Task.{Task}
use Rattle.applying.specs.declared.Task.TheVariants.{Make, Give, Go, Both, Then}
use Rattle.applying.specs.Rules.{rule}
use Rattle.applying.specs.Apply.{stopped_at, Came, came, applied_then, spend, make, Application, carry_out, apply, FuelEnds}

-- ---- the fuel never grows

-- no more than n is left
abbrev pub Falls : ℕ → Came → Type 0
Falls n (came w (Ok (t, q))) = q.left ≤ n
Falls n (came w (Err h)) = h.at.left ≤ n

falls_more : (n m : ℕ) → n ≤ m → (c : Came) → Falls n c → Falls m c
falls_more n m h (came w (Ok (t, q))) l = omega arith
falls_more n m h (came w (Err e)) l = omega arith

then_falls : (n : ℕ) (c : Came) (k : List ℕ → Slot → Progress → Came) → Falls n c →
    ((w : List ℕ) (t : Slot) (q : Progress) → q.left ≤ n → Falls n (k w t q)) → Falls n (applied_then c k)
then_falls n (came w (Ok (t, q))) k h g = g w t q h
then_falls n (came w (Err e)) k h g = h

-- of an application
abbrev Falling : Application → Type 0
Falling next = (k : ℕ) (w : List ℕ) (f x : Slot) (p : Progress) → Falls p.left (next k w f x p)

module _ (next : Application) (falls : Falling next) (places waiting : ℕ) where
  next_falls : (n k : ℕ) (w : List ℕ) (f x : Slot) (p : Progress) → p.left ≤ n → Falls n (next k w f x p)
  next_falls n k w f x p h = falls_more p.left n h (next k w f x p) (falls k w f x p)

  carry_falls : (w : List ℕ) (p : Progress) (task : Task) → Falls p.left (carry_out next places waiting w p task)
  unfolding carry_out make
  carry_falls w p (Make m) = by_test (Falls p.left) (ltb p.used (room w)) (λ _. omega arith) (λ _. omega arith)
  carry_falls w p (Give t) = omega arith
  carry_falls w p (Go f x) = next_falls p.left _ w f x (spend p) (omega arith)
  carry_falls w p (Both a b x) =
      by_test (Falls p.left) (ltb waiting places)
      (λ _. then_falls p.left (next (waiting + 1) w a x (spend p)) _ (next_falls p.left (waiting + 1) w a x (spend p) (omega arith))
      (λ w₁ u q l. then_falls p.left (next (waiting + 1) w₁ b x q) _ (next_falls p.left (waiting + 1) w₁ b x q l)
      (λ w₂ v r m. next_falls p.left _ w₂ u v r m)))
      (λ _. omega arith)
  carry_falls w p (Then c u v) =
      by_test (Falls p.left) (ltb waiting places)
      (λ _. then_falls p.left (next (waiting + 1) w c u (spend p)) _ (next_falls p.left (waiting + 1) w c u (spend p) (omega arith))
      (λ w₁ t q l. next_falls p.left _ w₁ t v q l))
      (λ _. omega arith)

pub apply_falls : (d places : ℕ) → Falling (apply d places)
unfolding apply
apply_falls zero places k w f x p = omega arith
apply_falls (suc d) places k w f x p =
    by_test (Falls p.left) (eqb p.left 0) (λ _. omega arith)
    (λ _. carry_falls (apply d places) (apply_falls d places) places k w p (rule w f x))

-- ---- the depth

then_same : (n : ℕ) (c c' : Came) (k k' : List ℕ → Slot → Progress → Came) → c ≡ c' → Falls n c →
    ((w : List ℕ) (t : Slot) (q : Progress) → q.left ≤ n → k w t q ≡ k' w t q) → applied_then c k ≡ applied_then c' k'
then_same n (came w (Ok (t, q))) c' k k' e h g = g w t q h ∙ ap (λ (c : Came). applied_then c k') e
then_same n (came w (Err s)) c' k k' e h g = ap (λ (c : Came). applied_then c k') e

-- two that come to the same with n or less
module _ (next next' : Application) (falls : Falling next) (n : ℕ)
    (same : (k : ℕ) (w : List ℕ) (f x : Slot) (p : Progress) → p.left ≤ n → next k w f x p ≡ next' k w f x p) (places waiting : ℕ) where
  next_same : (k : ℕ) (w : List ℕ) (f x : Slot) (p : Progress) → p.left ≤ n → (g g' : List ℕ → Slot → Progress → Came) →
      ((v : List ℕ) (t : Slot) (q : Progress) → q.left ≤ n → g v t q ≡ g' v t q) →
      applied_then (next k w f x p) g ≡ applied_then (next' k w f x p) g'
  next_same k w f x p h g g' e =
      then_same n (next k w f x p) (next' k w f x p) g g' (same k w f x p h)
      (falls_more p.left n h (next k w f x p) (falls k w f x p)) e

  pub carry_same : (w : List ℕ) (p : Progress) → p.left - 1 ≤ n → (task : Task) →
      carry_out next places waiting w p task ≡ carry_out next' places waiting w p task
  unfolding carry_out
  carry_same w p h (Make m) = refl
  carry_same w p h (Give t) = refl
  carry_same w p h (Go f x) = same _ w f x (spend p) h
  carry_same w p h (Both a b x) =
      ap (λ (c : Came). cond (ltb waiting places) c (came w (stopped_at OutOfPlaces p)))
      (next_same (waiting + 1) w a x (spend p) h _ _
      (λ w₁ u q l. next_same (waiting + 1) w₁ b x q l _ _ (λ w₂ v r m. same _ w₂ u v r m)))
  carry_same w p h (Then c u v) =
      ap (λ (c : Came). cond (ltb waiting places) c (came w (stopped_at OutOfPlaces p)))
      (next_same (waiting + 1) w c u (spend p) h _ _ (λ w₁ t q l. same _ w₁ t v q l))

-- no fuel is left
pub apply_none : (d places k : ℕ) (w : List ℕ) (f x : Slot) (p : Progress) → p.left ≡ 0 → apply d places k w f x p ≡ came w (stopped_at OutOfFuel p)
unfolding apply
apply_none zero places k w f x p e = refl
apply_none (suc d) places k w f x p e = simp (eq-eqb p.left 0 e)

-- some is left
pub apply_some : (d places k : ℕ) (w : List ℕ) (f x : Slot) (p : Progress) → (p.left ≡ 0 → ⊥) →
    apply (suc d) places k w f x p ≡ carry_out (apply d places) places k w p (rule w f x)
unfolding apply
apply_some d places k w f x p z = simp (ne_eqb p.left 0 z)

pub apply_deep : (d e places k : ℕ) (w : List ℕ) (f x : Slot) (p : Progress) → p.left ≤ d → p.left ≤ e →
    apply d places k w f x p ≡ apply e places k w f x p
unfolding apply
apply_deep zero e places k w f x p h g = sym (apply_none e places k w f x p (omega arith))
apply_deep (suc d) zero places k w f x p h g = apply_none (suc d) places k w f x p (omega arith)
apply_deep (suc d) (suc e) places k w f x p h g =
    ap (λ (c : Came). cond (eqb p.left 0) (came w (stopped_at OutOfFuel p)) c)
    (carry_same (apply d places) (apply e places) (apply_falls d places) (p.left - 1)
    (λ k' w' f' x' q l. apply_deep d e places k' w' f' x' q (omega arith) (omega arith)) places k w p (omega arith) (rule w f x))

pub fuel_ends : FuelEnds
fuel_ends d places k w f x p h = apply_deep d p.left places k w f x p h (omega arith)
