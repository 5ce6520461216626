-- What an application gives: sound used slots, with its tree among them.
use Prim.Native.Nat.{ℕ, zero, suc, ◌+◌, ◌≤◌, ◌<◌}
use mathlib.Core.List.{List}
use native.Mathlib.Omega.{arith}
use lib.Dec.{ltb, eqb}
use borrow.Author.Tests.{ltb-true}
use Rattle.table.specs.declared.slots.Slot.{Slot}
use Rattle.table.specs.Slots.{room}
use Rattle.table.specs.Sound.{SlotsPass}
use Rattle.table.proofs.Tests.{by_test}
use Rattle.table.proofs.SoundLaws.{sound_next}
use Rattle.applying.specs.declared.Progress.{Progress}
use Rattle.std.specs.Prelude.{Ok, Err}
use Rattle.applying.specs.declared.Task.{Task}
use Rattle.applying.specs.declared.Task.TheVariants.{Make, Give, Go, Both, Then}
use Rattle.applying.specs.Rules.{rule}
use Rattle.applying.specs.Fit.{TaskNames}
use Rattle.applying.specs.Apply.{Came, came, applied_then, spend, make, Application, carry_out, apply}
use Rattle.applying.proofs.RuleLaws.{rule_names}

-- where so many slots were used
pub record Kept (used : ℕ) (w : List ℕ) (t : Slot) (q : Progress) : Type 0 where
  pub slots : SlotsPass w q.used
  pub slot : t.0 < q.used
  pub more : used ≤ q.used

abbrev pub Keeps : ℕ → Came → Type 0
Keeps used (came w (Ok (t, q))) = Kept used w t q
Keeps used (came w (Err h)) = Unit {0}

keeps_on : (n m : ℕ) → n ≤ m → (c : Came) → Keeps m c → Keeps n c
keeps_on n m h (came w (Ok (t, q))) k = record { slots = k.slots; slot = k.slot; more = omega (arith, k.more) }
keeps_on n m h (came w (Err e)) k = tt

then_keeps : (n : ℕ) (c : Came) (k : List ℕ → Slot → Progress → Came) → Keeps n c →
    ((w : List ℕ) (t : Slot) (q : Progress) → Kept n w t q → Keeps q.used (k w t q)) → Keeps n (applied_then c k)
then_keeps n (came w (Ok (t, q))) k h g = keeps_on n q.used h.more (k w t q) (g w t q h)
then_keeps n (came w (Err e)) k h g = tt

-- of an application
abbrev Keeping : Application → Type 0
Keeping next =
    (k : ℕ) (w : List ℕ) (f x : Slot) (p : Progress) → SlotsPass w p.used → f.0 < p.used → x.0 < p.used →
    Keeps p.used (next k w f x p)

module _ (next : Application) (keeps : Keeping next) (places waiting : ℕ) where
  carry_keeps : (w : List ℕ) (p : Progress) → SlotsPass w p.used → (task : Task) → TaskNames p.used task →
      Keeps p.used (carry_out next places waiting w p task)
  unfolding carry_out make
  carry_keeps w p good (Make m) h =
      by_test (Keeps p.used) (ltb p.used (room w))
      (λ e. record {
        slots = sound_next w p.used m good (ltb-true p.used (room w) e) h.0 h.1;
        slot = omega arith;
        more = omega arith;
      })
      (λ _. tt)
  carry_keeps w p good (Give t) h = record { slots = good; slot = h; more = omega arith }
  carry_keeps w p good (Go f x) h = keeps _ w f x (spend p) good h.0 h.1
  carry_keeps w p good (Both a b x) h =
      by_test (Keeps p.used) (ltb waiting places)
      (λ _. then_keeps p.used (next (waiting + 1) w a x (spend p)) _ (keeps (waiting + 1) w a x (spend p) good h.0 h.2)
      (λ w₁ u q g. then_keeps q.used (next (waiting + 1) w₁ b x q) _
      (keeps (waiting + 1) w₁ b x q g.slots (omega (arith, g.more, h.1)) (omega (arith, g.more, h.2)))
      (λ w₂ v r l. keeps _ w₂ u v r l.slots (omega (arith, g.slot, l.more)) l.slot)))
      (λ _. tt)
  carry_keeps w p good (Then c u v) h =
      by_test (Keeps p.used) (ltb waiting places)
      (λ _. then_keeps p.used (next (waiting + 1) w c u (spend p)) _ (keeps (waiting + 1) w c u (spend p) good h.0 h.1)
      (λ w₁ t q g. keeps _ w₁ t v q g.slots g.slot (omega (arith, g.more, h.2))))
      (λ _. tt)

pub apply_keeps : (d places : ℕ) → Keeping (apply d places)
unfolding apply
apply_keeps zero places k w f x p good hf hx = tt
apply_keeps (suc d) places k w f x p good hf hx =
    by_test (Keeps p.used) (eqb p.left 0) (λ _. tt)
    (λ _. carry_keeps (apply d places) (apply_keeps d places) places k w p good (rule w f x)
    (rule_names w f x p.used good hf hx))
