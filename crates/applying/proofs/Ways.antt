-- What the calls of the plain engine work on, and what they leave.
use Prim.Native.Nat.{ℕ, zero, suc, ◌≤◌, ◌<◌}
use mathlib.Core.Path.{◌≡◌, refl, sym, ap, ◌∙◌, subst}
use mathlib.Core.List.{List}
use native.Mathlib.Omega.{arith}
use Rattle.std.specs.Prelude.{Ok, Err}
use Rattle.table.specs.declared.slots.Slot.{Slot}
use Rattle.table.specs.Slots.{room, node_at, Below}
use Rattle.table.proofs.SlotLaws.{room_most}
use Rattle.stepping.proofs.Keeps.{below_more, children}
use Rattle.stepping.specs.declared.stops.Stop.TheVariants.{OutOfFuel}
use Rattle.applying.specs.declared.Progress.{Progress}
use Rattle.applying.specs.declared.Halt.{Halt}
use Rattle.applying.specs.declared.Task.{Task}
use Rattle.applying.specs.declared.Task.TheVariants.{Both, Then}
use Rattle.applying.specs.Rules.{rule}
use Rattle.applying.specs.Apply.{Applied, stopped_at, spend, Came, came, applied_then, carry_out, apply, by_fuel}
use Rattle.applying.specs.Fit.{Fit, TaskNames, Able, Ends}
use Rattle.applying.proofs.RuleLaws.{rule_names}
use Rattle.applying.proofs.Depth.{Falls, apply_falls, apply_none, apply_some, carry_same, fuel_ends}
use Rattle.applying.proofs.Keeps.{Kept, Keeps, apply_keeps}

-- ---- an application

module _ (places waiting : ℕ) (w : List ℕ) (f x : Slot) (p : Progress) where
  pub returns_none : p.left ≡ 0 → came w (stopped_at OutOfFuel p) ≡ apply p.left places waiting w f x p
  returns_none e = sym (apply_none p.left places waiting w f x p e)

  some_at : (l : ℕ) → p.left ≡ l → (l ≡ 0 → ⊥) → carry_out (by_fuel places) places waiting w p (rule w f x) ≡ apply l places waiting w f x p
  some_at zero e z = absurd (z refl)
  some_at (suc l) e z =
      sym (apply_some l places waiting w f x p (omega arith)
      ∙ carry_same (apply l places) (by_fuel places) (apply_falls l places) l (fuel_ends l places) places waiting w p (omega arith) (rule w f x))

  pub returns_some : (p.left ≡ 0 → ⊥) → carry_out (by_fuel places) places waiting w p (rule w f x) ≡ apply p.left places waiting w f x p
  returns_some z = some_at p.left refl z

module _ (w : List ℕ) (f x : Slot) (p : Progress) (fit : Fit w f x p) where
  -- what is read
  pub reads_rule : (f.0 < room w) × (x.0 < room w) × Below (room w) (node_at w f.0)
  reads_rule =
      let g = fit.slots.fits in (
        omega (arith, fit.function, g),
        omega (arith, fit.argument, g),
        below_more p.used (room w) g (node_at w f.0) (children w p.used fit.slots.sound f.0 fit.function),
      )

  -- what is carried out
  pub rule_able : (p.left ≡ 0 → ⊥) → Able w (rule w f x) p
  rule_able z =
      record {
        slots = fit.slots;
        names = rule_names w f x p.used fit.slots fit.function fit.argument;
        some = omega (arith, z);
      }

-- ---- what comes of a first application

pub then_gave : (v : List ℕ) (u : Slot) (q : Progress) (k : List ℕ → Slot → Progress → Came) →
    applied_then (came v (Ok (u, q))) k ≡ k v u q
then_gave v u q k = refl

pub then_halted : (v : List ℕ) (h : Halt) (k : List ℕ → Slot → Progress → Came) → applied_then (came v (Err h)) k ≡ came v (Err h)
then_halted v h k = refl

-- what an application that gives a tree leaves to go on with; r stands for what the call answered
given_on : {w : List ℕ} {f x : Slot} {p : Progress} → Fit w f x p → (places k : ℕ) → {v : List ℕ} {r : Applied} →
    came v r ≡ apply p.left places k w f x p → {u : Slot} {q : Progress} → r ≡ Ok (u, q) → Kept p.used v u q × (q.left ≤ p.left)
given_on {w} {f} {x} {p} fit places k {v} g {u} {q} e =
    let t : apply p.left places k w f x p ≡ came v (Ok (u, q)) = sym g ∙ ap (came v) e in (
      subst (Keeps p.used) t (apply_keeps p.left places k w f x p fit.slots fit.function fit.argument),
      subst (Falls p.left) t (apply_falls p.left places k w f x p),
    )

-- the applications that follow one which takes the step
module _ {w : List ℕ} {p : Progress} {task : Task} (able : Able w task p) {s : Progress} (spent : s ≡ spend p) (places k : ℕ) where
  first : {f x : Slot} → f.0 < p.used → x.0 < p.used → {v : List ℕ} {r : Applied} → came v r ≡ apply s.left places k w f x s →
      {u : Slot} {q : Progress} → r ≡ Ok (u, q) → Kept p.used v u q × (q.left < p.left)
  first {f} {x} hf hx g e =
      let fit : Fit w f x s = rw spent (record { slots = able.slots; function = hf; argument = hx }) in
      let (kept, less) = rw spent at (given_on fit places k g e) in
      (kept, omega (arith, able.some))

  -- of rule 4, b to x, where a to x gave u,
  module _ {a b x : Slot} (h : task ≡ Both a b x) {v₁ : List ℕ} {r₁ : Applied} (g₁ : came v₁ r₁ ≡ apply s.left places k w a x s)
      {u : Slot} {q : Progress} (e₁ : r₁ ≡ Ok (u, q)) where
    pub both_second : Fit v₁ b x q × (q.left < p.left)
    both_second =
        let names = subst (TaskNames p.used) h able.names in
        let (kept, less) = first names.0 names.2 g₁ e₁ in (
          record {
            slots = kept.slots;
            function = omega (arith, names.1, kept.more);
            argument = omega (arith, names.2, kept.more);
          },
          less,
        )

    -- and u to v, where that gave v
    module _ {v₂ : List ℕ} {r₂ : Applied} (g₂ : came v₂ r₂ ≡ apply q.left places k v₁ b x q) {v : Slot} {r : Progress}
        (e₂ : r₂ ≡ Ok (v, r)) where
      pub both_third : Fit v₂ u v r × (r.left < p.left)
      both_third =
          let names = subst (TaskNames p.used) h able.names in
          let (before, less) = first names.0 names.2 g₁ e₁ in
          let (kept, fewer) = given_on both_second.0 places k g₂ e₂ in (
            record { slots = kept.slots; function = omega (arith, before.slot, kept.more); argument = kept.slot },
            omega arith,
          )

  -- of rule 7, t to v, where c to u gave t
  pub then_second : {c u v : Slot} → task ≡ Then c u v → {v₁ : List ℕ} {r₁ : Applied} → came v₁ r₁ ≡ apply s.left places k w c u s →
      {t : Slot} {q : Progress} → r₁ ≡ Ok (t, q) → Fit v₁ t v q × (q.left < p.left)
  then_second h g e =
      let names = subst (TaskNames p.used) h able.names in
      let (kept, less) = first names.0 names.1 g e in
      (record { slots = kept.slots; function = kept.slot; argument = omega (arith, names.2, kept.more) }, less)

-- ---- what it comes to

-- a slot that is given has a number that the calls have
pub ends : {w : List ℕ} {f x : Slot} {p : Progress} → Fit w f x p → (places k : ℕ) → {v : List ℕ} {r : Applied} →
    came v r ≡ apply p.left places k w f x p → Ends p.left r
ends {w} {f} {x} {p} fit places k {v} {r} g =
    by_case r (subst (Keeps p.used) (sym g) (apply_keeps p.left places k w f x p fit.slots fit.function fit.argument))
    (subst (Falls p.left) (sym g) (apply_falls p.left places k w f x p))
  where
    by_case : (r : Applied) → Keeps p.used (came v r) → Falls p.left (came v r) → Ends p.left r
    by_case (Ok (t, q)) kept less = (less, omega (arith, kept.slot, kept.slots.fits, room_most v))
    by_case (Err h) kept less = less
