-- A plain run is done just where the seven rules say so, at their cost: a run is, and the machine is.
use Prim.Native.Nat.{ℕ, ◌+◌, ◌-◌, ◌≤◌}
use mathlib.Core.Path.{◌≡◌, refl, sym, ap, ◌∙◌, subst}
use mathlib.Core.List.{List, [], ◌++◌}
use native.Mathlib.Omega.{arith}
use native.Mathlib.Nat.{zero-add}
use lib.ListN.{length, drop}
use lib.Seq.{drop-append_seam}
use lib.IntN.{ℤ, pos}
use Rattle.calculus.specs.Tree.{Tree}
use Rattle.calculus.specs.BigStep.{Costs}
use Rattle.calculus.specs.Machine.{ended, Outcome}
use Rattle.calculus.specs.Machine as machine
use Rattle.calculus.proofs.DoneStays.{not_done}
use Rattle.calculus.proofs.Stops.{stop_above}
use Rattle.calculus.proofs.DoneByCost.{done_by_cost}
use Rattle.table.specs.Slots.{room}
use Rattle.table.specs.Sound.{SoundSlots}
use Rattle.table.specs.Holds.{Holds}
use Rattle.table.proofs.HoldsLaws.{one_tree}
use Rattle.engine.specs.declared.From.TheVariants.{Scratch}
use Rattle.engine.specs.Answer as run
use Rattle.plain.specs.Run.{plain_run}
use Rattle.plain.specs.Meaning.{Shown, shown, telling, of_run}
use Rattle.plain.proofs.PlainIsRun.{plain_is_run}
use Rattle.guarantees.specs.Agrees.{done_with, Agrees, agrees_done, agrees_stop}
use Rattle.guarantees.specs.Run.{later}
use Rattle.guarantees.specs.Plain.{PlainDoneExactly}
use Rattle.guarantees.proofs.RunSimulates.{run_simulates}
use Rattle.guarantees.proofs.PlainTwin.{lent, lent_room, twin}

-- ---- a run whose answer agrees with an outcome

-- both are done
record BothDone (v : List ℕ) (used : ℕ) (a : run.RunNumbers) (o : Outcome) : Type 0 where
  pub slot : ℕ
  pub tree : Tree
  pub answer : a ≡ done_with slot o.steps (used + length o.made)
  pub holds : Holds v (used + length o.made) slot tree
  pub ending : o.ending ≡ ended tree

module _ {w j v k : List ℕ} {used : ℕ} where
  -- by the number 0, or by the ending
  done_by_number : {a : run.RunNumbers} {o : Outcome} → Agrees w used j v k a o → a.number ≡ 0 → BothDone v used a o
  done_by_number (agrees_done {slot = s} {t = t} h l) e = record { slot = s; tree = t; answer = refl; holds = h; ending = refl }
  done_by_number (agrees_stop {why = why} hf hx hs l) e = absurd (stop_above why e)

  number_by_ending : {a : run.RunNumbers} {o : Outcome} (t : Tree) → Agrees w used j v k a o → o.ending ≡ ended t → a.number ≡ 0
  number_by_ending t (agrees_done h l) e = refl
  number_by_ending t (agrees_stop hf hx hs l) e = not_done e

-- ---- a plain run beside them

slot_same : (a b : ℕ) → ◌≡◌ {A = ℤ} (pos a) (pos b) → a ≡ b
slot_same a b e = cc

held_same : (v u : List ℕ) (n m i k : ℕ) (s t : Tree) → v ≡ u → n ≡ m → i ≡ k → s ≡ t → Holds v n i s → Holds u m k t
held_same v u n m i k s t a b c d h =
    subst (Holds u m k) d
    (subst (λ (z : ℕ). Holds u m z s) c (subst (λ (z : ℕ). Holds u z i s) b (subst (λ (z : List ℕ). Holds z n i s) a h)))

append_same : (before v u : List ℕ) → before ++ v ≡ before ++ u → v ≡ u
append_same before v u e = sym (drop-append_seam before v) ∙ ap (drop (length before)) e ∙ drop-append_seam before u

module _ (before w : List ℕ) (used f x fuel places n m : ℕ) (ft xt t : Tree) (sound : SoundSlots w used) (hf : Holds w used f ft)
    (hx : Holds w used x xt) (low : fuel ≤ 1000) (few : places ≤ 1000) where
  abbrev o : Outcome
  o = machine.run fuel (room w - used) places (machine.machine_start ft xt)

  abbrev ours : Shown
  ours = shown (plain_run (before ++ w) (pos (length before)) (pos f) (pos x) used fuel places)

  abbrev due : List ℕ → ℕ → Shown
  due v slot = record { words = before ++ v; answer = record { number = 0; slot = pos slot; steps = n; used = used + m } }

  simulated : (v : List ℕ) × (k : List ℕ) × (a : run.RunNumbers) × (ours ≡ telling (before ++ v) a)
      × Agrees w used (lent places) v k a (later 0 o)
  simulated =
      let (v, k, a, e, agrees) = run_simulates Scratch before w (lent places) used f x fuel ft xt [] sound hf hx refl (λ z. z) in (
        v,
        k,
        run.run_numbers a,
        twin plain_run plain_is_run (before ++ w) (pos (length before)) (pos f) (pos x) used fuel places low few ∙ ap of_run e,
        rw (lent_room places few) at agrees,
      )

  -- it is done: so is the machine
  gives : (v : List ℕ) (slot : ℕ) → ours ≡ due v slot → Holds v (used + m) slot t →
      (k : ℕ) × Costs ft xt t n m k × (n ≤ fuel) × (used + m ≤ room w) × (k ≤ places)
  gives v slot s h =
      let (u, k, a, e, agrees) = simulated in
      let q : telling (before ++ u) a ≡ due v slot = sym e ∙ s in
      let d = done_by_number agrees (ap (λ (z : Shown). z.answer.number) q) in
      let steps : o.steps ≡ n
      = sym (zero-add o.steps) ∙ sym (ap (λ (z : run.RunNumbers). z.steps) d.answer) ∙ ap (λ (z : Shown). z.answer.steps) q
      in
      let count : used + length o.made ≡ used + m
      = sym (ap (λ (z : run.RunNumbers). z.used) d.answer) ∙ ap (λ (z : Shown). z.answer.used) q
      in
      let made : length o.made ≡ m = omega arith in
      let at : d.slot ≡ slot
      = slot_same d.slot slot (sym (ap (λ (z : run.RunNumbers). z.slot) d.answer) ∙ ap (λ (z : Shown). z.answer.slot) q)
      in
      let words : u ≡ v = append_same before u v (ap (λ (z : Shown). z.words) q) in
      let held : Holds v (used + m) slot d.tree
      = held_same u v _ (used + m) d.slot slot d.tree d.tree words count at refl d.holds
      in
      let tree : d.tree ≡ t = one_tree v (used + m) slot d.tree t held h in
      let is : o ≡ record { ending = ended t; steps = n; made = o.made }
      = λ i. record { ending = (d.ending ∙ ap ended tree) i; steps = steps i; made = o.made }
      in
      let (jobs, c, l, r, p) = (done_by_cost fuel (room w - used) places n m ft xt t).0 (o.made, made, is) in
      (jobs, c, l, omega (arith, r, sound.fits), p)

  -- the rules give t: so does it
  given : (k : ℕ) → Costs ft xt t n m k → n ≤ fuel → used + m ≤ room w → k ≤ places →
      (v : List ℕ) × (slot : ℕ) × (ours ≡ due v slot) × Holds v (used + m) slot t
  given k c l r p =
      let (made, long, is) = (done_by_cost fuel (room w - used) places n m ft xt t).1 (k, c, l, omega arith, p) in
      let (u, j, a, e, agrees) = simulated in
      let ending : o.ending ≡ ended t = ap (λ (z : Outcome). z.ending) is in
      let d = done_by_number agrees (number_by_ending t agrees ending) in
      let steps : 0 + o.steps ≡ n = zero-add o.steps ∙ ap (λ (z : Outcome). z.steps) is in
      let count : used + length o.made ≡ used + m = ap (λ (z : Outcome). used + length z.made) is ∙ ap (λ (z : ℕ). used + z) long in
      let tree : d.tree ≡ t = tree_same d.tree t (sym d.ending ∙ ending) in
      let answer : a ≡ done_with d.slot n (used + m)
      = d.answer ∙ (λ i. done_with d.slot (steps i) (count i))
      in (
        u,
        d.slot,
        e ∙ ap (telling (before ++ u)) answer,
        held_same u u _ (used + m) d.slot d.slot d.tree t refl count refl tree d.holds,
      )
    where
      tree_same : (a b : Tree) → ended a ≡ ended b → a ≡ b
      tree_same a b q = cc

pub plain_done_exactly : PlainDoneExactly
plain_done_exactly before w used f x fuel places n m ft xt t sound hf hx low few = (
  λ (v, slot, s, h). gives before w used f x fuel places n m ft xt t sound hf hx low few v slot s h,
  λ (k, c, l, r, p). given before w used f x fuel places n m ft xt t sound hf hx low few k c l r p,
)
