-- What a run leaves at a stop may be carried on: its slots and its jobs are sound, so that nothing but 40 is left to refuse it.
use Prim.Native.Nat.{ℕ, ◌+◌, ◌≤◌}
use mathlib.Core.Path.{◌≡◌, refl, sym, ap, ◌∙◌, subst}
use mathlib.Core.Bool.{true}
use mathlib.Core.List.{List, ◌++◌}
use mathlib.Core.Logic.{◌⊎◌, inl, inr}
use native.Mathlib.Omega.{arith}
use native.Mathlib.Decide.{dec_lt}
use lib.ListN.{length, take}
use lib.Seq.{length-take-le}
use lib.IntN.{ℤ, pos}
use Rattle.calculus.specs.Machine.{Outcome}
use Rattle.table.specs.Slots.{slot}
use Rattle.table.proofs.SoundLaws.{slots_sound}
use Rattle.frames.proofs.SoundFrames.{standing_sound}
use Rattle.engine.specs.Admission.{max_steps}
use Rattle.engine.specs.Run.{Ran, ran, drive, state_from, ran_with, run_from}
use Rattle.engine.specs.declared.From.{From}
use Rattle.engine.specs.declared.From.TheVariants.{Stop}
use Rattle.engine.specs.Answer.{RunAnswer, RunNumbers, run_numbers}
use Rattle.guarantees.specs.Agrees.{Agrees, agrees_done, agrees_stop}
use Rattle.guarantees.specs.Run.{started as let-start, RefusedWith}
use Rattle.guarantees.specs.Onward.{numbers_of, MayGoOn, StopsCarryOn}
use Rattle.guarantees.proofs.Calls.{go_too_many, run_behind}
use Rattle.guarantees.proofs.RunSimulates.{admitted, starts, run_simulates}
use Rattle.guarantees.proofs.Verdict.{Ended, unrefused, drive_ended}
use Rattle.guarantees.proofs.Verdict.{out, misplaced, damaged, at_last, started, Judged, verdict}
use Rattle.guarantees.proofs.Begins.{Begins, begins, comes}

-- let start, or refused with 40
abbrev LetOn : List ℕ → List ℕ → Ran → Type 0
LetOn w j r = (let-start (numbers_of r).number ≡ true) ⊎ RefusedWith 40 w j r

started_on : (before : List ℕ) (r : Ran) → Ended r → let-start (numbers_of (ran_with before r)).number ≡ true
started_on before (ran w j a) h = unrefused (ran w j a) h

-- what agrees with the machine and is stopped
agrees_on : {w j v k : List ℕ} {n : ℕ} {a : RunNumbers} {o : Outcome} → Agrees w n j v k a o → 31 ≤ a.number
    → (more : ℕ) (before : List ℕ)
    → LetOn (before ++ v) k
    (run_from (Stop a.waiting a.steps) (before ++ v) (pos (length before)) a.f a.x a.used more k)
agrees_on (agrees_done h l) g more before = absurd (omega arith)
agrees_on {v = v} {k = k} {n = n}
    (agrees_stop {f = f} {x = x} {steps = steps} {ft = ft} {xt = xt} {frames = frames} {made = made} hf hx stand l) g more before =
    let used = n + length made in
    let from = Stop (length frames) steps in
    let good = (slots_sound v used).1 l.slots in
    let jobs = standing_sound v used k frames l.places stand l.above in
    let s = state_from from (slot f) (slot x) used in
    rw (run_behind from before v k (pos f) (pos x) used more)
    (elim (dec_lt max_steps (steps + more)) [
      | yes h ↦
          rw (go_too_many (length frames) steps v more k (pos f) (pos x) used (admitted v used f x good hf hx) jobs h)
          (inr (refl, refl, refl))
      | no h ↦
          rw (starts from v k used f x more ft xt frames good hf hx (jobs, refl, stand) h)
          (inl (started_on before (drive more steps v k s) (drive_ended more steps v k s)))
    ])

agrees_may : {w j v k : List ℕ} {n : ℕ} {o : Outcome} {base : ℤ} (a : RunAnswer) (before : List ℕ) → base ≡ pos (length before)
    → Agrees w n j v k (run_numbers a) o → (more : ℕ) → MayGoOn base more (ran (before ++ v) k a)
agrees_may a before e agrees more h = rw e (agrees_on agrees h.0 more before)

module _ (from : From) (w j : List ℕ) (base f x : ℤ) (used fuel more : ℕ) where
  may : Begins from w j base f x used fuel → MayGoOn base more (run_from from w base f x used fuel j)
  may s =
      let (v, k, a, e, agrees) = comes s (run_from from) (run_simulates from) in
      subst (MayGoOn base more) (sym e)
      (agrees_may a (take s.at w) (s.base_is ∙ ap pos (sym (length-take-le s.at w s.inside))) agrees more)

  judged : (r : Ran) → Judged from w j base f x used fuel r → run_from from w base f x used fuel j ≡ r → MayGoOn base more r
  judged r (out o) e = λ h. absurd (omega (arith, h.0))
  judged r (misplaced o m) e = λ h. absurd (omega (arith, h.0))
  judged r (damaged o m d) e = λ h. absurd (omega (arith, h.0))
  judged r (at_last o m d n) e = λ h. absurd (omega (arith, h.1))
  judged r (started o m d n u) e = subst (MayGoOn base more) e (may (begins from w j base f x used fuel o m d n))

pub stops_carry_on : StopsCarryOn
stops_carry_on from w j base f x used fuel more =
    judged from w j base f x used fuel more (run_from from w base f x used fuel j) (verdict from w j base f x used fuel) refl
