-- A refusal changes nothing and has a number of the list, and the number tells which case is answered: by the call's verdict.
use Prim.Native.Nat.{ℕ}
use mathlib.Core.Path.{◌≡◌, refl, sym, ap, ◌∙◌, subst}
use mathlib.Core.Bool.{false, false≢true}
use mathlib.Core.List.{List}
use mathlib.Core.Logic.{◌⊎◌, inl, inr}
use native.Mathlib.Omega.{arith}
use Rattle.std.specs.Prelude.{Ok, Err}
use Rattle.engine.specs.declared.Ending.TheVariants.{Done, Stopped}
use Rattle.engine.specs.Run.{Ran, ran}
use Rattle.engine.specs.Answer.{RunAnswer, RunNumbers, run_numbers}
use Rattle.guarantees.specs.Run.{started as let-start, RefusedWith, Listed, RefusalKeeps, Tells, OneAnswer, NumberTells}
use Rattle.guarantees.proofs.Verdict.{Ended, Unrefused, unrefused, listed, listed_above, listed_apart, verdict}

module _ (w j v k : List ℕ) (a : RunAnswer) where
  kept : (n : ℕ) → ran w j (Err n) ≡ ran v k a → RefusedWith n w j (ran v k a)
  kept n e = subst (RefusedWith n w j) e (refl, refl, refl)

  keeps : {r : Ran} → r ≡ ran v k a → let-start (run_numbers a).number ≡ false → Ended r ⊎ ((n : ℕ) × (r ≡ ran w j (Err n)) × Listed 40 n) →
      (n : ℕ) × RefusedWith n w j (ran v k a) × Listed 40 n
  keeps {r} e s (inl h) = absurd (false≢true (sym s ∙ subst Unrefused e (unrefused r h)))
  keeps e s (inr (n, q, l)) = (n, kept n (sym q ∙ e), l)

pub refusal_keeps : RefusalKeeps
refusal_keeps from w v j k base f x used fuel a e s = keeps w j v k a e s (listed (verdict from w j base f x used fuel))

-- the same of the case that is answered
abbrev Telling : Ran → Type 0
Telling (ran w j a) = Tells a

ended_tells : (r : Ran) → Ended r → Telling r
ended_tells (ran w j (Err n)) h = absurd h
ended_tells (ran w j (Ok (Done slot steps used))) h = h
ended_tells (ran w j (Ok (Stopped n f x steps used waiting))) h = h

tells : {w j : List ℕ} {r : Ran} → Ended r ⊎ ((n : ℕ) × (r ≡ ran w j (Err n)) × Listed 40 n) → Telling r
tells {r = r} (inl h) = ended_tells r h
tells (inr (n, q, l)) = subst Telling (sym q) l

pub number_tells : NumberTells
number_tells from w v j k base f x used fuel a e = subst Telling e (tells {w = w} {j = j} (listed (verdict from w j base f x used fuel)))

number_same : {a b : RunNumbers} → a ≡ b → a.number ≡ b.number
number_same e = ap (λ (x : RunNumbers). x.number) e

-- and the numbers tell the answer
pub one_answer : OneAnswer
one_answer (Err n) (Err m) h g e = ap Err (number_same e)
one_answer (Ok (Done s k u)) (Ok (Done s' k' u')) h g e =
    cc (ap (λ (x : RunNumbers). x.slot) e, ap (λ (x : RunNumbers). x.steps) e, ap (λ (x : RunNumbers). x.used) e)
one_answer (Ok (Stopped n f x k u w)) (Ok (Stopped n' f' x' k' u' w')) h g e =
    cc (
      number_same e,
      ap (λ (x : RunNumbers). x.f) e,
      ap (λ (x : RunNumbers). x.x) e,
      ap (λ (x : RunNumbers). x.steps) e,
      ap (λ (x : RunNumbers). x.used) e,
      ap (λ (x : RunNumbers). x.waiting) e,
    )
one_answer (Err n) (Ok (Done s k u)) h g e = absurd (listed_above {last = 40} (omega arith) h (number_same e))
one_answer (Err n) (Ok (Stopped m f x k u w)) h g e = absurd (listed_apart {last = 40} (omega arith) h g (number_same e))
one_answer (Ok (Done s k u)) (Err n) h g e = absurd (listed_above {last = 40} (omega arith) g (sym (number_same e)))
one_answer (Ok (Done s k u)) (Ok (Stopped m f x k' u' w)) h g e = let q = number_same e in absurd (omega (arith, g.0, q))
one_answer (Ok (Stopped m f x k u w)) (Err n) h g e = absurd (listed_apart {last = 40} (omega arith) g h (sym (number_same e)))
one_answer (Ok (Stopped m f x k u w)) (Ok (Done s k' u')) h g e = let q = number_same e in absurd (omega (arith, h.0, q))
