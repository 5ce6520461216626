-- A plain run is refused exactly for its reasons; a refusal changes nothing and has a number of the list, and the number tells which case
-- is answered: by its verdict.
use Prim.Native.Nat.{ℕ}
use mathlib.Core.Path.{◌≡◌, refl, sym, ap, ◌∙◌, subst}
use mathlib.Core.Bool.{true, false, false≢true, or-true}
use mathlib.Core.List.{List}
use mathlib.Core.Logic.{◌⊎◌, inl, inr}
use native.Mathlib.Omega.{arith}
use borrow.Author.Tests.{le-leb}
use Rattle.plain.specs.declared.PlainEnding.TheVariants.{Done, Stopped}
use Rattle.std.specs.Prelude.{Ok, Err}
use Rattle.plain.specs.Answer.{PlainAnswer, PlainNumbers, plain_numbers}
use Rattle.plain.specs.Run.{Played, played, plain_run}
use Rattle.plain.specs.Meaning.{Shown, shown}
use Rattle.guarantees.specs.Run.{started as let-start, Listed}
use Rattle.guarantees.specs.Plain.{refused, PlainRefusedExactly, PlainRefusalKeeps}
use Rattle.guarantees.specs.Plain.{PlainTells, PlainNumberTells, PlainOneAnswer}
use Rattle.guarantees.proofs.Verdict.{listed, listed_above, listed_apart}
use Rattle.guarantees.proofs.RefusedExactly.{in_order}
use Rattle.guarantees.proofs.PlainVerdict.{Goes, plain_verdict}

-- its number is that of a run that was let start
goes_started : (r : Played) → Goes r → let-start (shown r).answer.number ≡ true
goes_started (played w (Err n)) h = absurd h
goes_started (played w (Ok (Done slot steps used))) h = refl
goes_started (played w (Ok (Stopped n steps used))) h = rw (le-leb 31 n h.0, le-leb n 33 h.1, or-true)

not_started : (w : List ℕ) (n : ℕ) → let-start n ≡ false → (r : Played) → Goes r → shown r ≡ refused n w → ⊥
not_started w n z r h e =
    false≢true (sym z ∙ sym (ap (λ (s : Shown). let-start s.answer.number) e) ∙ goes_started r h)

pub plain_refused_exactly : PlainRefusedExactly plain_run
plain_refused_exactly w base f x used fuel places =
    in_order (λ (n : ℕ). played w (Err n)) 49 Goes (λ n r. shown r ≡ refused n w) (omega arith) refl (λ n. refl)
    (λ n m e. ap (λ (s : Shown). s.answer.number) e) (not_started w) _ _ _ _ (plain_verdict w base f x used fuel places)

-- ---- the list

module _ (w v : List ℕ) (a : PlainAnswer) where
  kept : (n : ℕ) → played w (Err n) ≡ played v a → shown (played v a) ≡ refused n w
  kept n e = sym (ap shown e)

  keeps : {r : Played} → r ≡ played v a → let-start (plain_numbers a).number ≡ false →
      Goes r ⊎ ((n : ℕ) × (r ≡ played w (Err n)) × Listed 49 n) → (n : ℕ) × (shown (played v a) ≡ refused n w) × Listed 49 n
  keeps {r} e s (inl h) =
      absurd (false≢true (sym s ∙ sym (ap (λ (p : Played). let-start (shown p).answer.number) e) ∙ goes_started r h))
  keeps e s (inr (n, q, l)) = (n, kept n (sym q ∙ e), l)

pub plain_refusal_keeps : PlainRefusalKeeps
plain_refusal_keeps w v base f x used fuel places a e s = keeps w v a e s (listed (plain_verdict w base f x used fuel places))

-- ---- the case that is answered

abbrev Telling : Played → Type 0
Telling (played w a) = PlainTells a

goes_tells : (r : Played) → Goes r → Telling r
goes_tells (played w (Err n)) h = absurd h
goes_tells (played w (Ok (Done slot steps used))) h = h
goes_tells (played w (Ok (Stopped n steps used))) h = h

tells : {w : List ℕ} {r : Played} → Goes r ⊎ ((n : ℕ) × (r ≡ played w (Err n)) × Listed 49 n) → Telling r
tells {r = r} (inl h) = goes_tells r h
tells (inr (n, q, l)) = subst Telling (sym q) l

pub plain_number_tells : PlainNumberTells plain_run
plain_number_tells w v base f x used fuel places a e = subst Telling e (tells {w = w} (listed (plain_verdict w base f x used fuel places)))

number_same : {a b : PlainNumbers} → a ≡ b → a.number ≡ b.number
number_same e = ap (λ (n : PlainNumbers). n.number) e

pub plain_one_answer : PlainOneAnswer
plain_one_answer (Err n) (Err m) h g e = ap (λ (i : ℕ). Err i) (number_same e)
plain_one_answer (Ok (Done s k u)) (Ok (Done s' k' u')) h g e =
    cc (ap (λ (x : PlainNumbers). x.slot) e, ap (λ (x : PlainNumbers). x.steps) e, ap (λ (x : PlainNumbers). x.used) e)
plain_one_answer (Ok (Stopped n k u)) (Ok (Stopped n' k' u')) h g e =
    cc (number_same e, ap (λ (x : PlainNumbers). x.steps) e, ap (λ (x : PlainNumbers). x.used) e)
plain_one_answer (Err n) (Ok (Done s k u)) h g e = absurd (listed_above {last = 49} (omega arith) h (number_same e))
plain_one_answer (Err n) (Ok (Stopped m k u)) h g e = absurd (listed_apart {last = 49} (omega arith) h g (number_same e))
plain_one_answer (Ok (Done s k u)) (Err n) h g e = absurd (listed_above {last = 49} (omega arith) g (sym (number_same e)))
plain_one_answer (Ok (Done s k u)) (Ok (Stopped m k' u')) h g e = let q = number_same e in absurd (omega (arith, g.0, q))
plain_one_answer (Ok (Stopped m k u)) (Err n) h g e = absurd (listed_apart {last = 49} (omega arith) g h (sym (number_same e)))
plain_one_answer (Ok (Stopped m k u)) (Ok (Done s k' u')) h g e = let q = number_same e in absurd (omega (arith, h.0, q))
