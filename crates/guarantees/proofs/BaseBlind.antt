-- The words before the base are not looked at: both calls are one and the same on our part.
use mathlib.Core.Path.{◌≡◌}
use mathlib.Core.List.{List, ◌++◌}
use Prim.Native.Nat.{ℕ}
use Rattle.engine.specs.Answer.{RunAnswer}
use Rattle.engine.specs.Run.{Ran, ran, run_tail, ran_with}
use Rattle.guarantees.specs.Run.{BaseBlind}
use Rattle.guarantees.proofs.Calls.{run_behind}

pub base_blind : BaseBlind
base_blind from before before' w j f x used fuel =
    both (run_tail from w f x used fuel j) (run_behind from before w j f x used fuel) (run_behind from before' w j f x used fuel)
  where
    both : {p q : Ran} (r : Ran) → p ≡ ran_with before r → q ≡ ran_with before' r →
        (v : List ℕ) × (k : List ℕ) × (a : RunAnswer) × (p ≡ ran (before ++ v) k a) × (q ≡ ran (before' ++ v) k a)
    both (ran v k a) e g = (v, k, a, e, g)
