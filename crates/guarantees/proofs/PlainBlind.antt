-- The words before the base are not looked at by a plain run: both calls are one and the same on our part.
use Prim.Native.Nat.{ℕ}
use mathlib.Core.Path.{◌≡◌}
use mathlib.Core.List.{List, ◌++◌}
use lib.ListN.{length}
use lib.IntN.{ℤ, pos}
use Rattle.table.proofs.BaseLaws.{from_after}
use Rattle.plain.specs.Answer.{PlainAnswer}
use Rattle.plain.specs.Run.{Played, played, plain_tail, played_with, plain_run}
use Rattle.guarantees.specs.Plain.{PlainBlind}

-- a call whose base is a part's end is the call on what comes after that part
plain_after : (before w : List ℕ) (f x : ℤ) (used fuel places : ℕ)
    → plain_run (before ++ w) (pos (length before)) f x used fuel places ≡ played_with before (plain_tail w f x used fuel places)
unfolding plain_run
plain_after before w f x used fuel places = from_after _ before w _

pub plain_blind : PlainBlind
plain_blind before before' w f x used fuel places =
    both (plain_tail w f x used fuel places) (plain_after before w f x used fuel places) (plain_after before' w f x used fuel places)
  where
    both : {p q : Played} (r : Played) → p ≡ played_with before r → q ≡ played_with before' r →
        (v : List ℕ) × (a : PlainAnswer) × (p ≡ played (before ++ v) a) × (q ≡ played (before' ++ v) a)
    both (played v a) e g = (v, a, e, g)
