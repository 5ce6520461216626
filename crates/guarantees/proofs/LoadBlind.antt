-- The words before the base are not looked at: both calls are one and the same load into our part.
use Rattle.std.specs.Prelude.{Result, Err}
use Rattle.loader.specs.declared.Accepted.{Accepted}
use Prim.Native.Nat.{ℕ}
use mathlib.Core.Path.{◌≡◌, refl}
use mathlib.Core.Bool.{Bool, true, false, cond}
use mathlib.Core.List.{List, [], ◌∷◌, ◌++◌}
use lib.ListN.{length}
use lib.Dec.{ltb, eqb}
use lib.IntN.{pos}
use Rattle.refusals.specs.Refusals.{◌when◌, answer}
use Rattle.table.specs.Slots.{room}
use Rattle.table.proofs.BaseLaws.{from_after}
use Rattle.bundle.specs.Checks.{checks}
use Rattle.loader.specs.Load.{records_in, exports_in, unfit, crowded, load_checks, load_refusal, Loaded, loaded, loaded_with, accept, accept_from, load}
use Rattle.guarantees.specs.Load.{LoadBlind}

module _ (file w out : List ℕ) where
  -- the number of a load into our part alone, and what it leaves there
  n : ℕ
  n =
      answer
      (checks file ++
      ((21 when ltb (room w) (length (records_in file))) ∷ (22 when crowded out (length (exports_in file))) ∷ []))

  tail : Loaded
  tail = cond (eqb n 0) (accept (records_in file) (exports_in file) w out) (loaded w out (Err n))

  module _ (before : List ℕ) where
    judged_alike : load_refusal file (before ++ w) (pos (length before)) out ≡ n
    unfolding load_refusal load_checks unfit n
    judged_alike = rw (from_after true before w (λ _ part. ltb (room part) (length (records_in file))))

    load_after : load file (before ++ w) (pos (length before)) out ≡ loaded_with before tail
    unfolding load accept_from tail
    load_after =
        rw (
          judged_alike,
          from_after (loaded (before ++ w) out (Err 21)) before w
              (λ before part. loaded_with before (accept (records_in file) (exports_in file) part out)),
        )
        (go (eqb n 0))
      where
        go : (t : Bool) →
            cond t (loaded_with before (accept (records_in file) (exports_in file) w out)) (loaded (before ++ w) out (Err n))
            ≡ loaded_with before (cond t (accept (records_in file) (exports_in file) w out) (loaded w out (Err n)))
        go true = refl
        go false = refl

pub load_blind : LoadBlind
load_blind file before before' w out = both (tail file w out) (load_after file w out before) (load_after file w out before')
  where
    both : {p q : Loaded} (r : Loaded) → p ≡ loaded_with before r → q ≡ loaded_with before' r →
        (v : List ℕ) × (e : List ℕ) × (a : Result Accepted ℕ) × (p ≡ loaded (before ++ v) e a) × (q ≡ loaded (before' ++ v) e a)
    both (loaded v e a) g h = (v, e, a, g, h)
