-- Rounds one after the other.
use Rattle.std.proofs.Common.{◌≡◌, ℕ, zero, suc, ◌+◌, List, ◌∙◌, add-zero, add_assoc, add-suc, zero-add}
use Rattle.sha256_block.specs.declared.Work.{Work}
use Rattle.sha256_block.specs.Fips180.{rounds}

-- m rounds and then n more
rounds_join : (w : List ℕ) (t m n : ℕ) (s : Work) → rounds w t (m + n) s ≡ rounds w (t + m) n (rounds w t m s)
unfolding rounds
rounds_join w t m zero s = rw (add-zero m)
rounds_join w t m (suc n) s = rw (add-suc m n, add_assoc t m n, rounds_join w t m n s)

-- t rounds and then four more
pub rounds_four : (w : List ℕ) (t : ℕ) (s : Work) → rounds w 0 (t + 4) s ≡ rounds w t 4 (rounds w 0 t s)
rounds_four w t s = rounds_join w 0 t 4 s ∙ rw (zero-add t)
