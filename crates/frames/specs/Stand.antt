-- What frames stand for.
use Rattle.std.specs.Prelude.{ℕ, suc, ◌*◌, ◌≤◌, ◌≡◌, List, [], ◌∷◌, get_or}
use Rattle.calculus.specs.Tree.{Tree}
use Rattle.calculus.specs.Rules.{TreeFrame, operand, argument, function}
use Rattle.table.specs.Holds.{Holds}
use Rattle.frames.specs.Frames.{Record, job_words_at}

-- three words are a frame: "then b to x" is (1, b, x), "then the result to v" (2, v, 0), "then w to the result" (3, w, 0)
pub data Stands (w : List ℕ) (n : ℕ) (v : Record) : TreeFrame → Type 0 where
  stands_operand : {a b : ℕ} {t u : Tree} → v ≡ record { tag = 1; first = a; second = b }
      → Holds w n a t → Holds w n b u → Stands w n v (operand t u)
  stands_argument : {a : ℕ} {t : Tree} → v ≡ record { tag = 2; first = a; second = 0 }
      → Holds w n a t → Stands w n v (argument t)
  stands_function : {a : ℕ} {t : Tree} → v ≡ record { tag = 3; first = a; second = 0 }
      → Holds w n a t → Stands w n v (function t)

-- the places from k on stand for these frames, oldest first
abbrev pub StandFrom : List ℕ → ℕ → List ℕ → ℕ → List TreeFrame → Type 0
StandFrom w n j k [] = Unit {0}
StandFrom w n j k (f ∷ fs) = Stands w n (job_words_at j k) f × StandFrom w n j (suc k) fs

-- every word from 3k on is 0: those of place k and of all after it
abbrev pub ZeroFrom : List ℕ → ℕ → Type 0
ZeroFrom j k = (i : ℕ) → 3 * k ≤ i → get_or j i 0 ≡ 0
