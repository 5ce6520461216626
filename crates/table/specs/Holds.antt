-- What slots stand for.
use Rattle.std.specs.Prelude.{ℕ, suc, ◌+◌, ◌*◌, ◌≤◌, ◌<◌, ◌≡◌, List, [], ◌∷◌, length, get_or}
use Rattle.calculus.specs.Tree.{Tree, leaf, stem, fork}

-- the words of slot i: 2i and 2i + 1, inside the table
pub record Words (w : List ℕ) (i p q : ℕ) : Type 0 where
  pub inside : 2 * i + 1 < length w
  pub first : get_or w (2 * i) 0 ≡ p
  pub second : get_or w (2 * i + 1) 0 ≡ q

-- slot i of the first n holds the tree t: leaf is (0, 0); a stem on slot a is (a + 1, 0); a fork of a and b is (a + 1, b + 1)
pub data Holds (w : List ℕ) (n : ℕ) : ℕ → Tree → Type 0 where
  holds_leaf : {i : ℕ} → i < n → Words w i 0 0 → Holds w n i leaf
  holds_stem : {i a : ℕ} {t : Tree} → i < n → Words w i (a + 1) 0 → Holds w n a t → Holds w n i (stem t)
  holds_fork : {i a b : ℕ} {t u : Tree} → i < n → Words w i (a + 1) (b + 1)
      → Holds w n a t → Holds w n b u → Holds w n i (fork t u)

-- the slots from k on hold these trees, one after the other
abbrev pub HoldsFrom : List ℕ → ℕ → ℕ → List Tree → Type 0
HoldsFrom w n k [] = Unit {0}
HoldsFrom w n k (t ∷ ts) = Holds w n k t × HoldsFrom w n (suc k) ts

-- what the first n slots of w hold, the first m of v hold too
abbrev pub Kept : List ℕ → ℕ → List ℕ → ℕ → Type 0
Kept w n v m = (i : ℕ) (t : Tree) → Holds w n i t → Holds v m i t

-- v has the words of w but for the slots from n up to m
pub record Untouched (w : List ℕ) (n : ℕ) (v : List ℕ) (m : ℕ) : Type 0 where
  pub long : length v ≡ length w
  pub under : (k : ℕ) → k < 2 * n → get_or v k 0 ≡ get_or w k 0
  pub over : (k : ℕ) → 2 * m ≤ k → get_or v k 0 ≡ get_or w k 0
