-- A record that is its own descendant, and the claim that placing stops short exactly then.
use Rattle.std.specs.Prelude.{ℕ, ◌+◌, ◌*◌, ◌<◌, ◌≡◌, List, ◌↔◌, get_or}
use Rattle.placing.specs.Placing.{placed, Links}

-- record j is a child of record i
pub data ChildLink (links : List ℕ) (i j : ℕ) : Type 0 where
  first : get_or links (2 * i) 0 ≡ j + 1 → ChildLink links i j
  second : get_or links (2 * i + 1) 0 ≡ j + 1 → ChildLink links i j

-- record j is a child of record i, or a child of a child, and so on
pub data Descends (links : List ℕ) : ℕ → ℕ → Type 0 where
  child : {i j : ℕ} → ChildLink links i j → Descends links i j
  deeper : {i j k : ℕ} → ChildLink links i j → Descends links j k → Descends links i k

-- one of n records is its own descendant
abbrev pub LinkCircle : List ℕ → ℕ → Type 0
LinkCircle links n = (i : ℕ) × (i < n) × Descends links i i

abbrev pub ShortExactlyOnCircles : Type 0
ShortExactlyOnCircles = (links : List ℕ) (n room : ℕ) → Links links n room → ((placed links n room).count < n) ↔ LinkCircle links n
