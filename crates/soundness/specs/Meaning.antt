-- What the answers of the checks mean. The proofs are in proofs/Meaning.antt.
use Rattle.std.specs.Prelude.{ℕ, ◌≤◌, ◌≡◌, ◌↔◌, List, length}
use Rattle.lists.specs.Among.{Among}
use Rattle.calculus.specs.Tree.{Tree}
use Rattle.nodes.specs.Records.{NodeRecord}
use Rattle.soundness.specs.Graph.{Names}
use Rattle.bundle.specs.Checks.{refusal}
use Rattle.soundness.specs.Sound.{Described, Sound}
use Rattle.soundness.specs.Applies.{Applies, NumberExactly}

-- a file is described exactly where none of 1 to 14 applies, and sound exactly where none of 1 to 20 does
abbrev pub DescribedExactly : Type 0
DescribedExactly = (file : List ℕ) → Described file ↔ ((n : ℕ) → n ≤ 14 → Applies file n → ⊥)

abbrev pub SoundExactly : Type 0
SoundExactly = (file : List ℕ) → Sound file ↔ ((n : ℕ) → Applies file n → ⊥)

-- the check accepts exactly the sound files
abbrev pub AcceptedExactly : Type 0
AcceptedExactly = (file : List ℕ) → (refusal file ≡ 0) ↔ Sound file

-- nothing is left open: a check that answers by the smallest number that applies is this one
abbrev pub OnlyCheck : Type 0
OnlyCheck = (call : List ℕ → ℕ) → NumberExactly call → (file : List ℕ) → call file ≡ refusal file

-- in a sound file the hash of every record names exactly one tree
abbrev pub OneTreeEach : Type 0
OneTreeEach =
    (file : List ℕ) (sound : Sound file) (r : NodeRecord) → Among r sound.nodes →
    (t : Tree) × Names sound.nodes r.hash t × ((u : Tree) → Names sound.nodes r.hash u → u ≡ t)

-- "the longest nodes section is 8 + 37 + 511 × 101 = 51,656 bytes": no sound file has a longer one
abbrev pub LongestNodes : Type 0
LongestNodes = (file : List ℕ) (sound : Sound file) → length sound.nodes_bytes ≤ 51656
