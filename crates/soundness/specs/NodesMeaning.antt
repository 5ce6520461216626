-- What the tests of a nodes section mean, over what its bytes are. The proofs are in proofs/NodesMeaning.antt.
use Rattle.std.specs.Prelude.{ℕ, ◌≡◌, true, false, ◌↔◌, List, [], ◌∷◌, ◌++◌, length}
use Rattle.wire.specs.Wire.{ascii}
use Rattle.lists.specs.Among.{Among, Distinct}
use Rattle.sha256_block.specs.Fips180.{sha256}
use Rattle.calculus.specs.Tree.{Tree}
use Rattle.nodes.specs.declared.faults.RecordFault.TheVariants.{Hash, Twice, Child as NoChild}
use Rattle.nodes.specs.Records.{NodeRecord, children_of, shaped, nodes_of, hashes, some_record}
use Rattle.nodes.specs.Links.{circular}
use Rattle.soundness.specs.Graph.{Circle, Names}
use Rattle.soundness.specs.NodesGrammar.{IsPayload, IsNodes}

-- what is hashed of a payload: the 23 bytes `arboricx.merkle.node.v1`, a zero byte, the payload
abbrev pub hash_input : List ℕ → List ℕ
hash_input p = ascii "arboricx.merkle.node.v1" ++ (0 ∷ p)

-- each record carries the hash of its payload
abbrev pub Hashed : List NodeRecord → Type 0
Hashed rs = (r : NodeRecord) → Among r rs → r.hash ≡ sha256 (hash_input r.payload)

-- every child has a record
abbrev pub Closed : List NodeRecord → Type 0
Closed rs =
    (r : NodeRecord) (cs : List (List ℕ)) → Among r rs → IsPayload cs r.payload →
    (h : List ℕ) → Among h cs → Among h (hashes rs)

-- 15 does not hold exactly for the bytes of some records, and those are read
abbrev pub NodesShapedExactly : Type 0
NodesShapedExactly = (s : List ℕ) → (shaped s ≡ true) ↔ ((rs : List NodeRecord) × IsNodes rs s)

abbrev pub ReadsNodes : Type 0
ReadsNodes = (s : List ℕ) (rs : List NodeRecord) → IsNodes rs s → nodes_of s ≡ rs

-- the children that are read of a payload are those that it names, in its order
abbrev pub ReadsChildren : Type 0
ReadsChildren = (p : List ℕ) (cs : List (List ℕ)) → IsPayload cs p → children_of p ≡ cs

-- "25, 57 or 89 bytes in all"
abbrev pub HashedBytes : Type 0
HashedBytes =
    (p : List ℕ) → (IsPayload [] p → length (hash_input p) ≡ 25) ×
    ((a : List ℕ) → IsPayload (a ∷ []) p → length (hash_input p) ≡ 57) ×
    ((a b : List ℕ) → IsPayload (a ∷ b ∷ []) p → length (hash_input p) ≡ 89)

-- one leaf's record and 511 forks' are a section of 51,656 bytes
abbrev pub LongestReached : Type 0
LongestReached =
    (r : NodeRecord) (rs : List NodeRecord) (s : List ℕ) → IsNodes (r ∷ rs) s → IsPayload [] r.payload → length rs ≡ 511 →
    ((q : NodeRecord) → Among q rs → (a : List ℕ) × (b : List ℕ) × IsPayload (a ∷ b ∷ []) q.payload) → length s ≡ 51656

-- nor 16 where each record carries its hash, nor 17 where no two carry one, nor 18 where every child is there
abbrev pub HashedExactly : Type 0
HashedExactly = (rs : List NodeRecord) → (some_record Hash rs rs ≡ false) ↔ Hashed rs

abbrev pub DistinctExactly : Type 0
DistinctExactly = (rs : List NodeRecord) → (some_record Twice rs rs ≡ false) ↔ Distinct (hashes rs)

abbrev pub ClosedExactly : Type 0
ClosedExactly = (s : List ℕ) (rs : List NodeRecord) → IsNodes rs s → (some_record NoChild rs rs ≡ false) ↔ Closed rs

-- 19 holds exactly when some node is its own descendant, where 15, 17 and 18 do not hold
abbrev pub CircularExactly : Type 0
CircularExactly =
    (s : List ℕ) (rs : List NodeRecord) → IsNodes rs s → Distinct (hashes rs) → Closed rs → (circular rs ≡ true) ↔ Circle rs

-- the hash of every record names exactly one tree, where 15, 17, 18 and 19 do not hold
abbrev pub OneTreeEachHash : Type 0
OneTreeEachHash =
    (s : List ℕ) (rs : List NodeRecord) → IsNodes rs s → Distinct (hashes rs) → Closed rs → (Circle rs → ⊥) →
    (r : NodeRecord) → Among r rs → (t : Tree) × Names rs r.hash t × ((u : Tree) → Names rs r.hash u → u ≡ t)

-- and no two hashes name one tree, where 16 does not hold
abbrev pub OneHashEach : Type 0
OneHashEach = (rs : List NodeRecord) → Hashed rs → (h g : List ℕ) (t : Tree) → Names rs h t → Names rs g t → h ≡ g
