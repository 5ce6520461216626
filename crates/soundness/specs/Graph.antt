-- What records mean: a node that is its own descendant, and the tree that a hash names.
use Rattle.std.specs.Prelude.{ℕ, ◌≡◌, List, [], ◌∷◌}
use Rattle.lists.specs.Among.{Among}
use Rattle.calculus.specs.Tree.{Tree, leaf, stem, fork}
use Rattle.nodes.specs.Records.{NodeRecord}
use Rattle.soundness.specs.NodesGrammar.{IsPayload}

-- the node with the hash b is a child of the one with the hash a: a's payload names it
pub data Child (rs : List NodeRecord) (a b : List ℕ) : Type 0 where
  named : {r : NodeRecord} {cs : List (List ℕ)} → Among r rs → r.hash ≡ a → IsPayload cs r.payload → Among b cs → Child rs a b

-- a child, or a child of a child, and so on
pub data Descendant (rs : List NodeRecord) : List ℕ → List ℕ → Type 0 where
  child : {a b : List ℕ} → Child rs a b → Descendant rs a b
  deeper : {a b c : List ℕ} → Child rs a b → Descendant rs b c → Descendant rs a c

-- some node is its own descendant
abbrev pub Circle : List NodeRecord → Type 0
Circle rs = (a : List ℕ) × Descendant rs a a

-- the tree that a hash names: its record is a leaf, or a stem or fork of what its children's hashes name
pub data Names (rs : List NodeRecord) : List ℕ → Tree → Type 0 where
  names_leaf : {r : NodeRecord} {h : List ℕ} → Among r rs → r.hash ≡ h → IsPayload [] r.payload → Names rs h leaf
  names_stem : {r : NodeRecord} {h a : List ℕ} {t : Tree} → Among r rs → r.hash ≡ h → IsPayload (a ∷ []) r.payload →
      Names rs a t → Names rs h (stem t)
  names_fork : {r : NodeRecord} {h a b : List ℕ} {t u : Tree} → Among r rs → r.hash ≡ h →
      IsPayload (a ∷ b ∷ []) r.payload → Names rs a t → Names rs b u → Names rs h (fork t u)
