-- The order in which a bundle's records are placed, and the trees that their hashes name: what a load starts the store with,
-- the paper's book.
use Rattle.std.specs.Prelude.{ℕ, ◌≡◌, List, [], ◌∷◌, ◌++◌, length}
use Rattle.lists.specs.Among.{Among}
use Rattle.calculus.specs.Tree.{Tree}
use Rattle.nodes.specs.Records.{NodeRecord, hashes}
use Rattle.soundness.specs.NodesGrammar.{IsPayload}
use Rattle.soundness.specs.Graph.{Names}

-- the children of a record are all placed
abbrev pub ChildrenPlaced : List NodeRecord → NodeRecord → Type 0
ChildrenPlaced placed r = (cs : List (List ℕ)) → IsPayload cs r.payload → (h : List ℕ) → Among h cs → Among h (hashes placed)

-- r is the earliest unplaced record of rs whose children are all placed
pub record Earliest (rs placed : List NodeRecord) (r : NodeRecord) : Type 0 where
  pub before : List NodeRecord
  pub after : List NodeRecord
  pub there : rs ≡ before ++ (r ∷ after)
  pub unplaced : Among r placed → ⊥
  pub ready : ChildrenPlaced placed r
  pub first : (q : NodeRecord) → Among q before → (Among q placed → ⊥) → ChildrenPlaced placed q → ⊥

-- the records placed so far: "the leaf record in slot 0; then, again and again, the earliest unplaced record whose children
-- are all placed gets the next slot"
pub data Placing (rs : List NodeRecord) : List NodeRecord → Type 0 where
  leaf_record : {r : NodeRecord} → Among r rs → IsPayload [] r.payload → Placing rs (r ∷ [])
  next_record : {placed : List NodeRecord} {r : NodeRecord} → Placing rs placed → Earliest rs placed r → Placing rs (placed ++ (r ∷ []))

-- all records in the order of placing
pub record Order (rs order : List NodeRecord) : Type 0 where
  pub placing : Placing rs order
  pub whole : length order ≡ length rs

-- the trees that the hashes of some records name, one after the other
pub data TreesOf (rs : List NodeRecord) : List NodeRecord → List Tree → Type 0 where
  none : TreesOf rs [] []
  more : {r : NodeRecord} {t : Tree} {order : List NodeRecord} {store : List Tree} → Names rs r.hash t → TreesOf rs order store →
      TreesOf rs (r ∷ order) (t ∷ store)
