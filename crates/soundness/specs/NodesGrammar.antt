-- The nodes section's format, as relations between bytes and what they are, in the order of document 01.
use Rattle.std.specs.Prelude.{ℕ, ◌≤◌, ◌≡◌, List, [], ◌∷◌, ◌++◌, length}
use Rattle.wire.specs.Relations.{Number, Sequence}
use Rattle.nodes.specs.Records.{NodeRecord}

-- the payload of a node with some children: `00` leaf; `01` and one hash, stem; `02` and two hashes, fork
pub data IsPayload : List (List ℕ) → List ℕ → Type 0 where
  leaf : IsPayload [] (0 ∷ [])
  stem : {a : List ℕ} → length a ≡ 32 → IsPayload (a ∷ []) (1 ∷ a)
  fork : {a b : List ℕ} → length a ≡ 32 → length b ≡ 32 → IsPayload (a ∷ b ∷ []) (2 ∷ (a ++ b))

-- a record is a 32-byte hash, a u32 payload length, a payload
pub data IsRecord : NodeRecord → List ℕ → Type 0 where
  node : {h n p : List ℕ} {cs : List (List ℕ)} → length h ≡ 32 → Number 4 (length p) n → IsPayload cs p →
      IsRecord (record { hash = h; payload = p }) (h ++ (n ++ p))

-- the section is a u64 count from 1 to 512, and as many records
pub data IsNodes : List NodeRecord → List ℕ → Type 0 where
  nodes : {rs : List NodeRecord} {n a : List ℕ} → Number 8 (length rs) n → 1 ≤ length rs → length rs ≤ 512 →
      Sequence IsRecord rs a → IsNodes rs (n ++ a)
