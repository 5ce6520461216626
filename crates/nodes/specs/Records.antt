-- The nodes section: a u64 count, then records, no byte left over. And what is refused of its records: 15 to 18.
use Rattle.std.specs.Prelude.{ℕ, zero, suc, ◌+◌, ◌-◌, ◌*◌, List, [], ◌∷◌, ◌++◌, Bool, true, false, not, cond, length, leb, eqb, Option, Some, None, is_some}
use Rattle.lists.specs.Options.{◌>>=◌, on_some}
use Rattle.wire.specs.Wire.{number_at, span_end, span, or_zero, ascii}
use Rattle.lists.specs.Lists.{same_bytes, index_of, some_of}
use Rattle.sha256_block.specs.Fips180.{sha256}
use Rattle.sha256.specs.Running.{state_after}
use Rattle.sha256.specs.declared.Running.{Running}
use Rattle.sizes.specs.Sizes.{within, nodes_size, hash_bytes}
use Rattle.nodes.specs.declared.records.Children.{Children}
use Rattle.nodes.specs.declared.records.Children.TheVariants.{Leaf, Stem, Fork}
use Rattle.nodes.specs.declared.faults.RecordFault.{RecordFault}
use Rattle.nodes.specs.declared.faults.RecordFault.TheVariants.{Hash, Twice, Child}

-- where the first record starts: after the count
abbrev pub first_record : ℕ
first_record = 8

-- bytes of a record before its payload: the hash and the payload's length
abbrev pub record_head : ℕ
record_head = 36

-- what a record says
pub record NodeRecord : Type 0 where
  pub hash : List ℕ
  pub payload : List ℕ

-- the hashes that a payload names: `00` leaf, none; `01` and one hash, stem; `02` and two hashes, fork
unfoldable pub children_of : List ℕ → List (List ℕ)
children_of p =
    cond (eqb (length p) 33) (span p 1 hash_bytes ∷ [])
    (cond (eqb (length p) 65) (span p 1 hash_bytes ∷ span p 33 hash_bytes ∷ []) [])

-- the hashes as the code reads them of a payload
abbrev pub named_hashes : Children → List (List ℕ)
named_hashes Leaf = []
named_hashes (Stem a) = a.now ∷ []
named_hashes (Fork a b) = a.now ∷ b.now ∷ []

abbrev pub children : NodeRecord → List (List ℕ)
children r = children_of r.payload

-- where the payload of n bytes at a position ends: a tag of 0, 1 or 2, and so many hashes; None where it has another shape
unfoldable pub payload_end : List ℕ → ℕ → ℕ → Option ℕ
payload_end s at n = do
  tag ← number_at 1 s at
  cond (leb tag 2) (cond (eqb n (hash_bytes * tag + 1)) (span_end s at n) None) None

-- where the record at a position ends: 32-byte hash, u32 payload length, payload
unfoldable pub record_end : List ℕ → ℕ → Option ℕ
record_end s at = do
  length ← span_end s at hash_bytes
  n ← number_at 4 s length
  payload_end s (length + 4) n

-- the record from a position up to its end
abbrev pub record_at : List ℕ → ℕ → ℕ → NodeRecord
record_at s at end = record { hash = span s at hash_bytes; payload = span s (at + record_head) (end - (at + record_head)) }

-- where n records from a position on end
unfoldable pub records_end : List ℕ → ℕ → ℕ → Option ℕ
records_end s zero at = Some at
records_end s (suc n) at = do
  next ← record_end s at
  records_end s n next

-- the n records from a position on
unfoldable pub records : List ℕ → ℕ → ℕ → List NodeRecord
records s zero at = []
records s (suc n) at = on_some (record_end s at) (λ next. record_at s at next ∷ records s n next) []

unfoldable pub count : List ℕ → ℕ
count s = or_zero (number_at 8 s 0)

unfoldable pub nodes_of : List ℕ → List NodeRecord
nodes_of s = records s (count s) first_record

abbrev pub ends_at : Option ℕ → ℕ → Bool
ends_at (Some end) n = eqb end n
ends_at None n = false

-- 15: the nodes section doesn't have the stated shape, or count outside 1 to 512
unfoldable pub shaped : List ℕ → Bool
shaped s =
    on_some (number_at 8 s 0) (λ n. cond (within nodes_size n) (ends_at (records_end s n first_record) (length s)) false) false

-- SHA-256 of the 23 bytes `arboricx.merkle.node.v1`, a zero byte, the payload
unfoldable pub node_hash : List ℕ → List ℕ
node_hash payload = sha256 (ascii "arboricx.merkle.node.v1" ++ (0 ∷ payload))

-- the running hash after the bytes before the payload
unfoldable pub domain_state : Running
domain_state = state_after (ascii "arboricx.merkle.node.v1" ++ (0 ∷ []))

unfoldable pub hashes : List NodeRecord → List (List ℕ)
hashes [] = []
hashes (r ∷ rs) = r.hash ∷ hashes rs

-- some hash of a list has no record
unfoldable pub lacks : List NodeRecord → List (List ℕ) → Bool
lacks all [] = false
lacks all (h ∷ hs) = cond (is_some (index_of h 0 (hashes all))) (lacks all hs) true

-- a record's hash is wrong (16); a record after it carries the same (17); a child has no record (18)
unfoldable pub record_faulty : RecordFault → List NodeRecord → NodeRecord → List NodeRecord → Bool
record_faulty Hash all r rest = not (same_bytes r.hash (node_hash r.payload))
record_faulty Twice all r rest = is_some (index_of r.hash 0 (hashes rest))
record_faulty Child all r rest = lacks all (children r)

-- some record has the fault
unfoldable pub some_record : RecordFault → List NodeRecord → List NodeRecord → Bool
some_record fault all rs = some_of (record_faulty fault all) rs
