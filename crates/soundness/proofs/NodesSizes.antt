-- How long a payload, a record and the nodes section are: the longest section has one leaf's record and 511 forks'.
use Prim.Native.Nat.{ℕ, ◌+◌, ◌*◌, ◌≤◌}
use mathlib.Core.Path.{◌≡◌, refl}
use mathlib.Core.List.{List, [], ◌∷◌, ◌++◌}
use native.Mathlib.Omega.{arith}
use lib.ListN.{length, length-append}
use Rattle.wire.specs.Relations.{Sequence, none, next}
use Rattle.lists.specs.Among.{Among, here, there}
use Rattle.calculus.specs.Tree.{Tree}
use Rattle.nodes.specs.Records.{NodeRecord}
use Rattle.soundness.specs.Graph.{Names, names_leaf, names_stem, names_fork}
use Rattle.soundness.specs.NodesGrammar.{IsPayload, leaf, stem, fork, IsRecord, node, IsNodes, nodes}
use Rattle.soundness.proofs.NodesHashes.{record_payload}

-- a byte, and 32 for each child
pub payload_length : {cs : List (List ℕ)} {p : List ℕ} → IsPayload cs p → length p ≡ 1 + 32 * length cs
payload_length leaf = refl
payload_length (stem l) = omega arith
payload_length (fork {a = a} {b = b} l m) = omega (arith, length-append a b)

payload_most : {cs : List (List ℕ)} {p : List ℕ} → IsPayload cs p → length p ≤ 65
payload_most leaf = omega arith
payload_most (stem l) = omega arith
payload_most (fork {a = a} {b = b} l m) = omega (arith, length-append a b)

-- 36 bytes and the payload
record_length : {r : NodeRecord} {b : List ℕ} → IsRecord r b → length b ≡ 36 + length r.payload
record_length (node {h = h} {n = n} {p = p} l m i) =
    omega (arith, m.size, length-append h (n ++ p), length-append n p)

record_most : {r : NodeRecord} {b : List ℕ} → IsRecord r b → length b ≤ 101
record_most i = omega (arith, record_length i, payload_most (record_payload i))

records_most : {rs : List NodeRecord} {b : List ℕ} → Sequence IsRecord rs b → length b ≤ 101 * length rs
records_most none = omega arith
records_most (next {a = a} {b = b} i s) = omega (arith, length-append a b, record_most i, records_most s)

-- records of forks are as long as can be
forks_length : {rs : List NodeRecord} {b : List ℕ} → Sequence IsRecord rs b →
    ((q : NodeRecord) → Among q rs → (c : List ℕ) × (d : List ℕ) × IsPayload (c ∷ d ∷ []) q.payload) →
    length b ≡ 101 * length rs
forks_length none f = refl
forks_length (next {x = q} {a = a} {b = b} i s) f =
    let (c, d, k) = f q here in
    omega (arith, length-append a b, record_length i, payload_length k, forks_length s (λ q m. f q (there m)))

pub one_leaf_length : {r : NodeRecord} {rs : List NodeRecord} {s : List ℕ} → IsNodes (r ∷ rs) s → IsPayload [] r.payload →
    ((q : NodeRecord) → Among q rs → (a : List ℕ) × (b : List ℕ) × IsPayload (a ∷ b ∷ []) q.payload) →
    length s ≡ 8 + 37 + 101 * length rs
one_leaf_length (nodes {n = n} m l u (next {a = a} {b = b} i q)) k f =
    omega (arith, m.size, length-append n (a ++ b), length-append a b, record_length i, payload_length k, forks_length q f)

-- with a leaf's record among them, 64 bytes less
leaf_shorter : {rs : List NodeRecord} {b : List ℕ} {r : NodeRecord} → Sequence IsRecord rs b → Among r rs → IsPayload [] r.payload →
    length b + 64 ≤ 101 * length rs
leaf_shorter (next {a = a} {b = b} i s) here k =
    omega (arith, length-append a b, record_length i, payload_length k, records_most s)
leaf_shorter (next {a = a} {b = b} i s) (there m) k =
    omega (arith, length-append a b, record_most i, leaf_shorter s m k)
leaf_shorter {r = r} none x7 k = elim x7 [ ]

-- where a hash names a tree, a leaf's record is there
leaf_among : {rs : List NodeRecord} {h : List ℕ} {t : Tree} → Names rs h t → (r : NodeRecord) × Among r rs × IsPayload [] r.payload
leaf_among (names_leaf {r = r} a e k) = (r, a, k)
leaf_among (names_stem a e k n) = leaf_among n
leaf_among (names_fork a e k n m) = leaf_among n

pub nodes_most : {rs : List NodeRecord} {s h : List ℕ} {t : Tree} → IsNodes rs s → Names rs h t → length s ≤ 51656
nodes_most (nodes {n = n} {a = a} m l u q) names =
    let (r, among, k) = leaf_among names in omega (arith, m.size, length-append n a, u, leaf_shorter q among k)
