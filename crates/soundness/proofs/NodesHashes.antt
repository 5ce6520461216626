-- The children of a record are those that its payload names, and no two records have the same. So just one has none, the leaf's;
-- and just one hash names a tree. And how many records a section has.
use Prim.Native.Nat.{ℕ, ◌≤◌, ◌<◌}
use mathlib.Core.Path.{◌≡◌, refl, sym, ap, ◌∙◌}
use mathlib.Core.List.{List, [], ◌∷◌, ◌++◌}
use native.Mathlib.Omega.{arith}
use lib.ListN.{length, take, length-append}
use lib.Seq.{take_all, take_at, drop_at}
use Rattle.wire.specs.Relations.{Sequence, next}
use Rattle.lists.specs.Among.{Among, here, there, Distinct}
use Rattle.wire.proofs.Spans.{span_in}
use Rattle.calculus.specs.Tree.{Tree}
use Rattle.sizes.specs.Sizes.{nodes_size}
use Rattle.nodes.specs.Records.{NodeRecord, children_of, children, node_hash, hashes}
use Rattle.nodes.proofs.Payloads.{children_none, children_one, children_two}
use Rattle.nodes.proofs.Children.{at, children_at, record_at_lem, one_record}
use Rattle.soundness.specs.Graph.{Names, names_leaf, names_stem, names_fork}
use Rattle.soundness.specs.NodesGrammar.{IsPayload, leaf, stem, fork, IsRecord, node, IsNodes, nodes}
use Rattle.soundness.specs.NodesMeaning.{Hashed}

-- the children that are read of a payload are those that it names, and tell which payload it is
pub payload_children : {cs : List (List ℕ)} {p : List ℕ} → IsPayload cs p → children_of p ≡ cs
payload_children leaf = children_none (0 ∷ []) (omega arith) (omega arith)
payload_children (stem {a = a} l) =
    children_one (1 ∷ a) (sym (take_all 32 a (omega arith)) ∙ span_in (1 ∷ a) 1 32 (omega arith)) (omega arith)
payload_children (fork {a = a} {b = b} l m) =
    let j = length-append a b in
    let p : List ℕ = 2 ∷ (a ++ b) in
    children_two p (sym (take_at a b 32 l) ∙ span_in p 1 32 (omega arith))
    (sym (take_all 32 b (omega arith)) ∙ ap (take 32) (sym (drop_at a b 32 l)) ∙ span_in p 33 32 (omega arith)) (omega arith)

one_payload : {cs : List (List ℕ)} {p q : List ℕ} → IsPayload cs p → IsPayload cs q → p ≡ q
one_payload leaf leaf = refl
one_payload (stem l) (stem m) = refl
one_payload (fork l m) (fork l' m') = refl

pub record_payload : {r : NodeRecord} {b : List ℕ} → IsRecord r b → IsPayload (children r) r.payload
record_payload (node l m i) = rw (payload_children i) i

each_payload : {r : NodeRecord} {rs : List NodeRecord} {b : List ℕ} → Sequence IsRecord rs b → Among r rs →
    IsPayload (children r) r.payload
each_payload (next i s) here = record_payload i
each_payload (next i s) (there a) = each_payload s a
each_payload {r = r} Rattle.wire.specs.Relations.none x4 = elim x4 [ ]

pub node_payload : {r : NodeRecord} {rs : List NodeRecord} {s : List ℕ} → IsNodes rs s → Among r rs → IsPayload (children r) r.payload
node_payload (nodes n l m q) a = each_payload q a

pub payload_at : {rs : List NodeRecord} {s : List ℕ} → IsNodes rs s → (i : ℕ) → i < length rs →
    IsPayload (children_at rs i) (at rs i).payload
payload_at {rs} are i l = node_payload are (record_at_lem rs i l)

pub some_nodes : {rs : List NodeRecord} {s : List ℕ} → IsNodes rs s → 0 < length rs
some_nodes (nodes n l m q) = omega arith

pub few_nodes : {rs : List NodeRecord} {s : List ℕ} → IsNodes rs s → length rs ≤ nodes_size.most
few_nodes (nodes n l m q) = m

module _ (rs : List NodeRecord) (hashed : Hashed rs) where
  same_hash : (r q : NodeRecord) {cs : List (List ℕ)} → Among r rs → Among q rs → IsPayload cs r.payload →
      IsPayload cs q.payload → r.hash ≡ q.hash
  unfolding node_hash
  same_hash r q a b i j = hashed r a ∙ ap node_hash (one_payload i j) ∙ sym (hashed q b)

  pub one_hash : {h g : List ℕ} {t : Tree} → Names rs h t → Names rs g t → h ≡ g
  one_hash (names_leaf {r = r} i e k) (names_leaf {r = q} j f l) = sym e ∙ same_hash r q i j k l ∙ f
  one_hash (names_stem {r = r} i e k n) (names_stem {r = q} j f l m) =
      sym e ∙ same_hash r q i j k (rw (one_hash n m) l) ∙ f
  one_hash (names_fork {r = r} i e k n o) (names_fork {r = q} j f l m p) =
      sym e ∙ same_hash r q i j k (rw (one_hash n m, one_hash o p) l) ∙ f

  pub one_leaf : Distinct (hashes rs) → (r q : NodeRecord) → Among r rs → Among q rs → IsPayload [] r.payload →
      IsPayload [] q.payload → r ≡ q
  one_leaf apart r q a b i j = one_record rs apart a b (same_hash r q a b i j)
