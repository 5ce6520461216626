-- A sound bundle has one order of placing, and one tree for each of its records, no two the same.
use Prim.Native.Nat.{ℕ, ◌<◌}
use mathlib.Core.Path.{◌≡◌, refl, sym, ap, ◌∙◌, subst}
use mathlib.Core.List.{List, [], ◌∷◌, ◌++◌}
use mathlib.Core.Logic.{◌⊎◌, inl, inr, ⊎_elim}
use native.Mathlib.Omega.{arith}
use lib.ListN.{length, length-append}
use Rattle.lists.specs.Among.{Among, here, there, Distinct}
use Rattle.calculus.specs.Tree.{Tree}
use Rattle.nodes.specs.Records.{NodeRecord, hashes}
use Rattle.nodes.proofs.Children.{number_of, one_record}
use Rattle.soundness.specs.NodesGrammar.{IsPayload}
use Rattle.soundness.specs.Graph.{Names}
use Rattle.soundness.specs.Sound.{Sound}
use Rattle.soundness.proofs.NodesTrees.{one_tree}
use Rattle.guarantees.specs.Order.{Earliest, Placing, leaf_record, next_record, Order, TreesOf, none, more}
use Rattle.guarantees.specs.Load.{OneOrder, OneStart}
use Rattle.guarantees.proofs.PlacingOrder.{among_join, placing_among}
use Rattle.soundness.proofs.NodesHashes.{one_hash, one_leaf}
use Rattle.guarantees.proofs.LoadAccepted.{nodes_read}

-- two elements of one list are the same, or one stands before the other
one_first : (b d : List NodeRecord) (r q : NodeRecord) (x y : List NodeRecord) → b ++ (r ∷ x) ≡ d ++ (q ∷ y) →
    (r ≡ q) ⊎ (Among r d ⊎ Among q b)
one_first [] [] r q x y e = inl (cc)
one_first [] (s ∷ d) r q x y e = let z : s ≡ r = cc in inr (inl (subst (λ (n : NodeRecord). Among n (s ∷ d)) z here))
one_first (s ∷ b) [] r q x y e = let z : s ≡ q = cc in inr (inr (subst (λ (n : NodeRecord). Among n (s ∷ b)) z here))
one_first (s ∷ b) (u ∷ d) r q x y e =
    let z : b ++ (r ∷ x) ≡ d ++ (q ∷ y) = cc in
    ⊎_elim inl (λ a. inr (⊎_elim (λ m. inl (there m)) (λ m. inr (there m)) a)) (one_first b d r q x y z)

-- the earliest is one record
one_earliest : {rs ps : List NodeRecord} {r q : NodeRecord} → Earliest rs ps r → Earliest rs ps q → r ≡ q
one_earliest {r = r} {q = q} e f =
    ⊎_elim (λ z. z)
    (λ a. absurd (⊎_elim (λ m. f.first r m e.unplaced e.ready) (λ m. e.first q m f.unplaced f.ready) a))
    (one_first e.before f.before r q e.after f.after (sym e.there ∙ f.there))

placing_some : {rs ps : List NodeRecord} → Placing rs ps → 0 < length ps
placing_some (leaf_record a e) = omega arith
placing_some (next_record {placed = ps} {r = r} p e) = omega (arith, length-append ps (r ∷ []))

module _ (rs : List NodeRecord)
    (alone : (r q : NodeRecord) → Among r rs → Among q rs → IsPayload [] r.payload → IsPayload [] q.payload → r ≡ q) where
  one_placing : {a b : List NodeRecord} → Placing rs a → Placing rs b → length a ≡ length b → a ≡ b
  one_placing (leaf_record {r = r} a e) (leaf_record {r = q} b f) l = cc (alone r q a b e f)
  one_placing (leaf_record a e) (next_record {placed = qs} {r = q} p f) l =
      absurd (omega (arith, length-append qs (q ∷ []), placing_some p))
  one_placing (next_record {placed = ps} {r = r} p e) (leaf_record b f) l =
      absurd (omega (arith, length-append ps (r ∷ []), placing_some p))
  one_placing (next_record {placed = ps} {r = r} p e) (next_record {placed = qs} {r = q} o f) l =
      let m : length ps ≡ length qs = omega (arith, length-append ps (r ∷ []), length-append qs (q ∷ [])) in
      let z : ps ≡ qs = one_placing p o m in
      let y : r ≡ q = one_earliest {rs = rs} e (rw z f) in
      cc

-- its records are those that are read
pub same_nodes : {file : List ℕ} (s s' : Sound file) → s'.nodes ≡ s.nodes
same_nodes s s' = sym (nodes_read s') ∙ nodes_read s

pub one_order : OneOrder
one_order file s s' a b x y =
    one_placing s.nodes (one_leaf s.nodes s.hashed s.distinct) x.placing
    (rw (same_nodes s s') at y.placing) (x.whole ∙ sym (ap length (same_nodes s s')) ∙ sym y.whole)

module _ (rs : List NodeRecord) (apart : Distinct (hashes rs)) where
  same_store : (order : List NodeRecord) (a b : List Tree) → TreesOf rs order a → TreesOf rs order b → a ≡ b
  same_store _ _ _ none none = refl
  same_store _ _ _ (more n x) (more m y) = cc (one_tree rs apart n m, same_store _ _ _ x y)

pub one_start : OneStart
one_start file s s' order a b x y =
    same_store s.nodes s.distinct order a b x
    (subst (λ (rs : List NodeRecord). TreesOf rs order b) (same_nodes s s') y)

-- ---- no tree stands twice in the store

distinct_join : {r : NodeRecord} {ps : List NodeRecord} → Distinct ps → (Among r ps → ⊥) → Distinct (ps ++ (r ∷ []))
distinct_join Distinct.none n = Distinct.more n Distinct.none
distinct_join (Distinct.more {x = p} {xs = ps} m d) n =
    Distinct.more
    (λ a. ⊎_elim m (λ z. n (subst (λ (q : NodeRecord). Among q (p ∷ ps)) z here)) (among_join ps a))
    (distinct_join d (λ a. n (there a)))

placing_distinct : {rs ps : List NodeRecord} → Placing rs ps → Distinct ps
placing_distinct (leaf_record {r = r} a e) = Distinct.more {x = r} {xs = []} (λ b. omega (arith, (number_of b).1)) Distinct.none
placing_distinct (next_record p e) = distinct_join (placing_distinct p) e.unplaced

-- a tree of the store is that of a placed record
tree_of : {rs order : List NodeRecord} {store : List Tree} {t : Tree} → TreesOf rs order store → Among t store →
    (r : NodeRecord) × Among r order × Names rs r.hash t
tree_of (more {r = r} n x) here = (r, here, n)
tree_of (more n x) (there a) = let (r, b, m) = tree_of x a in (r, there b, m)
tree_of {rs = rs} {t = t} none x4 = elim x4 [ ]

module _ {file : List ℕ} (sound : Sound file) where
  trees_distinct : {order : List NodeRecord} {store : List Tree} → TreesOf sound.nodes order store →
      ((r : NodeRecord) → Among r order → Among r sound.nodes) → Distinct order → Distinct store
  trees_distinct none among d = Distinct.none
  trees_distinct (more {r = r} n x) among (Distinct.more fresh d) =
      Distinct.more
      (λ a.
      let (q, b, m) = tree_of x a in
      let z : q ≡ r
      = one_record sound.nodes sound.distinct (among q (there b)) (among r here)
      (one_hash sound.nodes sound.hashed m n)
      in
      fresh (rw z at b))
      (trees_distinct x (λ q b. among q (there b)) d)

  pub store_distinct : {order : List NodeRecord} {store : List Tree} → Order sound.nodes order →
      TreesOf sound.nodes order store → Distinct store
  store_distinct o x =
      trees_distinct x (λ r a. placing_among sound.nodes o.placing a) (placing_distinct o.placing)
