-- The tree that a hash names: no hash names two, and that of each placed record names one.
use Prim.Native.Nat.{ℕ, ◌≤◌, ◌<◌}
use mathlib.Core.Path.{◌≡◌, refl, sym, ap, ◌∙◌, subst}
use mathlib.Core.Bool.{true}
use mathlib.Core.List.{List, [], ◌∷◌}
use native.Mathlib.Omega.{arith}
use native.Mathlib.Decide.{ℕ_discrete}
use lib.ListN.{length, get_or, get_or-replicate}
use Rattle.lists.specs.Among.{Among, here, there, Distinct}
use Rattle.calculus.specs.Tree.{Tree, leaf, stem, fork}
use Rattle.sizes.specs.Sizes.{nodes_size}
use Rattle.placing.specs.Placing.{Placed, ready, put, unplaced, placed}
use Rattle.placing.proofs.Steps.{placing_keeps}
use Rattle.placing.proofs.Views.{child_ok}
use Rattle.placing.proofs.Laid.{unlike, placed_all_lem}
use Rattle.nodes.specs.Records.{NodeRecord, children, hashes}
use Rattle.nodes.specs.Links.{links_of, placed_of}
use Rattle.soundness.specs.Graph.{Names, names_leaf, names_stem, names_fork}
use Rattle.soundness.specs.NodesGrammar.{IsPayload, IsNodes}
use Rattle.soundness.specs.NodesMeaning.{Closed}
use Rattle.soundness.proofs.NodesHashes.{payload_children, payload_at, few_nodes}
use Rattle.nodes.proofs.Children.{at, hash_at, children_at, number_of, record_at_lem, links_ok, Kids, none, one, two, kids_view}
use Rattle.nodes.proofs.Children.{child_link, one_record}

module _ (rs : List NodeRecord) (apart : Distinct (hashes rs)) where
  -- records of one hash have the same children
  same : {r q : NodeRecord} {h : List ℕ} {x y : List (List ℕ)} → Among r rs → Among q rs → r.hash ≡ h → q.hash ≡ h →
      IsPayload x r.payload → IsPayload y q.payload → x ≡ y
  same a b e f k g =
      sym (payload_children k) ∙ ap children (one_record rs apart a b (e ∙ sym f)) ∙ payload_children g

  pub one_tree : {h : List ℕ} {t u : Tree} → Names rs h t → Names rs h u → t ≡ u
  one_tree (names_leaf i e k) (names_leaf j f g) = refl
  one_tree (names_leaf i e k) (names_stem j f g b) = absurd (omega (arith, ap length (same i j e f k g)))
  one_tree (names_leaf i e k) (names_fork j f g b d) = absurd (omega (arith, ap length (same i j e f k g)))
  one_tree (names_stem i e k a) (names_leaf j f g) = absurd (omega (arith, ap length (same i j e f k g)))
  one_tree (names_stem {a = x} {t = t} i e k a) (names_stem {a = y} {t = u} j f g b) =
      let q : x ∷ [] ≡ y ∷ [] = same i j e f k g in
      let p : x ≡ y = cc in
      ap stem (one_tree {h = x} {t = t} {u = u} a (rw p b))
  one_tree (names_stem i e k a) (names_fork j f g b d) = absurd (omega (arith, ap length (same i j e f k g)))
  one_tree (names_fork i e k a c) (names_leaf j f g) = absurd (omega (arith, ap length (same i j e f k g)))
  one_tree (names_fork i e k a c) (names_stem j f g b) = absurd (omega (arith, ap length (same i j e f k g)))
  one_tree (names_fork {a = x} {b = v} {t = t} {u = s} i e k a c) (names_fork {a = y} {b = w} {t = u} {u = z} j f g b d) =
      let q : x ∷ v ∷ [] ≡ y ∷ w ∷ [] = same i j e f k g in
      let p : x ≡ y = cc in
      let o : v ≡ w = cc in
      cc (one_tree {h = x} {t = t} {u = u} a (rw p b), one_tree {h = v} {t = s} {u = z} c (rw o d))

module _ (rs : List NodeRecord) {s : List ℕ} (are : IsNodes rs s) (closed : Closed rs) where
  -- what the placed records' hashes name
  abbrev pub Named : Placed → Type 0
  Named p = (i : ℕ) → i < length rs → 0 < get_or p.slots i 0 → (t : Tree) × Names rs (hash_at rs i) t

  module _ (p : Placed) (i : ℕ) (h : Named p) (l : i < length rs) (r : ready (links_of rs) p.slots i ≡ true) where
    child_named : (c : List ℕ) → Among c (children_at rs i) → (t : Tree) × Names rs c t
    child_named c a =
        let (j, m, e, d) = child_link rs i l a (closed _ _ (record_at_lem rs i l) (payload_at are i l) c a) in
        let (t, n) = h j m (child_ok (links_of rs) p.slots i j r d) in
        (t, rw e at n)

    placed_named : (t : Tree) × Names rs (hash_at rs i) t
    placed_named = go (children_at rs i) (payload_at are i l) (kids_view _) child_named
      where
        go : (cs : List (List ℕ)) → IsPayload cs (at rs i).payload → Kids cs →
            ((c : List ℕ) → Among c cs → (t : Tree) × Names rs c t) → (t : Tree) × Names rs (hash_at rs i) t
        go [] k none f = (leaf, names_leaf (record_at_lem rs i l) refl k)
        go (a ∷ []) k one f = let (t, n) = f a here in (stem t, names_stem (record_at_lem rs i l) refl k n)
        go (a ∷ b ∷ []) k two f =
            let (t, n) = f a here in
            let (u, m) = f b (there here) in
            (fork t u, names_fork (record_at_lem rs i l) refl k n m)
        go (a ∷ (b ∷ (_ ∷ _))) k _ f = elim k [ ]

    pub put_named : Named (put p i)
    put_named a m o =
        elim (ℕ_discrete a i) [
          | yes e ↦ rw e placed_named
          | no d ↦ h a m (omega (arith, unlike p i a d))
        ]

  placed_all_named : Named (placed_of rs)
  unfolding placed_of placed
  placed_all_named = placing_keeps (links_of rs) (length rs) Named put_named (length rs) (unplaced nodes_size.most)
      (λ i l o. absurd (omega (arith, get_or-replicate {A = ℕ} nodes_size.most i 0 0 (omega (arith, few_nodes are)))))

  -- where placing does not stop short
  pub all_named : length rs ≤ (placed_of rs).count → {r : NodeRecord} → Among r rs → (t : Tree) × Names rs r.hash t
  unfolding placed_of
  all_named h a =
      let (i, l, e) = number_of a in
      subst (λ (q : NodeRecord). (t : Tree) × Names rs q.hash t) e
      (placed_all_named i l (placed_all_lem (links_of rs) (length rs) nodes_size.most (links_ok rs (few_nodes are)) h i l))
