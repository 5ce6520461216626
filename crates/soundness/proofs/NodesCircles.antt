-- A node is its own descendant exactly where a record is by the links, and placing stops short exactly there (19).
use Prim.Native.Nat.{ℕ, ◌<◌}
use mathlib.Core.Path.{◌≡◌, refl, sym, ◌∙◌}
use mathlib.Core.Bool.{true}
use mathlib.Core.Logic.{◌↔◌}
use mathlib.Core.List.{List}
use lib.ListN.{length}
use borrow.Author.Tests.{ltb-true, lt-ltb}
use Rattle.lists.specs.Among.{Distinct}
use Rattle.sizes.specs.Sizes.{nodes_size}
use Rattle.placing.specs.Circles as byNumber
use Rattle.placing.proofs.Circles.{short_exactly_on_circles}
use Rattle.nodes.specs.Records.{NodeRecord, hashes}
use Rattle.nodes.specs.Links.{links_of, placed_of, circular}
use Rattle.soundness.specs.Graph.{Child, named, Descendant, child, deeper, Circle}
use Rattle.soundness.specs.NodesGrammar.{IsNodes}
use Rattle.soundness.specs.NodesMeaning.{Closed}
use Rattle.soundness.proofs.NodesHashes.{payload_children, payload_at, few_nodes}
use Rattle.nodes.proofs.Children.{hash_at, number_of, record_at_lem, link_child, child_link, links_ok, one_number}

module _ (rs : List NodeRecord) {s : List ℕ} (are : IsNodes rs s) where
  link_named : (i j : ℕ) → i < length rs → byNumber.ChildLink (links_of rs) i j → Child rs (hash_at rs i) (hash_at rs j)
  link_named i j l c = named (record_at_lem rs i l) refl (payload_at are i l) (link_child rs i j l c).1

  link_down : (i j : ℕ) → i < length rs → byNumber.Descends (links_of rs) i j → Descendant rs (hash_at rs i) (hash_at rs j)
  link_down i j l (byNumber.child c) = child (link_named i j l c)
  link_down i k l (byNumber.deeper {j = j} c d) =
      deeper (link_named i j l c) (link_down j k (link_child rs i j l c).0 d)

  -- the other way round, from any record that has the hash
  module _ (apart : Distinct (hashes rs)) (closed : Closed rs) where
    child_down : {a b : List ℕ} → Child rs a b → (i : ℕ) × (i < length rs) × (hash_at rs i ≡ a) ×
        (j : ℕ) × (j < length rs) × (hash_at rs j ≡ b) × byNumber.ChildLink (links_of rs) i j
    child_down {a} {b} (named {r = r} {cs = cs} x e p y) =
        let (i, l, f) = number_of x in
        let (j, m, g, c) = child_link rs i l {h = b} (rw (f, payload_children p) y) (closed r cs x p b y) in
        (i, l, (cc), j, m, g, c)

    abbrev Down : List ℕ → List ℕ → Type 0
    Down a b = (i : ℕ) × (i < length rs) × (hash_at rs i ≡ a) ×
        (j : ℕ) × (j < length rs) × (hash_at rs j ≡ b) × byNumber.Descends (links_of rs) i j

    down : {a b : List ℕ} → Descendant rs a b → Down a b
    down (child c) = let (i, l, e, j, m, f, d) = child_down c in (i, l, e, j, m, f, byNumber.child d)
    down (deeper c d) =
        let (i, l, e, j, m, f, x) = child_down c in
        let (k, n, g, o, p, h, y) = down d in
        let z : j ≡ k = one_number rs apart j k m n (f ∙ sym g) in
        (i, l, e, o, p, h, byNumber.deeper {k = o} x (rw z y))

    pub circle_exactly : byNumber.LinkCircle (links_of rs) (length rs) ↔ Circle rs
    circle_exactly = (
      λ c. let (i, l, d) = c in (hash_at rs i, link_down i i l d),
      λ c.
          let (a, d) = c in
          let (i, l, e, j, m, f, x) = down d in
          let z : j ≡ i = one_number rs apart j i m l (f ∙ sym e) in
          (i, l, rw z at x),
    )

    pub short_exactly : ((placed_of rs).count < length rs) ↔ Circle rs
    unfolding placed_of
    short_exactly =
        let short = short_exactly_on_circles (links_of rs) (length rs) nodes_size.most (links_ok rs (few_nodes are)) in
        (λ l. circle_exactly.0 (short.0 l), λ c. short.1 (circle_exactly.1 c))

    pub circular_iff : (circular rs ≡ true) ↔ Circle rs
    unfolding circular
    circular_iff = (λ e. short_exactly.0 (ltb-true _ _ e), λ c. lt-ltb _ _ (short_exactly.1 c))
