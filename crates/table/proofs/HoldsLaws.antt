-- Laws of the trees that slots hold: each used slot of a sound table holds one, and the next slot's node changes none.
use Prim.Native.Nat.{ℕ, zero, suc, ◌+◌, ◌*◌, ◌≤◌, ◌<◌}
use mathlib.Core.Path.{◌≡◌, refl, ap, ◌∙◌, subst}
use mathlib.Core.List.{List, [], ◌∷◌, ◌++◌}
use native.Mathlib.Omega.{arith}
use lib.ListN.{length, get_or}
use Rattle.calculus.specs.Tree.{Tree, leaf, stem, fork}
use Rattle.table.specs.declared.slots.Slot.{Slot}
use Rattle.table.specs.declared.slots.Node.{Node}
use Rattle.table.specs.declared.slots.Node.TheVariants.{Leaf, Stem, Fork}
use Rattle.table.specs.Slots.{slot, room, node_at, put_node, Below}
use Rattle.table.specs.Sound.{SoundSlots, OnlyZeroIsLeaf}
use Rattle.table.specs.Holds.{Words, Holds, holds_leaf, holds_stem, holds_fork, HoldsFrom, Kept, Untouched}
use Rattle.table.proofs.SlotLaws.{Has, has_node, length_put, put_outside, put_here}
use Rattle.table.proofs.SoundLaws.{slot_below, slot_has, sound_zero}

-- a slot that holds a tree is a used one, and holds the node of that tree
module _ {w : List ℕ} {n i : ℕ} where
  pub held_below : {t : Tree} → Holds w n i t → i < n
  held_below (holds_leaf h e) = h
  held_below (holds_stem h e a) = h
  held_below (holds_fork h e a b) = h

  pub leaf_view : Holds w n i leaf → node_at w i ≡ Leaf
  leaf_view (holds_leaf h e) = has_node Leaf e

  pub stem_view : {t : Tree} → Holds w n i (stem t) → (a : ℕ) × (node_at w i ≡ Stem (slot a)) × Holds w n a t
  stem_view (holds_stem {a = a} h e c) = (a, has_node (Stem (slot a)) e, c)

  pub fork_view : {t u : Tree} → Holds w n i (fork t u) →
      (a : ℕ) × (b : ℕ) × (node_at w i ≡ Fork (slot a) (slot b)) × Holds w n a t × Holds w n b u
  fork_view (holds_fork {a = a} {b = b} h e c d) = (a, b, has_node (Fork (slot a) (slot b)) e, c, d)

-- a slot holds one tree at most
pub one_tree : (w : List ℕ) (n i : ℕ) (t u : Tree) → Holds w n i t → Holds w n i u → t ≡ u
one_tree w n i leaf leaf h g = refl
one_tree w n i leaf (stem u) h g = cc (leaf_view h, (stem_view g).1)
one_tree w n i leaf (fork u u') h g = cc (leaf_view h, (fork_view g).2)
one_tree w n i (stem t) leaf h g = cc ((stem_view h).1, leaf_view g)
one_tree w n i (stem t) (stem u) h g =
    let p = stem_view h in
    let q = stem_view g in
    let e : slot p.0 ≡ slot q.0 = cc (p.1, q.1) in
    ap stem (one_tree w n q.0 t u (subst (λ (s : Slot). Holds w n s.0 t) e p.2) q.2)
one_tree w n i (stem t) (fork u u') h g = cc ((stem_view h).1, (fork_view g).2)
one_tree w n i (fork t t') leaf h g = cc ((fork_view h).2, leaf_view g)
one_tree w n i (fork t t') (stem u) h g = cc ((fork_view h).2, (stem_view g).1)
one_tree w n i (fork t t') (fork u u') h g =
    let p = fork_view h in
    let q = fork_view g in
    let e : slot p.0 ≡ slot q.0 = cc (p.2, q.2) in
    let d : slot p.1 ≡ slot q.1 = cc (p.2, q.2) in
    cc (
      one_tree w n q.0 t u (subst (λ (s : Slot). Holds w n s.0 t) e p.3) q.3,
      one_tree w n q.1 t' u' (subst (λ (s : Slot). Holds w n s.0 t') d p.4) q.4,
    )

-- what used slots hold stays where only later slots are written
module _ {w v : List ℕ} {n m : ℕ} (l : n ≤ m) (same : Untouched w n v m) where
  kept_words : {i p q : ℕ} → i < n → Words w i p q → Words v i p q
  kept_words {i = i} h e =
      record {
        inside = omega (arith, e.inside, same.long);
        first = same.under (2 * i) (omega arith) ∙ e.first;
        second = same.under (2 * i + 1) (omega arith) ∙ e.second;
      }

  pub untouched_kept : Kept w n v m
  untouched_kept i leaf (holds_leaf h e) = holds_leaf {i = i} (omega arith) (kept_words h e)
  untouched_kept i (stem t) (holds_stem {a = a} h e c) =
      holds_stem {i = i} {a = a} (omega arith) (kept_words h e) (untouched_kept a t c)
  untouched_kept i (fork t u) (holds_fork {a = a} {b = b} h e c d) =
      holds_fork {i = i} {a = a} {b = b} (omega arith) (kept_words h e) (untouched_kept a t c) (untouched_kept b u d)

-- the node of slot n is written
module _ (w : List ℕ) (n : ℕ) where
  module _ (node : Node) where
    -- one slot is written
    pub untouched_put : Untouched w n (put_node w n node) (n + 1)
    untouched_put =
        record {
          long = length_put w n node;
          under = λ k h. put_outside w n node k (omega arith) (omega arith);
          over = λ k h. put_outside w n node k (omega arith) (omega arith);
        }

    -- what the slots below hold stays
    pub put_keeps : Kept w n (put_node w n node) (n + 1)
    put_keeps = untouched_kept (omega arith) untouched_put

  -- the slot holds the tree of its node
  pub put_leaf : n < room w → Holds (put_node w n Leaf) (n + 1) n leaf
  put_leaf l = holds_leaf {i = n} (omega arith) (put_here w n Leaf l)

  pub put_stem : (a : ℕ) (t : Tree) → n < room w → Holds w n a t →
      Holds (put_node w n (Stem (slot a))) (n + 1) n (stem t)
  put_stem a t l h =
      holds_stem {i = n} {a = a} (omega arith) (put_here w n (Stem (slot a)) l) (put_keeps (Stem (slot a)) a t h)

  pub put_fork : (a b : ℕ) (t u : Tree) → n < room w → Holds w n a t → Holds w n b u →
      Holds (put_node w n (Fork (slot a) (slot b))) (n + 1) n (fork t u)
  put_fork a b t u l h g =
      let node = Fork (slot a) (slot b) in
      holds_fork {i = n} {a = a} {b = b} (omega arith) (put_here w n node l)
      (put_keeps node a t h) (put_keeps node b u g)

  -- nothing is written
  pub untouched_refl : Untouched w n w n
  untouched_refl = record { long = refl; under = λ _ _. refl; over = λ _ _. refl }

module _ (w : List ℕ) (n : ℕ) (good : SoundSlots w n) where
  -- slot 0 holds the leaf
  pub zero_leaf : 0 < n → Holds w n 0 leaf
  zero_leaf h = holds_leaf {i = 0} h (sound_zero w n good h)

  -- the used slots below m hold trees
  abbrev Trees : ℕ → Type 0
  Trees m = (i : ℕ) → i < m → i < n → (t : Tree) × Holds w n i t

  step : (i : ℕ) (node : Node) → i < n → Trees i → Has w i node → Below i node → (t : Tree) × Holds w n i t
  step i Leaf h ts e b = (leaf, holds_leaf {i = i} h e)
  step i (Stem a) h ts e b =
      let s = ts a.0 b (omega arith) in
      (stem s.0, holds_stem {i = i} {a = a.0} h e s.1)
  step i (Fork a c) h ts e b =
      let s = ts a.0 b.0 (omega arith) in
      let r = ts c.0 b.1 (omega arith) in
      (fork s.0 r.0, holds_fork {i = i} {a = a.0} {b = c.0} h e s.1 r.1)

  trees : (m : ℕ) → Trees m
  trees zero i l h = absurd (omega arith)
  trees (suc m) i l h =
      step i (node_at w i) h (λ k g. trees m k (omega arith)) (slot_has w n good i h) (slot_below w i (good.each i h))

  -- each used slot holds a tree
  pub sound_holds : (i : ℕ) → i < n → (t : Tree) × Holds w n i t
  sound_holds i h = trees (suc i) i (omega arith) h

-- In a sound table only slot zero holds the leaf.
pub only_zero_leaf : OnlyZeroIsLeaf
only_zero_leaf w n zero good (holds_leaf h e) = refl
only_zero_leaf w n (suc i) good (holds_leaf h e) = absurd (omega (arith, (good.each (suc i) h).0, e.first))

-- trees that slots hold one after the other
module _ (w : List ℕ) (n : ℕ) where
  -- the slot of a place in the list holds the tree there
  pub from_at : (k i m : ℕ) (ts : List Tree) → k + i ≡ m → i < length ts → HoldsFrom w n k ts
      → Holds w n m (get_or ts i leaf)
  from_at k i m [] e l h = absurd (omega arith)
  from_at k zero m (t ∷ ts) e l h =
      let d : k ≡ m = omega arith in
      subst (λ (i : ℕ). Holds w n i t) d h.0
  from_at k (suc i) m (t ∷ ts) e l h = from_at (suc k) i m ts (omega arith) (omega arith) h.1

  -- two lists, one after the other
  pub from_append : (k m : ℕ) (ts us : List Tree) → k + length ts ≡ m → HoldsFrom w n k ts → HoldsFrom w n m us
      → HoldsFrom w n k (ts ++ us)
  from_append k m [] us e h g =
      let d : m ≡ k = omega arith in
      subst (λ (i : ℕ). HoldsFrom w n i us) d g
  from_append k m (t ∷ ts) us e h g = (h.0, from_append (suc k) m ts us (omega arith) h.1 g)

-- a list of trees is kept with each of them
pub from_kept : {w v : List ℕ} {n m : ℕ} → Kept w n v m →
    (k : ℕ) (ts : List Tree) → HoldsFrom w n k ts → HoldsFrom v m k ts
from_kept kept k [] h = tt
from_kept kept k (t ∷ ts) h = (kept k t h.0, from_kept kept (suc k) ts h.1)

-- two stretches of written slots, one after the other
pub untouched_trans : {w v u : List ℕ} {n m k : ℕ} → n ≤ m → m ≤ k →
    Untouched w n v m → Untouched v m u k → Untouched w n u k
untouched_trans l r a b =
    record {
      long = b.long ∙ a.long;
      under = λ i h. b.under i (omega arith) ∙ a.under i h;
      over = λ i h. b.over i h ∙ a.over i (omega arith);
    }
