-- The ways through reading a slot.
use Prim.Native.Nat.{ℕ, zero, suc, ◌-◌}
use mathlib.Core.Path.{◌≡◌, refl}
use mathlib.Core.List.{List}
use native.Mathlib.Omega.{arith}
use native.Mathlib.Numerals.{sub-one}
use Rattle.table.specs.declared.slots.Node.TheVariants.{Leaf, Stem, Fork}
use Rattle.table.specs.Slots.{slot, node_of, first_at, second_at, node_at}

-- the words of a leaf, a stem and a fork
leaf_of : (p q : ℕ) → p ≡ 0 → Leaf ≡ node_of p q
leaf_of zero q e = refl
leaf_of (suc p) q e = absurd (omega arith)

stem_of : (p q : ℕ) → (p ≡ 0 → ⊥) → q ≡ 0 → Stem (slot (p - 1)) ≡ node_of p q
stem_of zero q h e = absurd (h refl)
stem_of (suc p) zero h e = rw sub-one
stem_of (suc p) (suc q) h e = absurd (omega arith)

fork_of : (p q : ℕ) → (p ≡ 0 → ⊥) → (q ≡ 0 → ⊥) → Fork (slot (p - 1)) (slot (q - 1)) ≡ node_of p q
fork_of zero q h k = absurd (h refl)
fork_of (suc p) zero h k = absurd (k refl)
fork_of (suc p) (suc q) h k = rw (sub-one, sub-one)

module _ (w : List ℕ) (i : ℕ) where
  abbrev p : ℕ
  p = first_at w i

  abbrev q : ℕ
  q = second_at w i

  -- a slot that holds a leaf, a stem, a fork
  pub node_leaf : p ≡ 0 → Leaf ≡ node_at w i
  unfolding node_at
  node_leaf = leaf_of p q

  pub node_stem : (p ≡ 0 → ⊥) → q ≡ 0 → Stem (slot (p - 1)) ≡ node_at w i
  unfolding node_at
  node_stem = stem_of p q

  pub node_fork : (p ≡ 0 → ⊥) → (q ≡ 0 → ⊥) → Fork (slot (p - 1)) (slot (q - 1)) ≡ node_at w i
  unfolding node_at
  node_fork = fork_of p q
