-- Laws of the node of two links: which node it is, and that a placed record's node is one that may be written.
use Prim.Native.Nat.{ℕ, zero, suc, ◌+◌, ◌-◌, ◌*◌, ◌≤◌, ◌<◌}
use mathlib.Core.Path.{◌≡◌, refl}
use mathlib.Core.List.{List}
use native.Mathlib.Omega.{arith}
use lib.ListN.{length, get_or}
use Rattle.table.specs.declared.slots.Slot.{Slot}
use Rattle.table.specs.declared.slots.Node.{Node}
use Rattle.table.specs.declared.slots.Node.TheVariants.{Leaf, Stem, Fork}
use Rattle.table.specs.Slots.{room, Below}
use Rattle.placing.specs.Circles.{ChildLink as Linked, first, second}
use Rattle.unpacking.specs.Ready.{PlacedAt, slot_at, linked}

-- x and y stand for the slots of the children, as the calls answered them
module _ (slots : List ℕ) where
  pub linked_leaf : (a b : ℕ) → a ≡ 0 → Leaf ≡ linked slots a b
  unfolding linked
  linked_leaf a b h = rw h

  pub linked_stem : (a b : ℕ) → (a ≡ 0 → ⊥) → {x : Slot} → x ≡ slot_at slots (a - 1) → b ≡ 0 → Stem x ≡ linked slots a b
  unfolding linked
  linked_stem zero b some e h = absurd (some refl)
  linked_stem (suc a) b some e h = let m : suc a - 1 ≡ a = omega arith in rw (h, e, m)

  pub linked_fork : (a b : ℕ) → (a ≡ 0 → ⊥) → {x y : Slot} → x ≡ slot_at slots (a - 1) → (b ≡ 0 → ⊥) →
      y ≡ slot_at slots (b - 1) → Fork x y ≡ linked slots a b
  unfolding linked
  linked_fork zero b some e more f = absurd (some refl)
  linked_fork (suc a) zero some e more f = absurd (more refl)
  linked_fork (suc a) (suc b) some e more f =
      let m : suc a - 1 ≡ a = omega arith in
      let k : suc b - 1 ≡ b = omega arith in
      rw (e, f, m, k)

  -- the children's slots are below s where they are for each link
  linked_below : (s a b : ℕ) → ((a ≡ 0 → ⊥) → (slot_at slots (a - 1)).0 < s) → ((b ≡ 0 → ⊥) → (slot_at slots (b - 1)).0 < s) →
      Below s (linked slots a b)
  unfolding linked
  linked_below s zero b h l = tt
  linked_below s (suc a) zero h l =
      let m : suc a - 1 ≡ a = omega arith in
      rw m at (h (omega arith))
  linked_below s (suc a) (suc b) h l =
      let m : suc a - 1 ≡ a = omega arith in
      let k : suc b - 1 ≡ b = omega arith in
      (rw m at (h (omega arith)), rw k at (l (omega arith)))

-- the record that a link x of a placed record names is placed, in a lower slot
module _ {links slots : List ℕ} {i : ℕ} (h : PlacedAt links slots i) where
  lower_link : (x : ℕ) → ((j : ℕ) → x ≡ j + 1 → Linked links i j) → (x ≡ 0 → ⊥) →
      (x - 1 < length slots) × (0 < get_or slots (x - 1) 0) × (get_or slots (x - 1) 0 < get_or slots i 0)
  lower_link x is some = h.lower (x - 1) (is (x - 1) (omega (arith, some)))

  pub link_placed : (x : ℕ) → ((j : ℕ) → x ≡ j + 1 → Linked links i j) → (x ≡ 0 → ⊥) →
      (x - 1 < length slots) × (0 < get_or slots (x - 1) 0)
  link_placed x is some = let (l, m, k) = lower_link x is some in (l, m)

  link_below : (x : ℕ) → ((j : ℕ) → x ≡ j + 1 → Linked links i j) → (x ≡ 0 → ⊥) →
      (slot_at slots (x - 1)).0 < (slot_at slots i).0
  link_below x is some = let (l, m, k) = lower_link x is some in omega arith

  -- its node may be written; x and n stand for its slot and its node, as the calls answered them
  pub placed_fits : (w : List ℕ) → get_or slots i 0 ≤ room w → {x : Slot} {n : Node} → x ≡ slot_at slots i →
      n ≡ linked slots (get_or links (2 * i) 0) (get_or links (2 * i + 1) 0) → (x.0 < room w) × Below x.0 n
  placed_fits w l e f =
      rw (e, f) (
        omega (arith, h.placed),
        linked_below slots (slot_at slots i).0 (get_or links (2 * i) 0) (get_or links (2 * i + 1) 0)
            (link_below (get_or links (2 * i) 0) (λ j. first)) (link_below (get_or links (2 * i + 1) 0) (λ j. second)),
      )
