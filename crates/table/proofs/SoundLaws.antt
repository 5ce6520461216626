-- Laws of sound slots: their words are those of a node, and its children's slots are lower.
use Prim.Native.Nat.{ℕ, zero, suc, ◌+◌, ◌*◌, ◌≤◌, ◌<◌}
use mathlib.Core.Path.{◌≡◌, refl, sym, ◌∙◌, subst}
use mathlib.Core.Bool.{true, false, ◌&&◌, false≢true}
use mathlib.Core.List.{List}
use mathlib.Core.Logic.{⊎_elim, ◌↔◌}
use native.Mathlib.Omega.{arith}
use native.Mathlib.Numerals.{add-one}
use native.Mathlib.Decide.{dec_lt}
use lib.Dec.{leb, eqb}
use lib.ListN.{get_or}
use borrow.Author.Tests.{le-leb, leb-true, eq-eqb, eqb-true}
use Rattle.std.proofs.lemmas.Bool.{and_parts, and_cases}
use Rattle.table.specs.declared.slots.Node.{Node}
use Rattle.table.specs.declared.slots.Node.TheVariants.{Leaf, Stem, Fork}
use Rattle.table.specs.Slots.{room, first_word, second_word, first_at, second_at, node_of, node_at, put_node, Below}
use Rattle.table.specs.Slots.{SameSlots}
use Rattle.table.specs.Sound.{slot_sound, sound_at, sound, SlotsPass, SoundSlot, SoundSlots, SlotsSoundExactly}
use Rattle.table.proofs.SlotLaws.{in_room, Has, room_put, put_here, first_other, second_other}

-- ---- what the test says

module _ (w : List ℕ) where
  pub slot_sound_lem : (i : ℕ) → (sound_at w i ≡ true) ↔ SoundSlot w i
  unfolding slot_sound first_at second_at
  slot_sound_lem zero =
      let p = get_or w 0 0 in
      let q = get_or w 1 0 in (
        λ e. let (a, b) = and_parts (eqb p 0) (eqb q 0) e in (eqb-true p 0 a, eqb-true q 0 b),
        λ s. rw (eq-eqb p 0 s.0, eq-eqb q 0 s.1),
      )
  slot_sound_lem (suc i) =
      let p = get_or w (2 * suc i) 0 in
      let q = get_or w (2 * suc i + 1) 0 in (
        λ e.
            let (a, r) = and_parts (leb 1 p) (leb p (suc i) && leb q (suc i)) e in
            let (b, c) = and_parts (leb p (suc i)) (leb q (suc i)) r in
            (leb-true 1 p a, leb-true p (suc i) b, leb-true q (suc i) c),
        λ s. rw (le-leb 1 p s.0, le-leb p (suc i) s.1, le-leb q (suc i) s.2),
      )

  pub each_sound_lem : (n : ℕ) → (sound w n ≡ true) ↔ ((i : ℕ) → i < n → SoundSlot w i)
  unfolding sound
  each_sound_lem zero = (λ e i h. absurd (omega arith), λ h. refl)
  each_sound_lem (suc n) = (
    λ e i h.
        let (p, q) = and_parts (sound w n) (sound_at w n) e in
        elim (dec_lt i n) [
          | yes g ↦ (each_sound_lem n).0 p i g
          | no g ↦ let s : n ≡ i = omega (arith, g) in subst (SoundSlot w) s ((slot_sound_lem n).0 q)
        ],
    λ h. rw ((each_sound_lem n).1 (λ i l. h i (omega arith)), (slot_sound_lem n).1 (h n (omega arith))),
  )

  -- where the test fails, some slot is not sound
  pub sound_breaks : (n : ℕ) → sound w n ≡ false → (i : ℕ) × (i < n) × (SoundSlot w i → ⊥)
  unfolding sound
  sound_breaks zero e = absurd (false≢true (sym e))
  sound_breaks (suc n) e =
      ⊎_elim
      (λ h. let s = sound_breaks n h in (s.0, omega (arith, s.1), s.2))
      (λ h. (n, omega arith, λ s. false≢true (sym h ∙ (slot_sound_lem n).1 s)))
      (and_cases (sound w n) (sound_at w n) e)

pub slots_sound : SlotsSoundExactly
slots_sound w n = (
  λ s. record { fits = s.fits; each = (each_sound_lem w n).0 s.sound },
  λ s. record { fits = s.fits; sound = (each_sound_lem w n).1 s.each },
)

-- ---- the nodes of sound slots

-- the bounds of sound words: none is above the slot, and from slot 1 on the first is above 0
record Bounds (i p q : ℕ) : Type 0 where
  first : p ≤ i
  second : q ≤ i
  some : 0 < i → 0 < p

bounds : (w : List ℕ) (i : ℕ) → SoundSlot w i → Bounds i (first_at w i) (second_at w i)
unfolding first_at second_at
bounds w zero s =
    record { first = omega (arith, s.0); second = omega (arith, s.1); some = λ h. absurd (omega arith) }
bounds w (suc i) s = record { first = s.1; second = s.2; some = λ _. s.0 }

-- words within the bounds are those of a node with lower children
below_of : (i p q : ℕ) → Bounds i p q → Below i (node_of p q)
below_of i zero q b = tt
below_of i (suc a) zero b = b.first
below_of i (suc a) (suc c) b = (b.first, b.second)

first_of : (p q : ℕ) → p ≡ first_word (node_of p q)
first_of zero q = refl
first_of (suc a) zero = sym (add-one _)
first_of (suc a) (suc c) = sym (add-one _)

second_of : (i p q : ℕ) → Bounds i p q → q ≡ second_word (node_of p q)
second_of i zero q b =
    elim (dec_lt 0 i) [
      | yes g ↦ absurd (omega (arith, b.some g))
      | no g ↦ omega (arith, b.second, g)
    ]
second_of i (suc a) zero b = refl
second_of i (suc a) (suc c) b = sym (add-one _)

-- the children of a sound slot are lower
pub slot_below : (w : List ℕ) (i : ℕ) → SoundSlot w i → Below i (node_at w i)
unfolding node_at
slot_below w i s = below_of i (first_at w i) (second_at w i) (bounds w i s)

pub slot_bounds : (w : List ℕ) (n : ℕ) → sound w n ≡ true → (i : ℕ) → i < n → Below i (node_at w i)
slot_bounds w n good i h = slot_below w i ((each_sound_lem w n).0 good i h)

module _ (w : List ℕ) (n : ℕ) (good : SoundSlots w n) where
  -- a sound slot has the words of its node
  pub slot_has : (i : ℕ) → i < n → Has w i (node_at w i)
  unfolding node_at first_at second_at
  slot_has i h =
      record {
        inside = in_room w i (omega (arith, good.fits));
        first = first_of (first_at w i) (second_at w i);
        second = second_of i (first_at w i) (second_at w i) (bounds w i (good.each i h));
      }

  -- slot 0 is the leaf's
  pub sound_zero : 0 < n → Has w 0 Leaf
  sound_zero h =
      let (p, q) = good.each 0 h in
      record { inside = in_room w 0 (omega (arith, good.fits)); first = p; second = q }

-- a slot that has a node whose children are lower, the leaf in slot 0 alone, is sound
pub node_sound : (w : List ℕ) (i : ℕ) (node : Node) → Has w i node → Below i node → (node ≡ Leaf → i ≡ 0) → SoundSlot w i
node_sound w zero Leaf h b e = (h.first, h.second)
node_sound w zero (Stem a) h b e = absurd (omega arith)
node_sound w zero (Fork a c) h b e = absurd (omega (arith, b.0))
node_sound w (suc i) Leaf h b e = absurd (omega (arith, e refl))
node_sound w (suc i) (Stem a) h b e =
    (omega (arith, h.first), omega (arith, h.first, b), omega (arith, h.second))
node_sound w (suc i) (Fork a c) h b e =
    (omega (arith, h.first), omega (arith, h.first, b.0), omega (arith, h.second, b.1))

-- tables with the same words in the first n slots are sound alike
pub sound_same : (w v : List ℕ) (n : ℕ) → SameSlots n w v → sound w n ≡ sound v n
unfolding sound first_at second_at
sound_same w v zero h = refl
sound_same w v (suc n) h =
    let e = h n (omega arith) in
    rw (sound_same w v n (λ i l. h i (omega arith)), e.0, e.1)

sound_under : (w : List ℕ) (i : ℕ) (node : Node) (n : ℕ) → n ≤ i → sound (put_node w i node) n ≡ sound w n
sound_under w i node n h =
    sound_same (put_node w i node) w n
    (λ k l. let o : k ≡ i → ⊥ = omega arith in (first_other w i node k o, second_other w i node k o))

sound_put : (w : List ℕ) (n : ℕ) (node : Node) → sound w n ≡ true → n < room w → Below n node →
    (node ≡ Leaf → ⊥) → sound (put_node w n node) (n + 1) ≡ true
unfolding sound
sound_put w n node e l b h =
    let s = node_sound (put_node w n node) n node (put_here w n node l) b (λ f. absurd (h f)) in
    rw (add-one, sound, sound_under w n node n (omega arith), e, (slot_sound_lem (put_node w n node) n).1 s)

-- a node in the next slot, its children below: the used slots are sound with it
pub sound_next : (w : List ℕ) (n : ℕ) (node : Node) → SlotsPass w n → n < room w → Below n node →
    (node ≡ Leaf → ⊥) → SlotsPass (put_node w n node) (n + 1)
sound_next w n node s l b h =
    record { fits = rw (room_put w n node) (omega arith); sound = sound_put w n node s.sound l b h }
