-- A store in which no tree stands twice is held by one table alone: each tree has one slot, so each slot the same words.
use Prim.Native.Nat.{ℕ, ◌+◌, ◌*◌, ◌<◌}
use mathlib.Core.Path.{◌≡◌, sym, ap, ◌∙◌}
use mathlib.Core.List.{List}
use native.Mathlib.Omega.{arith}
use native.Mathlib.Nat.{zero-add}
use native.Mathlib.Decide.{dec_lt}
use lib.ListN.{length, get_or}
use lib.Seq.{ext_get_or}
use Rattle.lists.specs.Among.{Distinct}
use Rattle.lists.proofs.Index.{distinct_index}
use Rattle.calculus.specs.Tree.{Tree, leaf}
use Rattle.table.specs.Slots.{SameSlots}
use Rattle.table.specs.Holds.{Holds, holds_leaf, holds_stem, holds_fork, Untouched}
use Rattle.table.proofs.SlotLaws.{same_below}
use Rattle.table.proofs.HoldsLaws.{held_below, one_tree, from_at}
use Rattle.guarantees.specs.Session.{Holding}

module _ (n : ℕ) (store : List Tree) (apart : Distinct store) where
  -- the tree that slot k holds is at place k of the store
  held_at : {w : List ℕ} {k : ℕ} {t : Tree} → Holding w n store → Holds w n k t → get_or store k leaf ≡ t
  held_at {w} {k} {t} good h =
      one_tree w n k (get_or store k leaf) t
      (from_at w n 0 k k store (zero-add k) (omega (arith, good.long, held_below h)) good.each) h

  module _ (w v : List ℕ) (good : Holding w n store) (fine : Holding v n store) where
    -- slots that hold one tree are one slot
    pub one_slot : {a b : ℕ} {t : Tree} → Holds w n a t → Holds v n b t → a ≡ b
    one_slot {a} {b} h g =
        distinct_index leaf apart a b (omega (arith, good.long, held_below h)) (omega (arith, good.long, held_below g))
        (held_at good h ∙ sym (held_at fine g))

    same_words : {i : ℕ} {t : Tree} → Holds w n i t → Holds v n i t →
        (get_or w (2 * i) 0 ≡ get_or v (2 * i) 0) × (get_or w (2 * i + 1) 0 ≡ get_or v (2 * i + 1) 0)
    same_words (holds_leaf l e) (holds_leaf m f) = (e.first ∙ sym f.first, e.second ∙ sym f.second)
    same_words (holds_stem l e h) (holds_stem m f g) =
        (e.first ∙ ap (λ (x : ℕ). x + 1) (one_slot h g) ∙ sym f.first, e.second ∙ sym f.second)
    same_words (holds_fork l e h o) (holds_fork m f g p) = (
      e.first ∙ ap (λ (x : ℕ). x + 1) (one_slot h g) ∙ sym f.first,
      e.second ∙ ap (λ (x : ℕ). x + 1) (one_slot o p) ∙ sym f.second,
    )

    same_slots : SameSlots n w v
    same_slots i l =
        let k : i < length store = omega (arith, good.long) in
        same_words (from_at w n 0 i i store (zero-add i) k good.each) (from_at v n 0 i i store (zero-add i) k fine.each)

    -- the other words are those of u
    pub one_table : (u : List ℕ) → Untouched u 0 w n → Untouched u 0 v n → w ≡ v
    one_table u a b =
        ext_get_or 0 w v (a.long ∙ sym b.long) (λ k l.
        elim (dec_lt k (2 * n)) [
          | yes h ↦ same_below w v same_slots k h
          | no h ↦ a.over k (omega (arith, h)) ∙ sym (b.over k (omega (arith, h)))
        ])
