-- Laws of the slots that records get: where all are placed, each has one below their number, no two have one, and children have
-- lower ones.
use Prim.Native.Nat.{ℕ, ◌+◌, ◌≤◌, ◌<◌}
use mathlib.Core.Path.{◌≡◌}
use mathlib.Core.List.{List}
use native.Mathlib.Omega.{arith}
use lib.ListN.{length, get_or}
use Rattle.sizes.specs.Sizes.{nodes_size}
use Rattle.placing.specs.Circles.{ChildLink}
use Rattle.placing.proofs.Steps.{placed_most}
use Rattle.placing.proofs.Laid.{Laid, child_in, placed_laid, placed_all_lem}
use Rattle.nodes.specs.Records.{NodeRecord}
use Rattle.nodes.specs.Links.{links_of, placed_of}
use Rattle.nodes.proofs.Children.{links_ok}

module _ (rs : List NodeRecord) (few : length rs ≤ nodes_size.most) where
  abbrev S : List ℕ
  S = (placed_of rs).slots

  pub slots_laid : Laid (links_of rs) (length rs) (placed_of rs)
  unfolding placed_of
  slots_laid = placed_laid (links_of rs) (length rs) nodes_size.most (links_ok rs few)

  module _ (whole : length rs ≤ (placed_of rs).count) where
    pub slots_count : (placed_of rs).count ≡ length rs
    unfolding placed_of
    slots_count = omega (arith, placed_most (links_of rs) (length rs) nodes_size.most)

    pub slot_some : (i : ℕ) → i < length rs → 0 < get_or S i 0
    unfolding placed_of
    slot_some = placed_all_lem (links_of rs) (length rs) nodes_size.most (links_ok rs few) whole

    pub slot_most : (i : ℕ) → i < length rs → get_or S i 0 ≤ length rs
    slot_most i l = omega (arith, slots_laid.low i l, slots_count)

    pub slot_single : (i j : ℕ) → i < length rs → j < length rs → get_or S i 0 ≡ get_or S j 0 → i ≡ j
    slot_single i j l m e = slots_laid.single i j l m (slot_some i l) e

    pub slot_onto : (k : ℕ) → k < length rs → (i : ℕ) × (i < length rs) × (get_or S i 0 ≡ k + 1)
    slot_onto k l = slots_laid.onto k (omega (arith, slots_count))

    pub slot_lower : (i j : ℕ) → i < length rs → ChildLink (links_of rs) i j → (j < length rs) × (get_or S j 0 < get_or S i 0)
    slot_lower i j l c = (
      child_in (links_of rs) (length rs) (links_ok rs few).small i j l c,
      (slots_laid.ranks i j l c (slot_some i l)).1,
    )
