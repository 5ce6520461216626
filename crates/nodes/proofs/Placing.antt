-- Laws of placing a section's records: what the shape says of their number, what placing is lent, what its count tells.
use Rattle.std.specs.Prelude.{Option, Some, None}
use Rattle.lists.specs.Options.{on_some}
use Prim.Native.Nat.{ℕ, ◌*◌, ◌≤◌}
use mathlib.Core.Path.{◌≡◌, refl, ap, ◌∙◌, subst}
use mathlib.Core.List.{List, ◌++◌}
use mathlib.Core.Bool.{Bool, true, false, cond}
use native.Mathlib.Omega.{arith}
use lib.Dec.{ltb}
use lib.ListN.{length, take, replicate, length-replicate, length-append}
use lib.Seq.{take_at}
use Rattle.wire.specs.Wire.{number_at, or_zero}
use Rattle.lists.proofs.Same.{not_both}
use Rattle.sizes.specs.Sizes.{within, nodes_size}
use Rattle.sizes.proofs.Within.{within_exactly}
use Rattle.placing.specs.Placing.{Placed, Links, placing, placed}
use Rattle.nodes.specs.Records.{NodeRecord, records_end, count, nodes_of, ends_at, shaped}
use Rattle.nodes.specs.Links.{links_of, placed_of, circular, Sized, PlacedTables}
use Rattle.nodes.proofs.Children.{links_length, links_ok}
use Rattle.nodes.proofs.Walks.{records_all}

-- a section that has the shape has as many records as it says; n stands for the count, as the call answered it
pub shaped_sized : (s : List ℕ) {n : ℕ} → n ≡ count s → shaped s ≡ true → Sized s n
unfolding count shaped
shaped_sized s e h = rw e (counted (number_at 8 s 0) h)
  where
    sized : (n : ℕ) (b : Bool) → within nodes_size n ≡ b → (p : Option ℕ) → records_end s n 8 ≡ p →
        cond b (ends_at p (length s)) false ≡ true → Sized s n
    sized n true w (Some end) g h = record { all = records_all s n 8 g; few = ((within_exactly nodes_size n).0 w).1 }
    sized n true w None g h = not_both h refl
    sized n false w p g h = not_both h refl

    counted : (x : Option ℕ) →
        on_some x (λ n. cond (within nodes_size n) (ends_at (records_end s n 8) (length s)) false) false ≡ true →
        Sized s (or_zero x)
    counted (Some n) h = sized n (within nodes_size n) refl (records_end s n 8) refl h
    counted None h = not_both h refl

-- and it has one at least
pub shaped_some : (s : List ℕ) → shaped s ≡ true → 1 ≤ length (nodes_of s)
unfolding count shaped nodes_of
shaped_some s h = rw (shaped_sized s refl h).all (counted (number_at 8 s 0) h)
  where
    some : (n : ℕ) (b : Bool) → within nodes_size n ≡ b → (rest : Bool) → cond b rest false ≡ true → 1 ≤ n
    some n true w rest h = ((within_exactly nodes_size n).0 w).0
    some n false w rest h = not_both h refl

    counted : (x : Option ℕ) →
        on_some x (λ n. cond (within nodes_size n) (ends_at (records_end s n 8) (length s)) false) false ≡ true → 1 ≤ or_zero x
    counted (Some n) h = some n (within nodes_size n) refl _ h
    counted None h = not_both h refl

-- n records, which is within the size; the links that were filled in are the first words of the table, and nothing is placed yet
module _ (rs : List NodeRecord) {n : ℕ} (all : length rs ≡ n) (few : n ≤ nodes_size.most)
    {out slots : List ℕ} (old : List ℕ) (filled : out ≡ links_of rs ++ old) (unplaced : slots ≡ replicate nodes_size.most 0) where
  links_lent : take (2 * n) out ≡ links_of rs
  links_lent = rw filled (take_at (links_of rs) old (2 * n) (omega (arith, links_length rs rs)))

  pub place_links : Links (take (2 * n) out) n (length slots)
  place_links =
      let l : length slots ≡ nodes_size.most = ap length unplaced ∙ length-replicate {A = ℕ} nodes_size.most 0 in
      rw (links_lent, l) (subst (λ (m : ℕ). Links (links_of rs) m nodes_size.most) all (links_ok rs (omega arith)))

  -- the count falls short of n exactly as 19 says, and the tables are left
  pub placing_left : {left : List ℕ} {r : ℕ} →
      record { slots = left; count = r } ≡ placing n (take (2 * n) out) n (record { slots = slots; count = 0 }) →
      (ltb r n ≡ circular rs) × PlacedTables rs out left
  unfolding circular placed_of placed
  placing_left {left} {r} e =
      let g : record { slots = left; count = r } ≡ placed_of rs = e ∙ rw (links_lent, unplaced, all) in (
        rw (← g, all),
        record {
          few = omega arith;
          space = rw filled (omega (arith, links_length rs rs, length-append (links_of rs) old));
          links_are = rw all links_lent;
          slots_are = ap (λ (p : Placed). p.slots) g;
        },
      )
