-- Placing stops short exactly where a record is its own descendant.
use Rattle.std.specs.Prelude.{None}
use Prim.Native.Nat.{ℕ, zero, suc, ◌+◌, ◌-◌, ◌*◌, ◌≤◌, ◌<◌}
use mathlib.Core.Path.{◌≡◌, sym, subst}
use mathlib.Core.List.{List}
use mathlib.Core.Logic.{⊎_elim}
use native.Mathlib.Omega.{arith}
use native.Mathlib.Decide.{dec_lt}
use lib.ListN.{get_or}
use Rattle.placing.specs.Placing.{earliest, Placed, unplaced, placed}
use Rattle.placing.specs.Circles.{ChildLink, first, second, Descends, child, deeper, LinkCircle, ShortExactlyOnCircles}
use Rattle.placing.proofs.Views.{settled_not, ready_not, earliest_none}
use Rattle.placing.proofs.Steps.{placing_ends}
use Rattle.placing.proofs.Tally.{tally_gap, tally_all}
use Rattle.placing.proofs.Laid.{Laid, child_in, placed_laid}
use Rattle.placing.proofs.Pigeon.{pigeon}

further : {L : List ℕ} {i j k : ℕ} → Descends L i j → ChildLink L j k → Descends L i k
further (child c) d = deeper c (child d)
further (deeper c e) d = deeper c (further e d)

module _ (L : List ℕ) (n : ℕ) (small : (k : ℕ) → k < 2 * n → get_or L k 0 ≤ n) where
  -- a descendant of a placed record is placed, and has an earlier slot
  pub lower : (p : Placed) → Laid L n p → (i j : ℕ) → i < n → 0 < get_or p.slots i 0 → Descends L i j →
      (0 < get_or p.slots j 0) × (get_or p.slots j 0 < get_or p.slots i 0)
  lower p h i j l g (child c) = h.ranks i j l c g
  lower p h i k l g (deeper {j = j} c d) =
      let v = h.ranks i j l c g in
      let w = lower p h j k (child_in L n small i j l c) v.0 d in
      (w.0, omega arith)

  -- so a circle leaves a record unplaced
  circle_short : (p : Placed) → Laid L n p → LinkCircle L n → p.count < n
  circle_short p h c =
      elim (dec_lt p.count n) [
        | yes l ↦ l
        | no l ↦
            let g = tally_all p.slots n (omega (arith, h.total)) c.0 c.1 in
            absurd (omega (arith, (lower p h c.0 c.0 c.1 g c.2).1))
      ]

  -- where placing is stuck, an unplaced record has an unplaced child
  module _ (S : List ℕ) (stuck : earliest L S n 0 ≡ None) where
    record Unplaced : Type 0 where
      pub num : ℕ
      pub inside : num < n
      pub free : get_or S num 0 ≡ 0

    abbrev named : (k : ℕ) → k < 2 * n → (0 < get_or L k 0) × (get_or S (get_or L k 0 - 1) 0 ≡ 0) → Unplaced
    named k l o = record { num = get_or L k 0 - 1; inside = omega (arith, small k l); free = o.1 }

    under : (u : Unplaced) → (v : Unplaced) × ChildLink L u.num v.num
    under u =
        let i = u.num in
        ⊎_elim
        (λ e.
        let o = settled_not S (get_or L (2 * i) 0) e in
        (named (2 * i) (omega arith) o, first (omega arith)))
        (λ e.
        let o = settled_not S (get_or L (2 * i + 1) 0) e in
        (named (2 * i + 1) (omega arith) o, second (omega arith)))
        (ready_not L S i (earliest_none L S n 0 stuck i (omega arith) (omega arith)) u.free)

    -- from child to child: among n + 1 records one comes again
    module _ (u : Unplaced) where
      walk : ℕ → Unplaced
      walk zero = u
      walk (suc m) = (under (walk m)).0

      down : (a b : ℕ) → a < b → Descends L (walk a).num (walk b).num
      unfolding walk
      down a zero l = absurd (omega arith)
      down a (suc b) l = go (dec_lt a b) (down a b)
        where
          go : Dec (a < b) → (a < b → Descends L (walk a).num (walk b).num) →
              Descends L (walk a).num (under (walk b)).0.num
          go (yes g) ih = further (ih g) (under (walk b)).1
          go (no g) ih = let e : a ≡ b = omega arith in rw e (child (under (walk b)).1)

      round : LinkCircle L n
      round =
          let t = pigeon n (λ k. (walk k).num) (λ k l. (walk k).inside) in (
            (walk t.a).num,
            (walk t.a).inside,
            subst (λ (x : ℕ). Descends L (walk t.a).num x) (sym t.same) (down t.a t.b t.earlier),
          )

  short_circle : (p : Placed) → Laid L n p → earliest L p.slots n 0 ≡ None → p.count < n → LinkCircle L n
  short_circle p h stuck l =
      let g = tally_gap p.slots n (omega (arith, h.total)) in
      round p.slots stuck (record { num = g.0; inside = g.1; free = g.2 })

pub short_exactly_on_circles : ShortExactlyOnCircles
unfolding placed
short_exactly_on_circles L n room k =
    let h : Laid L n (placed L n room) = placed_laid L n room k in (
      λ l.
          ⊎_elim
          (λ e. absurd (omega arith))
          (λ e. short_circle L n k.small (placed L n room) h e.1 l)
          (placing_ends L n n (unplaced room)),
      λ c. circle_short L n k.small (placed L n room) h c,
    )
