-- What is known of records while they are placed: each step keeps it, so it is known of all that can be placed.
use Prim.Native.Nat.{ℕ, ◌+◌, ◌*◌, ◌≤◌, ◌<◌}
use mathlib.Core.Path.{◌≡◌, sym, ap, ◌∙◌, subst}
use mathlib.Core.Bool.{true}
use mathlib.Core.List.{List}
use native.Mathlib.Omega.{arith}
use native.Mathlib.Decide.{dec_lt, ℕ_discrete}
use lib.ListN.{length, get_or, replicate, length-set, length-replicate, get_or-replicate}
use lib.Seq.{get_or-set_same, get_or-set_other}
use Rattle.placing.specs.Placing.{ready, Placed, put, placing, unplaced, placed, Links}
use Rattle.placing.specs.Circles.{ChildLink, first, second}
use Rattle.placing.proofs.Views.{ready_view, child_ok}
use Rattle.placing.proofs.Steps.{placing_keeps}
use Rattle.placing.proofs.Tally.{tally, tally_all, tally_none, tally_set}

-- There is a word for each record, at most the count. A placed record's children are placed, in earlier slots. As many
-- records are placed as are counted; each slot below the count is some record's, and only one's.
pub record Laid (L : List ℕ) (n : ℕ) (p : Placed) : Type 0 where
  pub long : n ≤ length p.slots
  pub low : (i : ℕ) → i < n → get_or p.slots i 0 ≤ p.count
  pub ranks : (i j : ℕ) → i < n → ChildLink L i j → 0 < get_or p.slots i 0 →
      (0 < get_or p.slots j 0) × (get_or p.slots j 0 < get_or p.slots i 0)
  pub total : tally p.slots n ≡ p.count
  pub onto : (j : ℕ) → j < p.count → (i : ℕ) × (i < n) × (get_or p.slots i 0 ≡ j + 1)
  pub single : (i j : ℕ) → i < n → j < n → 0 < get_or p.slots i 0 → get_or p.slots i 0 ≡ get_or p.slots j 0 → i ≡ j

-- the slots once record i has got the next one: its own, the other records', and those of the records placed before
module _ (p : Placed) (i : ℕ) where
  pub mine : i < length p.slots → get_or (put p i).slots i 0 ≡ p.count + 1
  unfolding put
  mine here = get_or-set_same p.slots i (p.count + 1) 0 here

  pub unlike : (j : ℕ) → (j ≡ i → ⊥) → get_or (put p i).slots j 0 ≡ get_or p.slots j 0
  unfolding put
  unlike j d = get_or-set_other p.slots i j (p.count + 1) 0 d

pub others : (L : List ℕ) (p : Placed) (i : ℕ) → ready L p.slots i ≡ true →
    (j : ℕ) → 0 < get_or p.slots j 0 → get_or (put p i).slots j 0 ≡ get_or p.slots j 0
others L p i r j g =
    unlike p i j (λ e. let z : get_or p.slots j 0 ≡ 0 = rw e (ready_view L p.slots i r).0 in omega arith)

module _ (L : List ℕ) (n : ℕ) (small : (k : ℕ) → k < 2 * n → get_or L k 0 ≤ n) where
  pub child_in : (i j : ℕ) → i < n → ChildLink L i j → j < n
  child_in i j l (first e) = omega (arith, small (2 * i) (omega arith))
  child_in i j l (second e) = omega (arith, small (2 * i + 1) (omega arith))

  -- a step keeps it
  module _ (p : Placed) (i : ℕ) (h : Laid L n p) (l : i < n) (r : ready L p.slots i ≡ true) where
    abbrev S : List ℕ
    S = p.slots

    abbrev k : ℕ
    k = p.count

    abbrev S' : List ℕ
    S' = (put p i).slots

    here : i < length S
    here = omega (arith, h.long)

    at_mine : (a : ℕ) → a ≡ i → get_or S' a 0 ≡ k + 1
    at_mine a e = rw e (mine p i here)

    ranked : (a j : ℕ) → a < n → ChildLink L a j → 0 < get_or S' a 0 → (0 < get_or S' j 0) × (get_or S' j 0 < get_or S' a 0)
    ranked a j la c g =
        elim (ℕ_discrete a i) [
          | yes e ↦
              let c' : ChildLink L i j = subst (λ (x : ℕ). ChildLink L x j) e c in
              let s : 0 < get_or S j 0 = child_ok L S i j r c' in
              let o = others L p i r j s in
              let m = at_mine a e in
              let b : get_or S j 0 ≤ k = h.low j (child_in i j l c') in
              (omega arith, omega arith)
          | no d ↦
              let m = unlike p i a d in
              let v = h.ranks a j la c (omega arith) in
              let o = others L p i r j v.0 in
              (omega arith, omega arith)
        ]

    lowered : (a : ℕ) → a < n → get_or S' a 0 ≤ k + 1
    lowered a la =
        elim (ℕ_discrete a i) [
          | yes e ↦ omega (arith, at_mine a e)
          | no d ↦ omega (arith, unlike p i a d, h.low a la)
        ]

    reached : (j : ℕ) → j < k + 1 → (a : ℕ) × (a < n) × (get_or S' a 0 ≡ j + 1)
    reached j lj =
        elim (dec_lt j k) [
          | yes g ↦ let v = h.onto j g in (v.0, v.1, others L p i r v.0 (omega arith) ∙ v.2)
          | no g ↦ let e : j ≡ k = omega arith in (i, l, rw e (mine p i here))
        ]

    alone : (a c : ℕ) → a < n → c < n → 0 < get_or S' a 0 → get_or S' a 0 ≡ get_or S' c 0 → a ≡ c
    alone a c la lc g e =
        elim (ℕ_discrete a i) [
          | yes ea ↦
              elim (ℕ_discrete c i) [
                | yes ec ↦ ea ∙ sym ec
                | no dc ↦ absurd (omega (arith, at_mine a ea, unlike p i c dc, h.low c lc))
              ]
          | no da ↦
              elim (ℕ_discrete c i) [
                | yes ec ↦ absurd (omega (arith, at_mine c ec, unlike p i a da, h.low a la))
                | no dc ↦
                    let ma = unlike p i a da in
                    h.single a c la lc (omega arith) (sym ma ∙ e ∙ unlike p i c dc)
              ]
        ]

    pub put_laid : Laid L n (put p i)
    unfolding put
    put_laid =
        record {
          long = simp length-set h.long;
          low = lowered;
          ranks = ranked;
          total = tally_set S i (k + 1) here (ready_view L S i r).0 (omega arith) n l ∙ ap (λ (x : ℕ). x + 1) h.total;
          onto = reached;
          single = alone;
        }

  pub placing_laid : (m : ℕ) (p : Placed) → Laid L n p → Laid L n (placing m L n p)
  placing_laid = placing_keeps L n (Laid L n) put_laid

-- it is so at the start
module _ (L : List ℕ) (n room : ℕ) (h : n ≤ room) where
  unset : (i : ℕ) → i < n → ◌≡◌ {A = ℕ} (get_or (replicate room 0) i 0) 0
  unset i l = get_or-replicate {A = ℕ} room i 0 0 (omega arith)

  pub start_laid : Laid L n (unplaced room)
  start_laid =
      record {
        long = simp length-replicate h;
        low = λ i l. omega (arith, unset i l);
        ranks = λ i j l c g. absurd (omega (arith, unset i l));
        total = tally_none (replicate room 0) n unset;
        onto = λ j l. absurd (omega arith);
        single = λ i j l m g e. absurd (omega (arith, unset i l));
      }

module _ (L : List ℕ) (n room : ℕ) (k : Links L n room) where
  pub placed_laid : Laid L n (placed L n room)
  unfolding placed
  placed_laid = placing_laid L n k.small n (unplaced room) (start_laid L n room k.fits)

  -- not short: each record is placed
  pub placed_all_lem : n ≤ (placed L n room).count → (i : ℕ) → i < n → 0 < get_or (placed L n room).slots i 0
  placed_all_lem h = tally_all (placed L n room).slots n (omega (arith, placed_laid.total))
