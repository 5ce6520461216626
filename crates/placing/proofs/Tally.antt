-- How many of the first m records are placed.
use Prim.Native.Nat.{ℕ, zero, suc, ◌+◌, ◌≤◌, ◌<◌}
use mathlib.Core.Path.{◌≡◌, refl}
use mathlib.Core.Bool.{Bool, true, false, cond}
use mathlib.Core.List.{List}
use native.Mathlib.Omega.{arith}
use native.Mathlib.Decide.{dec_lt, ℕ_discrete}
use lib.ListN.{length, get_or, set}
use lib.Seq.{get_or-set_same, get_or-set_other}
use lib.Dec.{eqb}
use borrow.Author.Tests.{eq-eqb, ne_eqb, eqb-true, eqb-false}

unfoldable pub tally : List ℕ → ℕ → ℕ
tally S zero = 0
tally S (suc m) = cond (eqb (get_or S m 0) 0) 0 1 + tally S m

module _ (S : List ℕ) where
  pub tally_most : (m : ℕ) → tally S m ≤ m
  unfolding tally
  tally_most zero = omega arith
  tally_most (suc m) = go (eqb (get_or S m 0) 0) (tally_most m)
    where
      go : (b : Bool) → tally S m ≤ m → cond b 0 1 + tally S m ≤ suc m
      go true h = omega arith
      go false h = omega arith

  -- fewer than all: one is unplaced
  pub tally_gap : (m : ℕ) → tally S m < m → (i : ℕ) × (i < m) × (get_or S i 0 ≡ 0)
  unfolding tally
  tally_gap zero h = absurd (omega arith)
  tally_gap (suc m) h = go (eqb (get_or S m 0) 0) refl h (tally_gap m)
    where
      go : (b : Bool) → eqb (get_or S m 0) 0 ≡ b → cond b 0 1 + tally S m < suc m →
          (tally S m < m → (i : ℕ) × (i < m) × (get_or S i 0 ≡ 0)) → (i : ℕ) × (i < suc m) × (get_or S i 0 ≡ 0)
      go true q l ih = (m, omega arith, eqb-true _ _ q)
      go false q l ih = let r = ih (omega arith) in (r.0, omega arith, r.2)

  -- all: each is placed
  pub tally_all : (m : ℕ) → m ≤ tally S m → (i : ℕ) → i < m → 0 < get_or S i 0
  unfolding tally
  tally_all zero h i l = absurd (omega arith)
  tally_all (suc m) h i l = go (eqb (get_or S m 0) 0) refl h (tally_most m) (λ k. tally_all m k i)
    where
      go : (b : Bool) → eqb (get_or S m 0) 0 ≡ b → suc m ≤ cond b 0 1 + tally S m → tally S m ≤ m →
          (m ≤ tally S m → i < m → 0 < get_or S i 0) → 0 < get_or S i 0
      go true q k u ih = absurd (omega arith)
      go false q k u ih =
          elim (dec_lt i m) [
            | yes g ↦ ih (omega arith) g
            | no g ↦
                let e : i ≡ m = omega arith in
                let d : get_or S m 0 ≡ 0 → ⊥ = eqb-false _ _ q in
                rw e (let f : 0 < get_or S m 0 = omega arith in f)
          ]

  -- none is placed
  pub tally_none : (m : ℕ) → ((i : ℕ) → i < m → get_or S i 0 ≡ 0) → tally S m ≡ 0
  unfolding tally
  tally_none zero h = refl
  tally_none (suc m) h =
      rw (eq-eqb (get_or S m 0) 0 (h m (omega arith)))
      (let r : 0 + tally S m ≡ 0 = omega (arith, tally_none m (λ i l. h i (omega arith))) in r)

  -- one more is placed
  module _ (i v : ℕ) (here : i < length S) (free : get_or S i 0 ≡ 0) (some : 0 < v) where
    tally_past : (m : ℕ) → m ≤ i → tally (set S i v) m ≡ tally S m
    unfolding tally
    tally_past zero l = refl
    tally_past (suc m) l =
        let d : m ≡ i → ⊥ = λ z. omega arith in
        rw (get_or-set_other S i m v 0 d, tally_past m (omega arith))

    pub tally_set : (m : ℕ) → i < m → tally (set S i v) m ≡ tally S m + 1
    unfolding tally
    tally_set zero l = absurd (omega arith)
    tally_set (suc m) l =
        elim (ℕ_discrete m i) [
          | yes e ↦
              let d : v ≡ 0 → ⊥ = λ z. omega arith in
              rw (e, get_or-set_same S i v 0 here, ne_eqb v 0 d, eq-eqb (get_or S i 0) 0 free)
              (let r : 1 + tally (set S i v) i ≡ 0 + tally S i + 1 = omega (arith, tally_past i (omega arith)) in r)
          | no d ↦
              let one : ℕ = cond (eqb (get_or S m 0) 0) 0 1 in
              rw (get_or-set_other S i m v 0 d)
              (let r : one + tally (set S i v) m ≡ one + tally S m + 1 = omega (arith, tally_set m (omega (arith, d))) in r)
        ]
