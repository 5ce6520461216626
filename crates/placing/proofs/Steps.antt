-- What a step of placing keeps, all of placing keeps; how far it goes, and where it ends.
use Rattle.std.specs.Prelude.{Option, Some, None}
use Prim.Native.Nat.{ℕ, zero, suc, ◌+◌, ◌≤◌, ◌<◌}
use mathlib.Core.Path.{◌≡◌, refl, ◌∙◌}
use mathlib.Core.Bool.{true, false}
use mathlib.Core.List.{List}
use mathlib.Core.Logic.{◌⊎◌, inl, inr, ⊎_elim}
use native.Mathlib.Omega.{arith}
use lib.ListN.{length, length-set, length-replicate}
use Rattle.placing.specs.Placing.{ready, earliest, Placed, put, on_next, placing, unplaced, placed}
use Rattle.placing.proofs.Views.{earliest_is, earliest_first}

module _ (L : List ℕ) (n : ℕ) where
  -- a step: record i is ready, and no record before it is
  abbrev pub KeepsFirst : (Placed → Type 0) → Type 0
  KeepsFirst P =
      (p : Placed) (i : ℕ) → P p → i < n → ready L p.slots i ≡ true →
      ((j : ℕ) → j < i → ready L p.slots j ≡ false) → P (put p i)

  pub placing_keeps_first : (P : Placed → Type 0) → KeepsFirst P → (m : ℕ) (p : Placed) → P p → P (placing m L n p)
  unfolding placing
  placing_keeps_first P keep zero p h = h
  placing_keeps_first P keep (suc m) p h = go (earliest L p.slots n 0) refl (placing_keeps_first P keep m)
    where
      go : (r : Option ℕ) → earliest L p.slots n 0 ≡ r → ((q : Placed) → P q → P (placing m L n q)) →
          P (on_next r p (λ i. placing m L n (put p i)))
      go (Some i) e ih =
          let v = earliest_is L p.slots n 0 i e in
          let f = earliest_first L p.slots n 0 i e in
          ih (put p i) (keep p i h (omega arith) v.2 (λ j l. f j (omega arith) l))
      go None e ih = h

  -- what does not ask which ready record it is
  abbrev pub Keeps : (Placed → Type 0) → Type 0
  Keeps P = (p : Placed) (i : ℕ) → P p → i < n → ready L p.slots i ≡ true → P (put p i)

  pub placing_keeps : (P : Placed → Type 0) → Keeps P → (m : ℕ) (p : Placed) → P p → P (placing m L n p)
  placing_keeps P keep = placing_keeps_first P (λ p i h l r f. keep p i h l r)

  pub placing_length : (m : ℕ) (p : Placed) → length (placing m L n p).slots ≡ length p.slots
  unfolding put
  placing_length m p =
      placing_keeps (λ (q : Placed). length q.slots ≡ length p.slots) (λ q i h l r. simp length-set h) m p refl

  -- it takes so many steps, or fewer and is stuck
  abbrev Ends : ℕ → Placed → Placed → Type 0
  Ends m p r = (r.count ≡ p.count + m) ⊎ ((r.count ≤ p.count + m) × (earliest L r.slots n 0 ≡ None))

  pub placing_ends : (m : ℕ) (p : Placed) → Ends m p (placing m L n p)
  unfolding placing put
  placing_ends zero p = inl (omega arith)
  placing_ends (suc m) p = go (earliest L p.slots n 0) refl (placing_ends m)
    where
      go : (r : Option ℕ) → earliest L p.slots n 0 ≡ r → ((q : Placed) → Ends m q (placing m L n q)) →
          Ends (suc m) p (on_next r p (λ i. placing m L n (put p i)))
      go (Some i) e ih = ⊎_elim (λ c. inl (omega arith)) (λ c. inr (omega arith, c.1)) (ih (put p i))
      go None e ih = inr (omega arith, e)

  pub placing_most : (m : ℕ) (p : Placed) → (placing m L n p).count ≤ p.count + m
  placing_most m p = ⊎_elim (λ c. omega arith) (λ c. c.0) (placing_ends m p)

module _ (L : List ℕ) (n room : ℕ) where
  pub placed_length : length (placed L n room).slots ≡ room
  unfolding placed
  placed_length = placing_length L n n (unplaced room) ∙ length-replicate {A = ℕ} room 0

  pub placed_most : (placed L n room).count ≤ n
  unfolding placed
  placed_most = omega (arith, placing_most L n n (unplaced room))
