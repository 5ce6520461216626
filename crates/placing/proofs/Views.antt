-- What the tests of placing tell: of a link, of a record and its children, and of the search for the earliest.
use Rattle.std.specs.Prelude.{Some, None}
use Prim.Native.Nat.{ℕ, zero, suc, ◌+◌, ◌-◌, ◌*◌, ◌≤◌, ◌<◌}
use mathlib.Core.Path.{◌≡◌, refl, subst}
use mathlib.Core.Bool.{Bool, true, false, not, cond, true≢false, false≢true}
use mathlib.Core.List.{List}
use mathlib.Core.Logic.{◌⊎◌, inl, inr, ⊎_elim}
use native.Mathlib.Omega.{arith}
use native.Mathlib.Decide.{ℕ_discrete}
use lib.ListN.{get_or}
use lib.Dec.{eqb}
use borrow.Author.Tests.{eq-eqb, ne_eqb, eqb-true, eqb-false, not-true, not-false}
use Rattle.placing.specs.Placing.{settled, ready, earliest}
use Rattle.placing.specs.Circles.{ChildLink, first, second}

-- a link
module _ (S : List ℕ) (w : ℕ) where
  pub settled_view : (j : ℕ) → settled S w ≡ true → w ≡ j + 1 → 0 < get_or S j 0
  unfolding settled
  settled_view j h e =
      let n : w ≡ 0 → ⊥ = λ z. omega arith in
      let k : not (eqb (get_or S (w - 1) 0) 0) ≡ true = rw (ne_eqb w 0 n) at h in
      let m : w - 1 ≡ j = omega arith in
      let d = subst (λ (x : ℕ). get_or S x 0 ≡ 0 → ⊥) m (eqb-false (get_or S (w - 1) 0) 0 (not-true _ k)) in
      omega arith

  pub settled_not : settled S w ≡ false → (0 < w) × (get_or S (w - 1) 0 ≡ 0)
  unfolding settled
  settled_not = go (eqb w 0) refl
    where
      go : (b : Bool) → eqb w 0 ≡ b → cond b true (not (eqb (get_or S (w - 1) 0) 0)) ≡ false →
          (0 < w) × (get_or S (w - 1) 0 ≡ 0)
      go true q h = absurd (true≢false h)
      go false q h = (omega (arith, eqb-false w 0 q), eqb-true _ _ (not-false _ h))

-- a record
module _ (L S : List ℕ) (i : ℕ) where
  abbrev one : Bool
  one = settled S (get_or L (2 * i) 0)

  abbrev two : Bool
  two = settled S (get_or L (2 * i + 1) 0)

  pub ready_view : ready L S i ≡ true → (get_or S i 0 ≡ 0) × (one ≡ true) × (two ≡ true)
  unfolding ready
  ready_view = go (eqb (get_or S i 0) 0) refl one refl
    where
      go : (a : Bool) → eqb (get_or S i 0) 0 ≡ a → (b : Bool) → one ≡ b → cond a (cond b two false) false ≡ true →
          (get_or S i 0 ≡ 0) × (one ≡ true) × (two ≡ true)
      go true q true r h = (eqb-true _ _ q, r, h)
      go true q false r h = absurd (false≢true h)
      go false q b r h = absurd (false≢true h)

  pub ready_not : ready L S i ≡ false → get_or S i 0 ≡ 0 → (one ≡ false) ⊎ (two ≡ false)
  unfolding ready
  ready_not h e = go one refl (rw (eq-eqb (get_or S i 0) 0 e) at h)
    where
      go : (b : Bool) → one ≡ b → cond b two false ≡ false → (one ≡ false) ⊎ (two ≡ false)
      go true q k = inr k
      go false q k = inl q

  -- an unplaced record is ready once its children are placed
  pub ready_if : get_or S i 0 ≡ 0 → ((j : ℕ) → ChildLink L i j → 0 < get_or S j 0) → ready L S i ≡ false → ⊥
  ready_if e placed h =
      ⊎_elim
      (λ f.
      let o = settled_not S (get_or L (2 * i) 0) f in
      omega (arith, o.0, o.1, placed (get_or L (2 * i) 0 - 1) (first (omega (arith, o.0)))))
      (λ f.
      let o = settled_not S (get_or L (2 * i + 1) 0) f in
      omega (arith, o.0, o.1, placed (get_or L (2 * i + 1) 0 - 1) (second (omega (arith, o.0)))))
      (ready_not h e)

  -- a child of a ready record is placed
  pub child_ok : (j : ℕ) → ready L S i ≡ true → ChildLink L i j → 0 < get_or S j 0
  child_ok j r (first e) = settled_view S _ j (ready_view r).1 e
  child_ok j r (second e) = settled_view S _ j (ready_view r).2 e

-- the earliest is ready, and where there is none, none is
module _ (L S : List ℕ) where
  pub earliest_is : (left i k : ℕ) → earliest L S left i ≡ Some k → (i ≤ k) × (k < i + left) × (ready L S k ≡ true)
  unfolding earliest
  earliest_is zero i k e = let z : ◌≡◌ {A = ℕ} 0 1 = cc in absurd (omega arith)
  earliest_is (suc left) i k e = go (ready L S i) refl e (earliest_is left (i + 1) k)
    where
      go : (b : Bool) → ready L S i ≡ b → cond b (Some i) (earliest L S left (i + 1)) ≡ Some k →
          (earliest L S left (i + 1) ≡ Some k → (i + 1 ≤ k) × (k < i + 1 + left) × (ready L S k ≡ true)) →
          (i ≤ k) × (k < i + suc left) × (ready L S k ≡ true)
      go true q f ih = let g : i ≡ k = cc in (omega arith, omega arith, rw (← g) q)
      go false q f ih = let r = ih f in (omega arith, omega arith, r.2)

  pub earliest_none : (left i : ℕ) → earliest L S left i ≡ None → (k : ℕ) → i ≤ k → k < i + left → ready L S k ≡ false
  unfolding earliest
  earliest_none zero i e k a b = absurd (omega arith)
  earliest_none (suc left) i e k a b = go (ready L S i) refl e (λ f. earliest_none left (i + 1) f k)
    where
      go : (t : Bool) → ready L S i ≡ t → cond t (Some i) (earliest L S left (i + 1)) ≡ None →
          (earliest L S left (i + 1) ≡ None → i + 1 ≤ k → k < i + 1 + left → ready L S k ≡ false) → ready L S k ≡ false
      go true q f ih = let z : ◌≡◌ {A = ℕ} 0 1 = cc in absurd (omega arith)
      go false q f ih =
          elim (ℕ_discrete i k) [
            | yes g ↦ rw (← g) q
            | no g ↦ ih f (omega arith) (omega arith)
          ]

  -- no record before the earliest is ready
  pub earliest_first : (left i k : ℕ) → earliest L S left i ≡ Some k → (j : ℕ) → i ≤ j → j < k → ready L S j ≡ false
  unfolding earliest
  earliest_first zero i k e j a b = let z : ◌≡◌ {A = ℕ} 0 1 = cc in absurd (omega arith)
  earliest_first (suc left) i k e j a b = go (ready L S i) refl e (λ f. earliest_first left (i + 1) k f j)
    where
      go : (t : Bool) → ready L S i ≡ t → cond t (Some i) (earliest L S left (i + 1)) ≡ Some k →
          (earliest L S left (i + 1) ≡ Some k → i + 1 ≤ j → j < k → ready L S j ≡ false) → ready L S j ≡ false
      go true q f ih = let g : i ≡ k = cc in absurd (omega arith)
      go false q f ih =
          elim (ℕ_discrete i j) [
            | yes g ↦ rw (← g) q
            | no g ↦ ih f (omega arith) b
          ]
