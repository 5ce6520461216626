-- What comes of an answer: a refusal by its number, or what passes.
use Prim.Native.Nat.{ℕ}
use mathlib.Core.Path.{◌≡◌, refl, sym, ap}
use mathlib.Core.List.{List, [], ◌∷◌, ◌++◌}
use mathlib.Core.Bool.{Bool, true, false, cond}
use borrow.Author.Tests.{ne_eqb, eqb-true, eqb-false}
use lib.Dec.{eqb}
use Rattle.refusals.specs.Refusals.{Row, ◌when◌, answer, unless_refused, Clear, Numbered}
use Rattle.refusals.proofs.Rows.{accept, answer_clear}

module _ {A : Type 0} (refused : ℕ → A) (passed : A) where
  -- what is not 0 refuses; k stands for the answer
  pub is_refused : (rows : List Row) (k : ℕ) → k ≡ answer rows → (k ≡ 0 → ⊥) → refused k ≡ unless_refused (answer rows) refused passed
  is_refused rows k e n = rw (← e, ne_eqb k 0 n)

  -- and where no row holds, it passes
  pub is_passed : (rows : List Row) → Clear rows → passed ≡ unless_refused (answer rows) refused passed
  is_passed rows h = rw (← accept rows h)

  module _ (P : A → Type 0) where
    -- what holds of every refusal and of what passes
    pub by_answer : (rows : List Row) → Numbered rows → ((n : ℕ) → answer rows ≡ n → (n ≡ 0 → ⊥) → P (refused n)) →
        (Clear rows → P passed) → P (unless_refused (answer rows) refused passed)
    by_answer rows d h k = go (eqb (answer rows) 0) refl
      where
        go : (b : Bool) → eqb (answer rows) 0 ≡ b → P (unless_refused (answer rows) refused passed)
        go true e = let z = eqb-true (answer rows) 0 e in rw e (k (answer_clear rows d (sym z) refl))
        go false e = rw e (h (answer rows) refl (eqb-false (answer rows) 0 e))

    -- row by row: of a refusal by the first, and of what comes of the others where it does not hold
    pub by_row : (n : ℕ) (b : Bool) (rows : List Row) → (n ≡ 0 → ⊥) → (b ≡ true → P (refused n)) →
        (b ≡ false → P (unless_refused (answer rows) refused passed)) →
        P (unless_refused (answer ((n when b) ∷ rows)) refused passed)
    unfolding answer
    by_row n true rows z h k = rw (ne_eqb n 0 z) (h refl)
    by_row n false rows z h k = k refl

-- tables that begin alike, and whose later rows answer alike
pub answers_joined : (rows later later' : List Row) → answer later ≡ answer later' →
    answer (rows ++ later) ≡ answer (rows ++ later')
unfolding answer
answers_joined [] later later' e = e
answers_joined (r ∷ rs) later later' e = ap (λ (n : ℕ). cond r.holds r.number n) (answers_joined rs later later' e)

-- what comes of an answer goes through a function
pub comes_through : {A B : Type 0} (g : A → B) (n : ℕ) (refused : ℕ → A) (passed : A) (refused' : ℕ → B) (passed' : B) →
    ((m : ℕ) → refused' m ≡ g (refused m)) → (n ≡ 0 → passed' ≡ g passed) →
    unless_refused n refused' passed' ≡ g (unless_refused n refused passed)
comes_through g n refused passed refused' passed' each h = go (eqb n 0) refl
  where
    go : (b : Bool) → eqb n 0 ≡ b → unless_refused n refused' passed' ≡ g (unless_refused n refused passed)
    go true e = rw e (h (eqb-true n 0 e))
    go false e = rw e (each n)
