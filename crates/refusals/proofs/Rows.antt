-- How a function that makes one test for each row proves its answer: a row is found by its number.
use Prim.Native.Nat.{ℕ}
use mathlib.Core.Path.{◌≡◌, refl, sym, ◌∙◌}
use mathlib.Core.List.{List, [], ◌∷◌, ◌++◌}
use mathlib.Core.Bool.{Bool, true, false, not}
use native.Mathlib.Omega.{arith}
use borrow.Author.Tests.{eqb-true, eq-eqb, ne_eqb, lt-ltb, le-ltb, not-true, not-false}
use lib.Dec.{eqb}
use Rattle.lists.proofs.Same.{not_both}
use Rattle.refusals.specs.Refusals.{Row, answer, unless_refused, Clear, none, more, rows_before, row_holds, Numbered}

-- the parts of what says that no row holds
pub row_fails : {r : Row} {rs : List Row} → Clear (r ∷ rs) → r.holds ≡ false
row_fails (more q h) = q

pub rest_fail : {r : Row} {rs : List Row} → Clear (r ∷ rs) → Clear rs
rest_fail (more q h) = h

-- the answer where the first row holds, and where it does not
module _ (r : Row) (rs : List Row) where
  pub row_holds_lem : r.holds ≡ true → answer (r ∷ rs) ≡ r.number
  unfolding answer
  row_holds_lem q = rw q

  pub row_passes : r.holds ≡ false → answer (r ∷ rs) ≡ answer rs
  unfolding answer
  row_passes q = rw q

-- the answer of a test, and what came of it: r stands for what the call answered
pub told : {r a b : Bool} → r ≡ a → r ≡ b → a ≡ b
told p q = sym p ∙ q

-- the same of a test that is turned round
pub told_not : {r a : Bool} → r ≡ a → not r ≡ true → a ≡ false
told_not {r} p q = sym p ∙ not-true r q

pub told_not_false : {r a : Bool} → r ≡ a → not r ≡ false → a ≡ true
told_not_false {r} p q = sym p ∙ not-false r q

-- the same of a row that is turned round like its test
pub told_turned : {r a b : Bool} → r ≡ a → not r ≡ b → not a ≡ b
told_turned p q = rw (← p) q

-- what `search` builds from the tests of a function that were made so far: no row before this one holds, and this one does
pub ruleset passing = (none, more, told, told_not, told_not_false)

-- the same where the tests compare numbers in place
pub ruleset comparing = (none, more, lt-ltb, le-ltb)

-- a refusal by the row with the number n, where no row before it holds
pub refuse : (n : ℕ) (rows : List Row) → Clear (rows_before n rows) → row_holds n rows ≡ true → n ≡ answer rows
unfolding rows_before row_holds answer
refuse n [] h q = not_both q refl
refuse n (r ∷ rs) h q = test (eqb r.number n) refl (refuse n rs)
  where
    test : (b : Bool) → eqb r.number n ≡ b → (Clear (rows_before n rs) → row_holds n rs ≡ true → n ≡ answer rs) →
        n ≡ answer (r ∷ rs)
    test true e rest = rw (rw e at q) (sym (eqb-true _ _ e))
    test false e rest =
        let k : Clear (r ∷ rows_before n rs) = rw e at h in
        rw (row_fails k) (rest (rest_fail k) (rw e at q))

-- no refusal
pub accept : (rows : List Row) → Clear rows → 0 ≡ answer rows
unfolding answer
accept [] none = refl
accept (r ∷ rs) (more q h) = rw q (accept rs h)

-- ---- what an answer of 0 gives; k stands for the answer

pub answer_clear : (rows : List Row) {k : ℕ} → Numbered rows → k ≡ answer rows → k ≡ 0 → Clear rows
unfolding answer
answer_clear [] d e z = none
answer_clear (r ∷ rs) {k} d e z = test r.holds refl (answer_clear rs d.1)
  where
    test : (b : Bool) → r.holds ≡ b → (k ≡ answer rs → k ≡ 0 → Clear rs) → Clear (r ∷ rs)
    test true q rest = let f : k ≡ r.number = rw q at e in absurd (omega (arith, d.0))
    test false q rest = more q (rest (rw q at e) z)

-- the row with a number does not hold
pub clear_row : (n : ℕ) {rows : List Row} → Clear rows → row_holds n rows ≡ false
unfolding row_holds
clear_row n none = refl
clear_row n (more {r = r} {rs = rs} q h) = test (eqb r.number n) refl (clear_row n h)
  where
    test : (b : Bool) → eqb r.number n ≡ b → row_holds n rs ≡ false → row_holds n (r ∷ rs) ≡ false
    test true e rest = rw e q
    test false e rest = rw e rest

-- ---- two tables, one after the other

pub clear_joined : {rows later : List Row} → Clear rows → Clear later → Clear (rows ++ later)
clear_joined none k = k
clear_joined (more q h) k = more q (clear_joined h k)

pub clear_before : (rows later : List Row) → Clear (rows ++ later) → Clear rows
clear_before [] later h = none
clear_before (r ∷ rs) later h = more (row_fails h) (clear_before rs later (rest_fail h))

pub clear_after : (rows later : List Row) → Clear (rows ++ later) → Clear later
clear_after [] later h = h
clear_after (r ∷ rs) later h = clear_after rs later (rest_fail h)

-- a refusal by the first stands; k stands for its answer
pub refused_first : (rows later : List Row) {k : ℕ} → k ≡ answer rows → (k ≡ 0 → ⊥) → k ≡ answer (rows ++ later)
unfolding answer
refused_first [] later e n = absurd (n e)
refused_first (r ∷ rs) later {k} e n = test r.holds refl (refused_first rs later)
  where
    test : (b : Bool) → r.holds ≡ b → (k ≡ answer rs → (k ≡ 0 → ⊥) → k ≡ answer (rs ++ later)) →
        k ≡ answer ((r ∷ rs) ++ later)
    test true q rest = rw q (rw q at e)
    test false q rest = rw q (rest (rw q at e) n)

-- where no row of the first holds, the second answers
pub passed_first : {rows : List Row} (later : List Row) → Clear rows → answer (rows ++ later) ≡ answer later
unfolding answer
passed_first later none = refl
passed_first later (more q h) = rw q (passed_first later h)

-- ---- what comes of an answer; k stands for it
module _ {A : Type 0} (refused : ℕ → A) (passed : A) {n k : ℕ} (e : k ≡ n) where
  pub by_refusal : (k ≡ 0 → ⊥) → refused k ≡ unless_refused n refused passed
  by_refusal z = rw (← e, ne_eqb k 0 z)

  pub by_pass : k ≡ 0 → passed ≡ unless_refused n refused passed
  by_pass z = rw (← e, eq-eqb k 0 z)
