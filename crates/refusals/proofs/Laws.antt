-- The laws of a table's answer.
use Prim.Native.Nat.{ℕ, ◌≤◌, ◌<◌}
use mathlib.Core.Path.{◌≡◌, refl, sym, ap, ◌∙◌}
use mathlib.Core.List.{List, [], ◌∷◌, ◌++◌}
use mathlib.Core.Bool.{Bool, true, false}
use native.Mathlib.Omega.{arith}
use Rattle.lists.specs.Among.{Among, here, there}
use Rattle.lists.proofs.Same.{not_both}
use Rattle.refusals.specs.Refusals.{Row, answer, Clear, none, more, First, Numbered, Ascends}
use Rattle.refusals.specs.Laws.{AnswersFirst, AnswersNone, OneFirst, AnswersInTurn, FirstIsLowest}
use Rattle.refusals.proofs.Rows.{row_fails, rest_fail, accept, answer_clear, passed_first}

-- the first row that holds, of a table that answers n and not 0
found_first : (rows : List Row) (n : ℕ) → answer rows ≡ n → (n ≡ 0 → ⊥) → First rows n
unfolding answer
found_first [] n e z = absurd (z (sym e))
found_first (r ∷ rs) n e z = test r.holds refl (found_first rs n)
  where
    test : (b : Bool) → r.holds ≡ b → (answer rs ≡ n → (n ≡ 0 → ⊥) → First rs n) → First (r ∷ rs) n
    test true q rest =
        record { before = []; row = r; after = rs; split = refl; holds = q; number = rw q at e; earlier = none }
    test false q rest =
        let f = rest (rw q at e) z in
        record {
          before = r ∷ f.before;
          row = f.row;
          after = f.after;
          split = ap (λ (l : List Row). r ∷ l) f.split;
          holds = f.holds;
          number = f.number;
          earlier = more q f.earlier;
        }

-- the answer at a row that holds after rows that do not
at_row : (before : List Row) (r : Row) (after : List Row) → Clear before → r.holds ≡ true →
    answer (before ++ (r ∷ after)) ≡ r.number
unfolding answer
at_row [] r after none q = rw q
at_row (b ∷ bs) r after (more p h) q = rw p (at_row bs r after h q)

first_answers : {rows : List Row} {n : ℕ} → First rows n → answer rows ≡ n
first_answers f = rw f.split (at_row f.before f.row f.after f.earlier f.holds) ∙ f.number

numbered_row : (before : List Row) (r : Row) (after : List Row) → Numbered (before ++ (r ∷ after)) → 0 < r.number
numbered_row [] r after d = d.0
numbered_row (b ∷ bs) r after d = numbered_row bs r after d.1

pub answers_first : AnswersFirst
answers_first rows n d = (
  λ f. (
    first_answers f,
    λ z.
        let k : 0 < f.row.number = numbered_row f.before f.row f.after (rw f.split at d) in
        omega (arith, f.number),
  ),
  λ h. found_first rows n h.0 h.1,
)

pub answers_none : AnswersNone
answers_none rows d = (λ h. sym (accept rows h), λ e. answer_clear rows d (sym e) refl)

-- two first rows of one list stand at one place
same_split : (before before' : List Row) {r r' : Row} {after after' : List Row} →
    before ++ (r ∷ after) ≡ before' ++ (r' ∷ after') → Clear before → Clear before' → r.holds ≡ true → r'.holds ≡ true →
    (before ≡ before') × (r ≡ r') × (after ≡ after')
same_split [] [] e h k p q = (refl, (cc), (cc))
same_split [] (b ∷ bs) {r} {r'} {after} {after'} e h k p q =
    let f : r ≡ b = cc in not_both (rw f at p) (row_fails k)
same_split (b ∷ bs) [] {r} {r'} {after} {after'} e h k p q =
    let f : b ≡ r' = cc in not_both q (rw f at (row_fails h))
same_split (b ∷ bs) (b' ∷ bs') {r} {r'} {after} {after'} e h k p q =
    let tails : bs ++ (r ∷ after) ≡ bs' ++ (r' ∷ after') = cc in
    let heads : b ≡ b' = cc in
    let (i, j, l) = same_split bs bs' tails (rest_fail h) (rest_fail k) p q in
    (λ t. heads t ∷ i t, j, l)

pub one_first : OneFirst
one_first rows m n a b =
    let (i, j, l) =
    same_split a.before b.before (sym a.split ∙ b.split) a.earlier b.earlier a.holds b.holds in
    (sym (first_answers a) ∙ first_answers b, i, j, l)

append_assoc_row : (before : List Row) (r : Row) (after later : List Row) →
    (before ++ (r ∷ after)) ++ later ≡ before ++ (r ∷ (after ++ later))
append_assoc_row [] r after later = refl
append_assoc_row (b ∷ bs) r after later = ap (λ (l : List Row). b ∷ l) (append_assoc_row bs r after later)

pub answers_in_turn : AnswersInTurn
answers_in_turn rows later = (
  λ n f. record {
    before = f.before;
    row = f.row;
    after = f.after ++ later;
    split = ap (λ (l : List Row). l ++ later) f.split ∙ append_assoc_row f.before f.row f.after later;
    holds = f.holds;
    number = f.number;
    earlier = f.earlier;
  },
  λ h. passed_first later h,
)

-- every number from a row of an ascending table on is above what it ascends from
pub above_all : (rows : List Row) (m : ℕ) → Ascends m rows → (r : Row) → Among r rows → m < r.number
above_all (r ∷ rs) m a r' here = a.0
above_all (s ∷ rs) m a r (there i) = omega (arith, a.0, above_all rs s.number a.1 r i)
above_all [] m a r' x' = elim x' [ ]

lowest_from : (rows : List Row) (m : ℕ) → Ascends m rows → (r : Row) → Among r rows → r.holds ≡ true → answer rows ≤ r.number
unfolding answer
lowest_from (r ∷ rs) m a r' here q = rw q (omega arith)
lowest_from (s ∷ rs) m a r (there i) q = test s.holds refl (lowest_from rs s.number a.1 r i q)
  where
    test : (b : Bool) → s.holds ≡ b → answer rs ≤ r.number → answer (s ∷ rs) ≤ r.number
    test true p rest = let k = above_all rs s.number a.1 r i in rw p (omega arith)
    test false p rest = rw p rest
lowest_from [] m a r' x3 q = elim x3 [ ]

pub first_is_lowest : FirstIsLowest
first_is_lowest rows n a f r i q = rw (← first_answers f) (lowest_from rows 0 a r i q)
