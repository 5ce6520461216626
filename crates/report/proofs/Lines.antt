-- How long the lines are, and a line more.
use Prim.Native.Nat.{ℕ, zero, suc, ◌+◌, ◌*◌, ◌≤◌, ◌<◌}
use mathlib.Core.Path.{◌≡◌, sym, ap, ◌∙◌}
use mathlib.Core.List.{List, [], ◌∷◌, ◌++◌, append-nil, append_assoc}
use native.Mathlib.Numerals.{add-one}
use native.Mathlib.Omega.{arith}
use lib.ListN.{length, take, get_or, length-append}
use Rattle.sizes.specs.Sizes.{name_size}
use Rattle.text.specs.Text.{decimal}
use Rattle.report.specs.Report.{line, lines, refused_line, ok_line}
use Rattle.text.proofs.Decimal.{digits_most}

pub line_length : (slot : ℕ) (name : List ℕ) →
    length (line slot name) ≡ length (decimal slot) + (length (decimal (length name)) + (length name + 3))
unfolding line
line_length slot name = simp length-append (omega arith)

pub refused_length : (n : ℕ) → length (refused_line n) ≡ length (decimal n) + 9
unfolding refused_line
refused_length n = simp length-append (omega arith)

pub ok_length : (nodes exports : ℕ) → length (ok_line nodes exports) ≡ length (decimal nodes) + (length (decimal exports) + 19)
unfolding ok_line
ok_length nodes exports = simp length-append (omega arith)

-- ---- what a buffer must hold

pub refused_fits : (n room : ℕ) → 19 ≤ room → length (refused_line n) ≤ room
refused_fits n room h = omega (arith, refused_length n, digits_most 10 n)

pub ok_most : (nodes exports : ℕ) → length (ok_line nodes exports) ≤ 39
ok_most nodes exports = omega (arith, ok_length nodes exports, digits_most 10 nodes, digits_most 10 exports)

pub line_most : (slot : ℕ) (name : List ℕ) → length name ≤ name_size.most → length (line slot name) ≤ 87
line_most slot name h = omega (arith, line_length slot name, digits_most 10 slot, digits_most 10 (length name))

pub lines_most : (slots : List ℕ) (names : List (List ℕ)) → ((i : ℕ) → length (get_or names i []) ≤ name_size.most) →
    length (lines slots names) ≤ 87 * length slots
unfolding lines
lines_most [] names h = omega arith
lines_most (s ∷ ss) [] h = omega arith
lines_most (s ∷ ss) (n ∷ ns) h =
    omega
    (arith, length-append (line s n) (lines ss ns), line_most s n (h 0), lines_most ss ns (λ i. h (suc i)))

-- ---- lines one after the other

lines_suc : (i : ℕ) (slots : List ℕ) (names : List (List ℕ)) → i < length slots → i < length names →
    lines (take (suc i) slots) names ≡ lines (take i slots) names ++ line (get_or slots i 0) (get_or names i [])
unfolding lines
lines_suc i [] names a b = absurd (omega arith)
lines_suc i (s ∷ ss) [] a b = absurd (omega arith)
lines_suc zero (s ∷ ss) (n ∷ ns) a b = append-nil (line s n)
lines_suc (suc i) (s ∷ ss) (n ∷ ns) a b =
    ap (λ (l : List ℕ). line s n ++ l) (lines_suc i ss ns (omega arith) (omega arith)) ∙
    sym (append_assoc (line s n) (lines (take i ss) ns) (line (get_or ss i 0) (get_or ns i [])))

pub lines_more : (i : ℕ) (slots : List ℕ) (names : List (List ℕ)) → i < length slots → i < length names →
    lines (take (i + 1) slots) names ≡ lines (take i slots) names ++ line (get_or slots i 0) (get_or names i [])
lines_more i slots names a b = rw add-one (lines_suc i slots names a b)

-- the first lines are no longer than all
pub lines_within : (i k : ℕ) (slots : List ℕ) (names : List (List ℕ)) → i ≤ k →
    length (lines (take i slots) names) ≤ length (lines (take k slots) names)
unfolding lines
lines_within zero k slots names h = omega arith
lines_within (suc i) zero slots names h = absurd (omega arith)
lines_within (suc i) (suc k) [] names h = omega arith
lines_within (suc i) (suc k) (s ∷ ss) [] h = omega arith
lines_within (suc i) (suc k) (s ∷ ss) (n ∷ ns) h =
    omega (
      arith,
      length-append (line s n) (lines (take i ss) ns),
      length-append (line s n) (lines (take k ss) ns),
      lines_within i k ss ns (omega arith),
    )
