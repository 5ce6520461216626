-- Laws of the definitions of specs/Check.antt that the proofs of the code cite.
use Prim.Native.Nat.{ℕ, zero, suc, ◌+◌, ◌≤◌, ◌<◌}
use mathlib.Core.Path.{◌≡◌, refl, ◌∙◌}
use mathlib.Core.List.{List, [], ◌∷◌}
use mathlib.Core.Bool.{true, false}
use native.Mathlib.Omega.{arith}
use native.Mathlib.Numerals.{add-one}
use borrow.Author.Tests.{ltb-true, lt-ltb, le-ltb}
use lib.Dec.{ltb}
use lib.ListN.{length, get_or, drop}
use Rattle.std.specs.Prelude.{Some, None}
use Rattle.std.specs.List.{prefix_len}
use Rattle.std.proofs.lemmas.Bool.Decides.{nat_tests}
use Rattle.std.proofs.lemmas.List.{at_drop_more, at_drop_all}
use Rattle.std.proofs.lemmas.List.Sums.{prefix_len_passes, prefix_len-drop_yes, prefix_len-drop_no, prefix_len-drop_all, prefix_len-le-length}
use Rattle.utf8.specs.Rfc3629.{Octet}
use Rattle.utf8.specs.Check.{Range, OctetRow, ◌to◌, ◌then◌, utf8_char, bad_at}
use Rattle.utf8.specs.Check.{in_range, octet_start, octet_step, at_end, check_from, check}
use Rattle.utf8.specs.State.{ascii_length}

-- an octet and a range
module _ (lo hi b : ℕ) where
  pub within_in : Octet lo hi b → in_range (lo to hi) b ≡ true
  unfolding in_range
  within_in o = grind (arith, nat_tests)

  within_high : hi < b → in_range (lo to hi) b ≡ false
  unfolding in_range
  within_high h = grind (arith, nat_tests)

  pub within_true : in_range (lo to hi) b ≡ true → Octet lo hi b
  unfolding in_range
  within_true h = (grind (arith, nat_tests), grind (arith, nat_tests))

-- a row has the octet b as a first one, and wants the ranges rs after it
pub data RowOf : List OctetRow → ℕ → List Range → Type 0 where
  here : {lo hi b : ℕ} {rs : List Range} {rows : List OctetRow} → Octet lo hi b → RowOf ((lo to hi then rs) ∷ rows) b rs
  there : {row : OctetRow} {rows : List OctetRow} {b : ℕ} {rs : List Range} → RowOf rows b rs → RowOf (row ∷ rows) b rs

-- after the first k rows
pub after : (k : ℕ) {rows : List OctetRow} {b : ℕ} {rs : List Range} → RowOf (drop k rows) b rs → RowOf rows b rs
after zero r = r
after (suc k) {rows = []} r = r
after (suc k) {rows = row ∷ rows} r = there (after k r)

-- the rows' first octets rise, from n on
abbrev Rising : ℕ → List OctetRow → Type 0
Rising n [] = Unit {0}
Rising n ((lo to hi then rs) ∷ rows) = (n ≤ lo) × (lo ≤ hi) × Rising (suc hi) rows

row_from : {n b : ℕ} {rows : List OctetRow} {rs : List Range} → Rising n rows → RowOf rows b rs → n ≤ b
row_from r (here o) = omega arith
row_from r (there {row = lo to hi then ws} k) = let h : suc hi ≤ _ = row_from r.2 k in omega arith

-- where the rows rise, the row that has an octet is the first that has it
start_row : (n : ℕ) {b : ℕ} {rows : List OctetRow} {rs : List Range} → Rising n rows → RowOf rows b rs
    → octet_start rows b ≡ Some rs
unfolding octet_start
start_row n r (here {lo = lo} {hi = hi} {b = b} o) = rw (within_in lo hi b o)
start_row n r (there {row = lo to hi then ws} {b = b} k) =
    rw (within_high lo hi b (row_from r.2 k)) (start_row (suc hi) r.2 k)

-- the table's rows rise, so that an octet starts the row that has it
rising : Rising 0 utf8_char
unfolding utf8_char
rising = omega arith

pub start_char : {b : ℕ} {rs : List Range} → RowOf utf8_char b rs → octet_start utf8_char b ≡ Some rs
start_char = start_row 0 rising

-- the text from the place i on: one octet on, at an octet that cannot stand there, and at its end
module _ (rs : List Range) (s : List ℕ) (i : ℕ) where
  pub from_go : i < length s → {qs : List Range} → octet_step rs (get_or s i 0) ≡ Some qs
      → check_from rs i (drop i s) ≡ check_from qs (i + 1) (drop (i + 1) s)
  unfolding check_from
  from_go h e = rw (at_drop_more (check_from rs i) s i 0 h, e)

  pub from_stop : i < length s → octet_step rs (get_or s i 0) ≡ None → check_from rs i (drop i s) ≡ bad_at i
  unfolding check_from
  from_stop h e = rw (at_drop_more (check_from rs i) s i 0 h, e)

  pub from_end : length s ≤ i → check_from rs i (drop i s) ≡ at_end rs i
  unfolding check_from
  from_end h = at_drop_all (check_from rs i) s i h

-- the check goes on after characters of one octet, as many as there are at the start
pub from_ascii : (s : List ℕ) (k : ℕ) → k ≤ ascii_length s → check s ≡ check_from [] k (drop k s)
unfolding check octet_step utf8_char
from_ascii s zero h = refl
from_ascii s (suc k) h =
    let l : get_or s k 0 < 0x80 = ltb-true _ _ (prefix_len_passes (λ b. ltb b 0x80) s k 0 (omega arith)) in
    let inside : k < length s = omega (arith, prefix_len-le-length (λ b. ltb b 0x80) s) in
    rw (← add-one) (from_ascii s k (omega arith) ∙ from_go [] s k inside (start_char (here (omega arith))))

-- the octets of one-octet characters that are left from i on: one more, or no more
module _ (s : List ℕ) (i : ℕ) where
  pub ascii_on : i < length s → get_or s i 0 < 0x80 →
      prefix_len (λ b. ltb b 0x80) (drop i s) ≡ 1 + prefix_len (λ b. ltb b 0x80) (drop (i + 1) s)
  ascii_on l h = prefix_len-drop_yes (λ b. ltb b 0x80) s i 0 l (lt-ltb _ _ h)

  pub ascii_ends : i < length s → 0x80 ≤ get_or s i 0 → prefix_len (λ b. ltb b 0x80) (drop i s) ≡ 0
  ascii_ends l h = prefix_len-drop_no (λ b. ltb b 0x80) s i 0 l (le-ltb _ _ h)

  pub ascii_all : length s ≤ i → prefix_len (λ b. ltb b 0x80) (drop i s) ≡ 0
  ascii_all l = prefix_len-drop_all (λ b. ltb b 0x80) s i l

pub ruleset ascii_steps = (ascii_on, ascii_ends, ascii_all)

-- what the loop of the check starts from, each of its steps, and its end
pub ruleset check_steps = (from_ascii, prefix_len-le-length, from_go, from_stop, from_end)
