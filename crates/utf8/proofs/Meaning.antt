-- The check's answers mean what specs/Meaning.antt says.
use Prim.Native.Nat.{ℕ, suc, ◌+◌, ◌≤◌, ◌<◌}
use mathlib.Core.Path.{◌≡◌, refl, ap, ◌∙◌}
use mathlib.Core.List.{List, [], ◌∷◌, ◌++◌, append_assoc}
use native.Mathlib.Omega.{arith}
use native.Mathlib.Nat.{le_refl}
use native.Mathlib.Numerals.{add-one}
use lib.ListN.{length, take, drop, take-append-drop}
use lib.Seq.{take-take}
use Rattle.std.specs.Prelude.{Option, Some, None, Ok, Err}
use Rattle.utf8.specs.declared.BadAt.{BadAt}
use Rattle.utf8.specs.Rfc3629.{Utf8Octets, none}
use Rattle.utf8.specs.Check.{Range, OctetRow, ◌to◌, ◌then◌, utf8_char, Validity, valid, bad_at}
use Rattle.utf8.specs.Check.{octet_step, at_end, check_from, check, onward}
use Rattle.utf8.specs.Meaning.{Continues, FirstBad, ValidExactly, BadExactly}
use Rattle.utf8.proofs.Laws.{RowOf, here, there}
use Rattle.utf8.proofs.Grammar.{Rest, done, next, Taken, begins, goes, taken, takes, rest_back, rest_on}

text : {s : List ℕ} → Rest [] s → Utf8Octets s
text (done u) = u

-- valid, where the ranges rs are wanted
valid_rest : (rs : List Range) (at : ℕ) (s : List ℕ) → check_from rs at s ≡ valid → Rest rs s
unfolding check_from at_end
valid_rest [] at [] e = done none
valid_rest (r ∷ rs) at [] e = cc
valid_rest rs at (b ∷ s) e = go (octet_step rs b) refl (λ qs. valid_rest qs (at + 1) s) e
  where
    go : (a : Option (List Range)) → octet_step rs b ≡ a → ((qs : List Range) → check_from qs (at + 1) s ≡ valid → Rest qs s)
        → onward a (λ qs. check_from qs (at + 1) s) (bad_at at) ≡ valid → Rest rs (b ∷ s)
    go (Some qs) h later f = rest_back (taken h) (later qs f)
    go None h later f = cc

rest_valid : (rs : List Range) (at : ℕ) (s : List ℕ) → Rest rs s → check_from rs at s ≡ valid
unfolding check_from at_end
rest_valid rs at [] (done u) = refl
rest_valid rs at (b ∷ s) k = let f = rest_on k in rw (takes f.1) (rest_valid f.0 (at + 1) s f.2)

pub valid_exactly : ValidExactly
unfolding check
valid_exactly s = (λ e. text (valid_rest [] 0 s e), λ u. rest_valid [] 0 s (done u))

-- every range has an octet, so that whatever is wanted can come
abbrev Nonempty : List Range → Type 0
Nonempty [] = Unit {0}
Nonempty ((lo to hi) ∷ rs) = (lo ≤ hi) × Nonempty rs

abbrev AllNonempty : List OctetRow → Type 0
AllNonempty [] = Unit {0}
AllNonempty ((r then rs) ∷ rows) = Nonempty rs × AllNonempty rows

char_nonempty : AllNonempty utf8_char
unfolding utf8_char
char_nonempty = omega arith

row_nonempty : (rows : List OctetRow) {b : ℕ} {rs : List Range} → AllNonempty rows → RowOf rows b rs → Nonempty rs
row_nonempty rows h (here o) = h.0
row_nonempty rows h (there {row = r then ws} {rows = later} k) = row_nonempty later h.1 k

step_nonempty : {rs qs : List Range} {b : ℕ} → Nonempty rs → Taken rs b qs → Nonempty qs
step_nonempty h (begins r) = row_nonempty utf8_char char_nonempty r
step_nonempty h (goes o) = h.1

-- some octets after these meet the ranges rs and make valid text of the rest
abbrev Carries : List Range → List ℕ → Type 0
Carries rs s = (more : List ℕ) × Rest rs (s ++ more)

completed : (rs : List Range) → Nonempty rs → Carries rs []
completed [] h = ([], done none)
completed ((lo to hi) ∷ rs) h = let m = completed rs h.1 in (lo ∷ m.0, next (le_refl lo, h.0) m.1)

-- k is the place of the first octet that cannot go on, where the ranges rs are wanted
record Stops (rs : List Range) (s : List ℕ) (k : ℕ) : Type 0 where
  inside : k ≤ length s
  invalid : Rest rs s → ⊥
  before : Carries rs (take k s)
  up_to : k < length s → Carries rs (take (suc k) s) → ⊥

no_rest : {r : Range} {rs : List Range} → Rest (r ∷ rs) [] → ⊥
no_rest {r = lo to hi} k = elim k [ ]

-- what a refused octet rules out, and what one that is taken leaves
refused : {rs : List Range} {b : ℕ} {s : List ℕ} → octet_step rs b ≡ None → Rest rs (b ∷ s) → ⊥
refused e k = let f = takes (rest_on k).1 in cc

left : {rs qs : List Range} {b : ℕ} {s : List ℕ} → octet_step rs b ≡ Some qs → Rest rs (b ∷ s) → Rest qs s
left {qs} e k = let f = rest_on k in let q : f.0 ≡ qs = cc (takes f.1) in rw q at f.2

-- the text ends, the octet cannot stand here, or the place is after it
stops_end : {r : Range} {rs : List Range} → Nonempty (r ∷ rs) → Stops (r ∷ rs) [] 0
stops_end h =
    record { inside = omega arith; invalid = no_rest; before = completed _ h; up_to = λ l. absurd (omega arith) }

stops_here : {rs : List Range} {b : ℕ} {s : List ℕ} → Nonempty rs → octet_step rs b ≡ None → Stops rs (b ∷ s) 0
stops_here h e =
    record { inside = omega arith; invalid = refused e; before = completed _ h; up_to = λ l m. refused e m.1 }

stops_later : {rs qs : List Range} {b k : ℕ} {s : List ℕ} → octet_step rs b ≡ Some qs → Stops qs s k
    → Stops rs (b ∷ s) (suc k)
stops_later e t = record {
  inside = omega arith;
  invalid = λ r. t.invalid (left e r);
  before = (t.before.0, rest_back (taken e) t.before.1);
  up_to = λ l m. t.up_to (omega arith) (m.0, left e m.1);
}

-- the check from the place at on stops at n
abbrev StopsAt : ℕ → List Range → ℕ → List ℕ → Type 0
StopsAt n rs at s = (k : ℕ) × (n ≡ at + k) × Stops rs s k

same_place : {m n : ℕ} → bad_at m ≡ bad_at n → m ≡ n
same_place {m} {n} e =
    let q : ◌≡◌ {A = BadAt} (record { place = m }) (record { place = n }) = cc in ap (λ (b : BadAt). b.place) q

bad_stops : (rs : List Range) (at : ℕ) (s : List ℕ) (n : ℕ) → Nonempty rs → check_from rs at s ≡ bad_at n
    → StopsAt n rs at s
unfolding check_from at_end
bad_stops [] at [] n h e = cc
bad_stops (r ∷ rs) at [] n h e = let q : at ≡ n = same_place e in (0, omega arith, stops_end h)
bad_stops rs at (b ∷ s) n h e = go (octet_step rs b) refl (λ qs. bad_stops qs (at + 1) s n) e
  where
    go : (a : Option (List Range)) → octet_step rs b ≡ a
        → ((qs : List Range) → Nonempty qs → check_from qs (at + 1) s ≡ bad_at n → StopsAt n qs (at + 1) s)
        → onward a (λ qs. check_from qs (at + 1) s) (bad_at at) ≡ bad_at n
        → StopsAt n rs at (b ∷ s)
    go (Some qs) g later f =
        let t = later qs (step_nonempty h (taken g)) f in (suc t.0, omega (arith, t.1), stops_later g t.2)
    go None g later f = let q : at ≡ n = same_place f in (0, omega arith, stops_here h g)

first_bad : {s : List ℕ} {n : ℕ} → Stops [] s n → FirstBad s n
first_bad t = record {
  inside = t.inside;
  invalid = λ u. t.invalid (done u);
  before = (t.before.0, text t.before.1);
  up_to = λ l m. t.up_to l (m.0, done (rw add-one at m.1));
}

-- the start of a text that can go on can go on
start_continues : (k : ℕ) (s : List ℕ) → Continues s → Continues (take k s)
start_continues k s m = (drop k s ++ m.0, rw (← append_assoc, take-append-drop) m.1)

not_before : {s : List ℕ} {m n : ℕ} → FirstBad s m → FirstBad s n → m < n → ⊥
not_before {s} {m} {n} f g h =
    f.up_to (omega arith) (rw (take-take (m + 1) n s (omega arith)) at (start_continues (m + 1) (take n s) g.before))

bad_first : (s : List ℕ) (n : ℕ) → check s ≡ bad_at n → FirstBad s n
unfolding check
bad_first s n e =
    let t = bad_stops [] 0 s n tt e in let q : t.0 ≡ n = omega (arith, t.1) in first_bad (rw q at t.2)

pub bad_exactly : BadExactly
bad_exactly s n = (bad_first s n, λ f. place f (check s) refl)
  where
    place : FirstBad s n → (a : Validity) → check s ≡ a → check s ≡ bad_at n
    place f (Ok u) e = absurd (f.invalid ((valid_exactly s).0 e))
    place f (Err b) e =
        let g = bad_first s b.place e in
        let q : b.place ≡ n = omega (arith, not_before f g, not_before g f) in
        e ∙ ap bad_at q
