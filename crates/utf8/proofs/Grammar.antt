-- The ABNF and the check's steps: an octet begins a character or goes on with one exactly where the step takes it.
use Prim.Native.Nat.{ℕ}
use mathlib.Core.Path.{◌≡◌, refl}
use mathlib.Core.List.{List, [], ◌∷◌}
use mathlib.Core.Bool.{Bool, true, false, cond}
use Rattle.std.specs.Prelude.{Some, None}
use Rattle.utf8.specs.Rfc3629.{Octet, Utf8Octets, none, more}
use Rattle.utf8.specs.Rfc3629.{utf8_1, utf8_2, utf8_3_E0, utf8_3_E1, utf8_3_ED, utf8_3_EE}
use Rattle.utf8.specs.Rfc3629.{utf8_4_F0, utf8_4_F1, utf8_4_F4}
use Rattle.utf8.specs.Check.{Range, OctetRow, ◌to◌, ◌then◌, utf8_char, in_range, octet_start, octet_step}
use Rattle.utf8.proofs.Laws.{RowOf, here, there, after, start_char, within_in, within_true}

-- s starts with one octet of each range of rs, and a UTF8-octets follows
pub data Rest : List Range → List ℕ → Type 0 where
  done : {s : List ℕ} → Utf8Octets s → Rest [] s
  next : {lo hi b : ℕ} {rs : List Range} {s : List ℕ} → Octet lo hi b → Rest rs s → Rest ((lo to hi) ∷ rs) (b ∷ s)

-- a UTF8-octets that is not empty: a row of the table has its first octet, and what the row wants follows
abbrev Opened : List ℕ → Type 0
Opened [] = Unit {0}
Opened (b ∷ s) = (rs : List Range) × RowOf utf8_char b rs × Rest rs s

opens : {b : ℕ} {rs : List Range} {s : List ℕ} → RowOf utf8_char b rs → Rest rs s → Opened (b ∷ s)
opens {rs} r k = (rs, r, k)

-- the nine alternatives of the ABNF are the nine rows, in order
opened : {s : List ℕ} → Utf8Octets s → Opened s
unfolding utf8_char
opened none = tt
opened (more (utf8_1 a) u) = opens (here a) (done u)
opened (more (utf8_2 a b) u) = opens (after 1 (here a)) (next b (done u))
opened (more (utf8_3_E0 a b c) u) = opens (after 2 (here a)) (next b (next c (done u)))
opened (more (utf8_3_E1 a b c) u) = opens (after 3 (here a)) (next b (next c (done u)))
opened (more (utf8_3_ED a b c) u) = opens (after 4 (here a)) (next b (next c (done u)))
opened (more (utf8_3_EE a b c) u) = opens (after 5 (here a)) (next b (next c (done u)))
opened (more (utf8_4_F0 a b c d) u) = opens (after 6 (here a)) (next b (next c (next d (done u))))
opened (more (utf8_4_F1 a b c d) u) = opens (after 7 (here a)) (next b (next c (next d (done u))))
opened (more (utf8_4_F4 a b c d) u) = opens (after 8 (here a)) (next b (next c (next d (done u))))

closes : {b : ℕ} {rs : List Range} {s : List ℕ} → RowOf utf8_char b rs → Rest rs s → Utf8Octets (b ∷ s)
unfolding utf8_char
closes (here a) (done u) = more (utf8_1 a) u
closes (there (here a)) (next b (done u)) = more (utf8_2 a b) u
closes (there (there (here a))) (next b (next c (done u))) = more (utf8_3_E0 a b c) u
closes (there (there (there (here a)))) (next b (next c (done u))) = more (utf8_3_E1 a b c) u
closes (there (there (there (there (here a))))) (next b (next c (done u))) = more (utf8_3_ED a b c) u
closes (there (there (there (there (there (here a)))))) (next b (next c (done u))) = more (utf8_3_EE a b c) u
closes (there (there (there (there (there (there (here a))))))) (next b (next c (next d (done u)))) =
    more (utf8_4_F0 a b c d) u
closes (there (there (there (there (there (there (there (here a)))))))) (next b (next c (next d (done u)))) =
    more (utf8_4_F1 a b c d) u
closes (there (there (there (there (there (there (there (there (here a))))))))) (next b (next c (next d (done u)))) =
    more (utf8_4_F4 a b c d) u
closes {b = b} {rs = rs} {s = s} (there (there (there (there (there (there (there (there (there x99))))))))) _ = elim x99 [ ]

-- an octet starts a character only by a row that has it
started : (rows : List OctetRow) {b : ℕ} {rs : List Range} → octet_start rows b ≡ Some rs → RowOf rows b rs
unfolding octet_start
started [] e = cc
started ((lo to hi then ws) ∷ rows) {b} {rs} e = go (in_range (lo to hi) b) refl (started rows) e
  where
    go : (t : Bool) → in_range (lo to hi) b ≡ t → (octet_start rows b ≡ Some rs → RowOf rows b rs)
        → cond t (Some ws) (octet_start rows b) ≡ Some rs → RowOf ((lo to hi then ws) ∷ rows) b rs
    go true h later f = let q : ws ≡ rs = cc in rw (← q) (here (within_true lo hi b h))
    go false h later f = there (later f)

-- an octet that a step takes: it begins a character or goes on with one
pub data Taken : List Range → ℕ → List Range → Type 0 where
  begins : {b : ℕ} {rs : List Range} → RowOf utf8_char b rs → Taken [] b rs
  goes : {lo hi b : ℕ} {rs : List Range} → Octet lo hi b → Taken ((lo to hi) ∷ rs) b rs

pub taken : {rs qs : List Range} {b : ℕ} → octet_step rs b ≡ Some qs → Taken rs b qs
unfolding octet_step
taken {rs = []} e = begins (started utf8_char e)
taken {rs = (lo to hi) ∷ rs} {qs} {b} e = go (in_range (lo to hi) b) refl e
  where
    go : (t : Bool) → in_range (lo to hi) b ≡ t → cond t (Some rs) None ≡ Some qs → Taken ((lo to hi) ∷ rs) b qs
    go true h f = let q : rs ≡ qs = cc in rw (← q) (goes (within_true lo hi b h))
    go false h f = cc

pub takes : {rs qs : List Range} {b : ℕ} → Taken rs b qs → octet_step rs b ≡ Some qs
unfolding octet_step
takes (begins r) = start_char r
takes (goes {lo = lo} {hi = hi} {b = b} o) = rw (within_in lo hi b o)

-- what is wanted follows, one octet back and one on
pub rest_back : {rs qs : List Range} {b : ℕ} {s : List ℕ} → Taken rs b qs → Rest qs s → Rest rs (b ∷ s)
rest_back (begins r) k = done (closes r k)
rest_back (goes o) k = next o k

pub rest_on : {rs : List Range} {b : ℕ} {s : List ℕ} → Rest rs (b ∷ s) → (qs : List Range) × Taken rs b qs × Rest qs s
rest_on (done u) = let o = opened u in (o.0, begins o.1, o.2)
rest_on (next {rs = rs} o k) = (rs, goes o, k)
