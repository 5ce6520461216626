-- What the check's answers mean, in the terms of the ABNF alone. The proofs are in proofs/Meaning.antt.
use Rattle.std.specs.Prelude.{ℕ, ◌+◌, ◌≤◌, ◌<◌, ◌≡◌, List, ◌++◌, length, take}
use Rattle.utf8.specs.Rfc3629.{Utf8Octets}
use Rattle.utf8.specs.Check.{valid, bad_at, check}

-- some octets after these make valid text of them
abbrev pub Continues : List ℕ → Type 0
Continues s = (more : List ℕ) × Utf8Octets (s ++ more)

-- n is the place of the first octet that cannot continue valid text, or the length of a text that ends inside a character
pub record FirstBad (s : List ℕ) (n : ℕ) : Type 0 where
  pub inside : n ≤ length s
  pub invalid : Utf8Octets s → ⊥
  pub before : Continues (take n s)
  pub up_to : n < length s → Continues (take (n + 1) s) → ⊥

-- valid exactly for a UTF8-octets
abbrev pub ValidExactly : Type 0
ValidExactly = (s : List ℕ) → (check s ≡ valid → Utf8Octets s) × (Utf8Octets s → check s ≡ valid)

-- bad at n exactly where n is that place
abbrev pub BadExactly : Type 0
BadExactly = (s : List ℕ) (n : ℕ) → (check s ≡ bad_at n → FirstBad s n) × (FirstBad s n → check s ≡ bad_at n)
