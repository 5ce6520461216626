-- Numbers as text.
use Rattle.std.specs.Prelude.{ℕ, zero, suc, ◌+◌, ◌/◌, ◌%◌, cond, List, [], ◌∷◌, ◌++◌, ltb}

-- a number below 10 ^ k in decimal digits, with no zero in front but for 0 itself
unfoldable pub digits : ℕ → ℕ → List ℕ
digits zero n = []
digits (suc k) n = cond (ltb n 10) ((48 + n) ∷ []) (digits k (n / 10) ++ ((48 + n % 10) ∷ []))

-- a number of at most 32 bits, which has at most ten digits
abbrev pub decimal : ℕ → List ℕ
decimal n = digits 10 n

abbrev pub newline : List ℕ
newline = 10 ∷ []
