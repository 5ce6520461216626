-- Big-endian numbers, spans and byte strings in a list of bytes. Positions and lengths are whole numbers: no sum wraps.
use Rattle.std.specs.Prelude.{ℕ, ◌+◌, ◌*◌, ◌^◌, List, [], ◌∷◌, Bool, false, cond, length, take, drop, leb, unwrap_or, Option, Some, None}
use Prim.Native.Char.{code}
use Prim.Native.String.{String}
use Rattle.lists.specs.Lists.{same_bytes}

-- the number that bytes stand for, the first byte the highest
unfoldable pub big_endian : List ℕ → ℕ
big_endian [] = 0
big_endian (b ∷ bs) = b * 256 ^ length bs + big_endian bs

-- all of the n bytes from start on are in s
unfoldable pub inside : List ℕ → ℕ → ℕ → Bool
inside s start n = leb (start + n) (length s)

-- where the span of n bytes from start on ends
unfoldable pub span_end : List ℕ → ℕ → ℕ → Option ℕ
span_end s start n = cond (inside s start n) (Some (start + n)) None

-- the bytes of the span, or none where it passes the end
unfoldable pub span : List ℕ → ℕ → ℕ → List ℕ
span s start n = cond (inside s start n) (take n (drop start s)) []

-- the number of n bytes at a position
unfoldable pub number_at : ℕ → List ℕ → ℕ → Option ℕ
number_at n s at = cond (inside s at n) (Some (big_endian (take n (drop at s)))) None

-- the byte string t stands in s from a position on
unfoldable pub holds_at : List ℕ → ℕ → List ℕ → Bool
holds_at s at t = cond (inside s at (length t)) (same_bytes (take (length t) (drop at s)) t) false

-- the number that was read; 0 where there was none
abbrev pub or_zero : Option ℕ → ℕ
or_zero x = unwrap_or x 0

-- the bytes of a text of the source
abbrev pub ascii : String → List ℕ
ascii String.[] = []
ascii (String.◌∷◌ c cs) = code c ∷ ascii cs
