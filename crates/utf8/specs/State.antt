-- What the states of the code stand for, and where they begin. Contracts inside the crate cite this; the public one does not.
use Rattle.std.specs.Prelude.{ℕ, ◌-◌, List, [], ◌∷◌, cond, replicate, eqb, nat_lt}
use Rattle.std.specs.List.{prefix_len}
use Rattle.utf8.specs.declared.Want.{Want}
use Rattle.utf8.specs.Check.{Range, ◌to◌, tail}

-- the state in which n tails are wanted; with none, a character starts
abbrev pub tails : ℕ → Want
tails n = record { left = n; low = 0x80; high = 0xBF }

-- the ranges that a state stands for: one for the next octet, tails after it
unfoldable pub wanted : Want → List Range
wanted w = cond (eqb w.left 0) [] ((w.low to w.high) ∷ replicate (w.left - 1) tail)

-- how many octets at the start are characters of one octet
abbrev pub ascii_length : List ℕ → ℕ
ascii_length bytes = prefix_len (λ b. nat_lt b 0x80) bytes
