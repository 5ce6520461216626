-- The check, octet by octet: at each place, the ranges of the octets that the character begun there still wants.
use Rattle.std.specs.Prelude.{ℕ, ◌+◌, List, [], ◌∷◌, Bool, false, cond, leb, Option, Some, None, Result, Ok, Err}
use Rattle.utf8.specs.declared.BadAt.{BadAt}

infix 40 ◌to◌
infix 30 ◌then◌
-- a range of octets, as the ABNF's %x80-BF
pub data Range : Type 0 where
  ◌to◌ : ℕ → ℕ → Range

-- a row of the ABNF: the range of a character's first octet, and those of the octets after it
pub data OctetRow : Type 0 where
  ◌then◌ : Range → List Range → OctetRow

abbrev pub tail : Range
tail = 0x80 to 0xBF

-- UTF8-1, UTF8-2, UTF8-3, UTF8-4
unfoldable pub utf8_char : List OctetRow
utf8_char =
    (0x00 to 0x7F then []) ∷
    (0xC2 to 0xDF then tail ∷ []) ∷
    (0xE0 to 0xE0 then (0xA0 to 0xBF) ∷ tail ∷ []) ∷
    (0xE1 to 0xEC then tail ∷ tail ∷ []) ∷
    (0xED to 0xED then (0x80 to 0x9F) ∷ tail ∷ []) ∷
    (0xEE to 0xEF then tail ∷ tail ∷ []) ∷
    (0xF0 to 0xF0 then (0x90 to 0xBF) ∷ tail ∷ tail ∷ []) ∷
    (0xF1 to 0xF3 then tail ∷ tail ∷ tail ∷ []) ∷
    (0xF4 to 0xF4 then (0x80 to 0x8F) ∷ tail ∷ tail ∷ []) ∷
    []

-- the octet b is one of the range
unfoldable pub in_range : Range → ℕ → Bool
in_range (lo to hi) b = cond (leb lo b) (leb b hi) false

-- an octet that starts a character: what the first row that has it wants after it; none, where no row has it
unfoldable pub octet_start : List OctetRow → ℕ → Option (List Range)
octet_start [] b = None
octet_start ((r then rs) ∷ rows) b = cond (in_range r b) (Some rs) (octet_start rows b)

-- an octet where the ranges are wanted: those that its character still wants; none, where the octet cannot stand there.
-- With no range wanted, it starts a character.
unfoldable pub octet_step : List Range → ℕ → Option (List Range)
octet_step [] b = octet_start utf8_char b
octet_step (r ∷ rs) b = cond (in_range r b) (Some rs) None

-- what a check comes to
abbrev pub Validity : Type 0
Validity = Result (Unit {0}) BadAt

abbrev pub valid : Validity
valid = Ok tt

-- bad at the place n
abbrev pub bad_at : ℕ → Validity
bad_at n = Err (record { place = n })

-- the text ends
unfoldable pub at_end : List Range → ℕ → Validity
at_end [] at = valid
at_end (r ∷ rs) at = bad_at at

abbrev pub onward : Option (List Range) → (List Range → Validity) → Validity → Validity
onward (Some rs) f bad = f rs
onward None f bad = bad

-- the octets from the place at on, where the ranges rs are wanted
unfoldable pub check_from : List Range → ℕ → List ℕ → Validity
check_from rs at [] = at_end rs at
check_from rs at (b ∷ bytes) = onward (octet_step rs b) (λ next. check_from next (at + 1) bytes) (bad_at at)

-- valid, or the place of the first octet that cannot continue valid text (the length where the text ends inside a character)
unfoldable pub check : List ℕ → Validity
check bytes = check_from [] 0 bytes
