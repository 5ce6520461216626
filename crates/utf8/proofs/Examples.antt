-- Worked examples: the check is run on the texts of RFC 3629, section 7, and on four that are malformed.
use mathlib.Core.List.{[], ◌∷◌}
use mathlib.Core.Path.{◌≡◌, refl}
use Rattle.utf8.specs.Check.{valid, bad_at, check, check_from, octet_step, at_end, octet_start, utf8_char, in_range}

-- "A<NOT IDENTICAL TO><ALPHA>."
not_identical : check (0x41 ∷ 0xE2 ∷ 0x89 ∷ 0xA2 ∷ 0xCE ∷ 0x91 ∷ 0x2E ∷ []) ≡ valid
unfolding check check_from octet_step at_end octet_start utf8_char in_range
not_identical = refl

-- "hangugeo" in Hangul
hangugeo : check (0xED ∷ 0x95 ∷ 0x9C ∷ 0xEA ∷ 0xB5 ∷ 0xAD ∷ 0xEC ∷ 0x96 ∷ 0xB4 ∷ []) ≡ valid
unfolding check check_from octet_step at_end octet_start utf8_char in_range
hangugeo = refl

-- "nihongo" in Kanji
nihongo : check (0xE6 ∷ 0x97 ∷ 0xA5 ∷ 0xE6 ∷ 0x9C ∷ 0xAC ∷ 0xE8 ∷ 0xAA ∷ 0x9E ∷ []) ≡ valid
unfolding check check_from octet_step at_end octet_start utf8_char in_range
nihongo = refl

-- a byte order mark, and U+233B4
stump_of_tree : check (0xEF ∷ 0xBB ∷ 0xBF ∷ 0xF0 ∷ 0xA3 ∷ 0x8E ∷ 0xB4 ∷ []) ≡ valid
unfolding check check_from octet_step at_end octet_start utf8_char in_range
stump_of_tree = refl

-- an overlong slash
overlong : check (0x2F ∷ 0xC0 ∷ 0xAF ∷ []) ≡ bad_at 1
unfolding check check_from octet_step at_end octet_start utf8_char in_range
overlong = refl

-- a surrogate
surrogate : check (0xED ∷ 0xA0 ∷ 0x80 ∷ []) ≡ bad_at 1
unfolding check check_from octet_step at_end octet_start utf8_char in_range
surrogate = refl

-- above U+10FFFF
above : check (0xF4 ∷ 0x90 ∷ 0x80 ∷ 0x80 ∷ []) ≡ bad_at 1
unfolding check check_from octet_step at_end octet_start utf8_char in_range
above = refl

-- a text cut inside a character
cut : check (0x41 ∷ 0xF0 ∷ 0x9F ∷ []) ≡ bad_at 3
unfolding check check_from octet_step at_end octet_start utf8_char in_range
cut = refl
