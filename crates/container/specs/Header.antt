-- The header, 32 bytes: the eight bytes ARBORICX; u16 major, u16 minor; u32 section count; u64 flags; u64 directory offset.
-- Minor and flags aren't judged.
use Rattle.std.specs.Prelude.{ℕ, ◌+◌, ◌*◌, List, [], ◌∷◌, Bool, not, length, ltb, eqb}
use Rattle.wire.specs.Wire.{number_at, holds_at, or_zero, ascii}
use Rattle.lists.specs.Lists.{any_of}
use Rattle.sizes.specs.Sizes.{within, file_size, sections_size}

-- bytes of the header, and of a directory entry
abbrev pub header_bytes : ℕ
header_bytes = 32

abbrev pub entry_bytes : ℕ
entry_bytes = 60

unfoldable pub section_count : List ℕ → ℕ
section_count file = or_zero (number_at 4 file 12)

unfoldable pub directory_offset : List ℕ → ℕ
directory_offset file = or_zero (number_at 8 file 24)

-- 1: file over 65,536 bytes
unfoldable pub too_long : List ℕ → Bool
too_long file = ltb file_size.most (length file)

-- 2: under 32
unfoldable pub too_short : List ℕ → Bool
too_short file = ltb (length file) file_size.least

-- 3: magic differs
unfoldable pub other_magic : List ℕ → Bool
other_magic file = not (holds_at file 0 (ascii "ARBORICX"))

-- 4: major not 1
unfoldable pub other_major : List ℕ → Bool
other_major file = not (eqb (or_zero (number_at 2 file 8)) 1)

-- 5: section count outside 1 to 16, directory offset not 32, or directory past the end of file
unfoldable pub no_directory : List ℕ → Bool
no_directory file =
    any_of
    (not (within sections_size (section_count file)) ∷
    not (eqb (directory_offset file) header_bytes) ∷
    ltb (length file) (header_bytes + entry_bytes * section_count file) ∷
    [])
