-- Document 01's sizes: how much of each thing a bundle has.
use Rattle.std.specs.Prelude.{ℕ, Bool, false, cond, leb}
use Rattle.sizes.specs.declared.Size.{Size}

-- a count is one that a size allows
unfoldable pub within : Size → ℕ → Bool
within size n = cond (leb size.least n) (leb n size.most) false

-- bytes of a file; the least is a header's
abbrev pub file_size : Size
file_size = record { least = 32; most = 65536 }

abbrev pub sections_size : Size
sections_size = record { least = 1; most = 16 }

abbrev pub capabilities_size : Size
capabilities_size = record { least = 0; most = 0 }

-- what the shape of a count allows where no size is asked: as much as a u32 holds
abbrev pub any_count : Size
any_count = record { least = 0; most = 4294967295 }

abbrev pub roots_size : Size
roots_size = record { least = 1; most = 16 }

abbrev pub exports_size : Size
exports_size = record { least = 1; most = 32 }

-- metadata fields, and extension fields
abbrev pub fields_size : Size
fields_size = record { least = 0; most = 16 }

-- bytes of an export's name
abbrev pub name_size : Size
name_size = record { least = 1; most = 64 }

abbrev pub nodes_size : Size
nodes_size = record { least = 1; most = 512 }

-- bytes of a hash
abbrev pub hash_bytes : ℕ
hash_bytes = 32
