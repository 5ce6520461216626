-- How much of a lent table is used at most.
use Rattle.std.specs.Prelude.{ℕ, min}

-- slots, and places for frames
abbrev pub max_slots : ℕ
max_slots = 65535

abbrev pub max_frames : ℕ
max_frames = 65535

-- the smaller of a count and a limit
abbrev pub at_most : ℕ → ℕ → ℕ
at_most limit count = min count limit
