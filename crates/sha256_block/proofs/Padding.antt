-- The padding of FIPS 180-4, §5.1.1, in the terms of the standard.
use Rattle.std.proofs.Common.{◌≡◌, ℕ, ◌+◌, ◌%◌, ◌≤◌, List, length, refl, arith, length-append}
use lib.ListN.{length-replicate}
use Rattle.sha256_block.specs.Fips180.{tabulate, zeros, length_bytes, padding, padded}

pub length_of_length : (bits : ℕ) → length (length_bytes bits) ≡ 8
unfolding length_bytes tabulate
length_of_length bits = refl

-- the zeros are the fewest with which 8 bytes are left to the end of a block
pub zeros_end : (n : ℕ) → (n + 1 + zeros n) % 64 ≡ 56
zeros_end n = omega arith

pub zeros_least : (n k : ℕ) → (n + 1 + k) % 64 ≡ 56 → zeros n ≤ k
zeros_least n k e = omega arith

-- a padded message is whole blocks
pub padded_blocks : (m : List ℕ) → length (padded m) % 64 ≡ 0
unfolding padded padding
padded_blocks m = simp (length-append, length-replicate, length_of_length) (omega arith)
