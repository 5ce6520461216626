-- Bytes put into a block, and zeros after them.
use Rattle.std.proofs.Common.{◌≡◌, ℕ, ◌+◌, ◌-◌, ◌≤◌, List, ◌++◌, length, take, replicate, sym, ap, ◌∙◌, append_assoc, append-nil, arith, length-append, take_at}
use lib.ListN.{length-replicate}
use lib.ListN.{replicate-append-replicate}
use Rattle.sha256.specs.Running.{in_block}

pub block_length : (xs : List ℕ) → length xs ≤ 64 → length (in_block xs) ≡ 64
unfolding in_block
block_length xs h = simp (length-append, length-replicate) (omega arith)

-- bytes that fill a block
pub block_full : (xs : List ℕ) → length xs ≡ 64 → in_block xs ≡ xs
unfolding in_block
block_full xs h =
    let z : 64 - length xs ≡ 0 = omega arith in
    rw (z, append-nil)

-- a block's first n bytes, where only zeros are left out
pub take_block : (xs : List ℕ) (n : ℕ) → length xs ≤ n → n ≤ 64 → take n (in_block xs) ≡ xs ++ replicate (n - length xs) 0
unfolding in_block
take_block xs n l h =
    let e : n - length xs + (64 - n) ≡ 64 - length xs = omega arith in
    let k : length (xs ++ replicate (n - length xs) 0) ≡ n = simp (length-append, length-replicate) (omega arith) in
    let s : xs ++ replicate (64 - length xs) 0 ≡ xs ++ replicate (n - length xs) 0 ++ replicate (64 - n) 0
    = rw (← e, ← replicate-append-replicate {A = ℕ} (n - length xs) (64 - n) 0)
    (sym (append_assoc xs (replicate (n - length xs) 0) (replicate (64 - n) 0)))
    in
    ap (take n) s ∙ take_at (xs ++ replicate (n - length xs) 0) (replicate (64 - n) 0) n k
