-- A running hash after whole blocks: what it hashed, and what it buffers.
use Rattle.std.proofs.Common.{◌≡◌, ℕ, ◌+◌, ◌-◌, ◌*◌, ◌/◌, ◌%◌, ◌≤◌, List, ◌++◌, length, drop, ap, ◌∙◌, append-nil, arith, length-drop, length-take, drop-drop}
use Rattle.sha256.specs.declared.Running.{Running}
use Rattle.sha256_block.specs.Fips180.{compress, hash}
use Rattle.sha256.specs.Running.{pending, in_block, buffered}
use Rattle.sha256_block.proofs.Blocks.{rest_append, rest_count, hash_split, block_hash, block_rest}
use Rattle.sha256.proofs.Filling.{take_block}

-- q blocks of xs are hashed before the rest of xs and ys
pub buffered_split : (q : ℕ) (v xs ys : List ℕ) → q * 64 ≤ length xs → (t : ℕ)
    → buffered (hash q v xs) (drop (q * 64) xs ++ ys) t ≡ buffered v (xs ++ ys) t
unfolding buffered
buffered_split q v xs ys h t =
    let n : ℕ = length (drop (q * 64) xs ++ ys) / 64 in
    let e : q * 64 + n * 64 ≡ length (xs ++ ys) / 64 * 64 = omega (arith, rest_count q v xs ys h) in
    let d : drop (n * 64) (drop (q * 64) xs ++ ys) ≡ drop (length (xs ++ ys) / 64 * 64) (xs ++ ys)
    = ap (drop (n * 64)) (rest_append q v xs ys h)
    ∙ drop-drop (n * 64) (q * 64) (xs ++ ys)
    ∙ ap (λ (k : ℕ). drop k (xs ++ ys)) e
    in
    λ i. record { h = hash_split q v xs ys h i; block = in_block (d i); total = t }

-- a block before the rest
pub buffered_first : (v b d : List ℕ) → length b ≡ 64 → (t : ℕ) → buffered v (b ++ d) t ≡ buffered (compress v b) d t
buffered_first v b d l t = cc (buffered_split 1 v b d (omega arith) t, block_hash v b d l, block_rest v b d l)

-- what is buffered after the whole blocks of m, where the count agrees
pub pending_buffered : (v m : List ℕ) (t : ℕ) → t % 64 ≡ length m % 64
    → pending (buffered v m t) ≡ drop (length m / 64 * 64) m
unfolding pending buffered
pending_buffered v m t e =
    let w : List ℕ = drop (length m / 64 * 64) m in
    let l : length w ≡ t % 64 = simp length-drop (omega arith) in
    let z : t % 64 - length w ≡ 0 = omega arith in
    take_block w (t % 64) (omega arith) (omega arith) ∙ rw (z, append-nil)

pub pending_length : (s : Running) → length s.block ≡ 64 → length (pending s) ≡ s.total % 64
unfolding pending
pending_length s l = simp length-take (omega arith)
