-- The bytes of a hash value, word by word.
use Rattle.std.proofs.Common.{◌≡◌, ℕ, suc, ◌+◌, ◌*◌, ◌/◌, ◌%◌, ◌<◌, List, ◌++◌, get_or, append_assoc, lit<, arith}
use Rattle.std.proofs.Math.Nat.{div-one}
use Rattle.std.specs.Int.{w32, to_be_bytes}
use Rattle.sha256_block.specs.Fips180.{tabulate, word_byte, digest_byte}

-- byte j of word i of a hash value
word_digit : (v : List ℕ) (i j n : ℕ) → j < 4 → n ≡ 4 * i + j → digest_byte v n ≡ word_byte (get_or v i 0) j
word_digit v i j n h e =
    let q : n / 4 ≡ i = omega arith in
    let r : n % 4 ≡ j = omega arith in
    rw (q, r)

-- the bytes of word i go after those of the words before it
pub digest_word : (v : List ℕ) (i : ℕ)
    → tabulate (4 * (i + 1)) (digest_byte v) ≡ tabulate (4 * i) (digest_byte v) ++ to_be_bytes w32 (get_or v i 0)
unfolding tabulate
digest_word v i =
    let n : ℕ = 4 * i in
    let e : 4 * (i + 1) ≡ suc (suc (suc (suc n))) = omega arith in
    rw e (simp append_assoc (cc (
      word_digit v i 0 n (lit< tt) (omega arith),
      word_digit v i 1 (suc n) (lit< tt) (omega arith),
      word_digit v i 2 (suc (suc n)) (lit< tt) (omega arith),
      word_digit v i 3 (suc (suc (suc n))) (lit< tt) (omega arith),
      div-one (get_or v i 0),
    )))
