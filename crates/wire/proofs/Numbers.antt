-- Laws of big-endian numbers: of bytes one after the other, at a position, and how large they are.
use Prim.Native.Nat.{ℕ, suc, ◌+◌, ◌*◌, ◌^◌, ◌≤◌, ◌<◌}
use mathlib.Core.Path.{◌≡◌}
use mathlib.Core.List.{List, [], ◌∷◌, ◌++◌}
use native.Mathlib.Nat.{mul-le-mul_right, pow-succ', pow-le-pow_right}
use native.Mathlib.Omega.{arith}
use lib.ListN.{length, get_or, take, drop, length-append, length-take}
use lib.Seq.{take-suc}
use native.Mathlib.Numerals.{add-one}
use lib.Pow.{pow-add}
use Rattle.wire.specs.Wire.{big_endian}
use Rattle.wire.proofs.Parts.{AreBytes, part_length, part_bytes}

pub big_endian_append : (xs ys : List ℕ) → big_endian (xs ++ ys) ≡ big_endian xs * 256 ^ length ys + big_endian ys
unfolding big_endian
big_endian_append [] ys = omega arith
big_endian_append (x ∷ xs) ys =
    rw (length-append xs ys, pow-add 256 (length xs) (length ys), big_endian_append xs ys) (omega arith)

pub big_endian_bound : (xs : List ℕ) → AreBytes xs → big_endian xs < 256 ^ length xs
unfolding big_endian
big_endian_bound [] b = omega arith
big_endian_bound (x ∷ xs) b =
    let h : x + 1 ≤ 256 = omega (arith, b 0) in
    let k : big_endian xs < 256 ^ length xs = big_endian_bound xs (λ i. b (suc i)) in
    omega (arith, mul-le-mul_right (256 ^ length xs) h, pow-succ' 256 (length xs))

-- the number of the first bytes and one more
pub big_endian_more : (xs : List ℕ) (i : ℕ) → i < length xs →
    big_endian (take i xs) * 256 + get_or xs i 0 ≡ big_endian (take (i + 1) xs)
unfolding big_endian
big_endian_more xs i h =
    rw (add-one, take-suc xs i 0 h, big_endian_append (take i xs) (get_or xs i 0 ∷ [])) (omega arith)

-- that of 8 bytes at most fits into 64 bits
pub big_endian_fits : (xs : List ℕ) (i : ℕ) → AreBytes xs → i ≤ 8 → big_endian (take i xs) < 2 ^ 64
big_endian_fits xs i b h =
    let k = big_endian_bound (take i xs) (part_bytes xs 0 i b) in
    let l : length (take i xs) ≤ 8 = rw length-take (omega arith) in
    omega (arith, k, pow-le-pow_right {n = 256} (omega arith) l)

-- the number of n bytes at a position is below 256 ^ n
pub part_bound : (s : List ℕ) (at n : ℕ) → AreBytes s → at + n ≤ length s → big_endian (take n (drop at s)) < 256 ^ n
part_bound s at n b h = rw (part_length s at n h) at (big_endian_bound (take n (drop at s)) (part_bytes s at n b))
