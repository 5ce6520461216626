-- Where the constants come from (FIPS 180-4, §4.2.2 and §5.3.3): the first 32 bits of the fractional parts of the cube roots
-- of the first 64 primes, and of the square roots of the first eight.
use Rattle.std.specs.Prelude.{ℕ, zero, suc, ◌+◌, ◌*◌, ◌%◌, ◌^◌, Bool, true, false, cond, List, [], ◌∷◌, ◌++◌, ◌==◌, nat_le, nat_lt}

-- no number from 2 to d divides n
unfoldable pub no_divisor : ℕ → ℕ → Bool
no_divisor n zero = true
no_divisor n (suc zero) = true
no_divisor n (suc (suc d)) = cond (n % suc (suc d) == 0) false (no_divisor n (suc d))

-- the primes from 2 to n + 1
unfoldable pub primes : ℕ → List ℕ
primes zero = []
primes (suc n) = primes n ++ cond (no_divisor (suc (suc n)) (suc n)) (suc (suc n) ∷ []) []

-- the greatest number up to a whose power of d is at most p
unfoldable pub root : ℕ → ℕ → ℕ → ℕ
root d p zero = 0
root d p (suc a) = cond (nat_le (suc a ^ d) p) (suc a) (root d p a)

-- with the whole part a, x is the first 32 bits of the fractional part of the root: a + x / 2 ^ 32 is at most the root, and
-- a + (x + 1) / 2 ^ 32 above it
unfoldable pub fraction : ℕ → ℕ → ℕ → ℕ → Bool
fraction d p a x =
    cond (nat_le ((a * 2 ^ 32 + x) ^ d) (p * 2 ^ (32 * d))) (nat_lt (p * 2 ^ (32 * d)) ((a * 2 ^ 32 + x + 1) ^ d)) false

-- each word of a list is below 2 ^ 32 and comes so from its prime
unfoldable pub fractions : ℕ → List ℕ → List ℕ → Bool
fractions d [] [] = true
fractions d [] (x ∷ xs) = false
fractions d (p ∷ ps) [] = false
fractions d (p ∷ ps) (x ∷ xs) = cond (nat_lt x (2 ^ 32)) (cond (fraction d p (root d p 20) x) (fractions d ps xs) false) false
