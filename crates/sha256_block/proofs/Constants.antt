-- The constants of the definitions, by computation.
use Rattle.std.proofs.Common.{◌≡◌, true, take, refl}
use Rattle.sha256_block.specs.Fips180.{K, H0}
use Rattle.sha256_block.specs.Constants.{no_divisor, primes, root, fraction, fractions}

-- 311 is the 64th prime
pub cube_roots : fractions 3 (primes 310) K ≡ true
unfolding no_divisor primes root fraction fractions K
cube_roots = refl

pub square_roots : fractions 2 (take 8 (primes 18)) H0 ≡ true
unfolding no_divisor primes root fraction fractions H0
square_roots = refl
