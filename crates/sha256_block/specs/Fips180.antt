-- SHA-256 as FIPS 180-4 has it, in its order. A word is a number below 2 ^ 32, a byte one below 2 ^ 8, a message a list of bytes.
use Rattle.std.specs.Prelude.{ℕ, zero, suc, ◌+◌, ◌-◌, ◌*◌, ◌/◌, ◌%◌, ◌^◌, cond, List, [], ◌∷◌, ◌++◌, length, take, drop, replicate, bit_and, bit_or, bit_xor, nat_lt, slice_index}
use Rattle.sha256_block.specs.declared.Work.{Work}

infixl 65 ◌⊞◌
-- §3.2, operations on words. ∧, ∨ and ⊕ are bit_and, bit_or and bit_xor; ¬ is the complement, ⊞ addition modulo 2 ^ 32
abbrev pub complement : ℕ → ℕ
complement x = 2 ^ 32 - 1 - x

abbrev pub ◌⊞◌ : ℕ → ℕ → ℕ
a ⊞ b = (a + b) % 2 ^ 32

abbrev pub SHR : ℕ → ℕ → ℕ
SHR n x = x / 2 ^ n

abbrev pub ROTR : ℕ → ℕ → ℕ
ROTR n x = bit_or (SHR n x) ((x * 2 ^ (32 - n)) % 2 ^ 32)

-- §4.1.2, (4.2) to (4.7)
abbrev pub Ch : ℕ → ℕ → ℕ → ℕ
Ch x y z = bit_xor (bit_and x y) (bit_and (complement x) z)

abbrev pub Maj : ℕ → ℕ → ℕ → ℕ
Maj x y z = bit_xor (bit_xor (bit_and x y) (bit_and x z)) (bit_and y z)

abbrev pub Σ0 : ℕ → ℕ
Σ0 x = bit_xor (bit_xor (ROTR 2 x) (ROTR 13 x)) (ROTR 22 x)

abbrev pub Σ1 : ℕ → ℕ
Σ1 x = bit_xor (bit_xor (ROTR 6 x) (ROTR 11 x)) (ROTR 25 x)

abbrev pub σ0 : ℕ → ℕ
σ0 x = bit_xor (bit_xor (ROTR 7 x) (ROTR 18 x)) (SHR 3 x)

abbrev pub σ1 : ℕ → ℕ
σ1 x = bit_xor (bit_xor (ROTR 17 x) (ROTR 19 x)) (SHR 10 x)

-- §4.2.2: the constants, from the cube roots of the first 64 primes
unfoldable pub K : List ℕ
K =
    0x428a2f98 ∷ 0x71374491 ∷ 0xb5c0fbcf ∷ 0xe9b5dba5 ∷ 0x3956c25b ∷ 0x59f111f1 ∷ 0x923f82a4 ∷ 0xab1c5ed5 ∷
    0xd807aa98 ∷ 0x12835b01 ∷ 0x243185be ∷ 0x550c7dc3 ∷ 0x72be5d74 ∷ 0x80deb1fe ∷ 0x9bdc06a7 ∷ 0xc19bf174 ∷
    0xe49b69c1 ∷ 0xefbe4786 ∷ 0x0fc19dc6 ∷ 0x240ca1cc ∷ 0x2de92c6f ∷ 0x4a7484aa ∷ 0x5cb0a9dc ∷ 0x76f988da ∷
    0x983e5152 ∷ 0xa831c66d ∷ 0xb00327c8 ∷ 0xbf597fc7 ∷ 0xc6e00bf3 ∷ 0xd5a79147 ∷ 0x06ca6351 ∷ 0x14292967 ∷
    0x27b70a85 ∷ 0x2e1b2138 ∷ 0x4d2c6dfc ∷ 0x53380d13 ∷ 0x650a7354 ∷ 0x766a0abb ∷ 0x81c2c92e ∷ 0x92722c85 ∷
    0xa2bfe8a1 ∷ 0xa81a664b ∷ 0xc24b8b70 ∷ 0xc76c51a3 ∷ 0xd192e819 ∷ 0xd6990624 ∷ 0xf40e3585 ∷ 0x106aa070 ∷
    0x19a4c116 ∷ 0x1e376c08 ∷ 0x2748774c ∷ 0x34b0bcb5 ∷ 0x391c0cb3 ∷ 0x4ed8aa4a ∷ 0x5b9cca4f ∷ 0x682e6ff3 ∷
    0x748f82ee ∷ 0x78a5636f ∷ 0x84c87814 ∷ 0x8cc70208 ∷ 0x90befffa ∷ 0xa4506ceb ∷ 0xbef9a3f7 ∷ 0xc67178f2 ∷ []

-- the list f 0, f 1, .. of n elements
unfoldable pub tabulate : ℕ → (ℕ → ℕ) → List ℕ
tabulate zero f = []
tabulate (suc n) f = tabulate n f ++ (f n ∷ [])

-- §5.1.1: after a message of n bytes go a bit 1, zeros up to 8 bytes before the end of a block, and the number of bits
-- in 64 bits. Of a message that the standard allows, below 2 ^ 64 bits, `% 2 ^ 64` takes nothing away
abbrev pub zeros : ℕ → ℕ
zeros n = (119 - n % 64) % 64

abbrev pub length_byte : ℕ → ℕ → ℕ
length_byte bits i = bits / 2 ^ (56 - 8 * i) % 256

unfoldable pub length_bytes : ℕ → List ℕ
length_bytes bits = tabulate 8 (length_byte bits)

unfoldable pub padding : ℕ → List ℕ
padding n = 0x80 ∷ (replicate (zeros n) 0 ++ length_bytes (n * 8 % 2 ^ 64))

unfoldable pub padded : List ℕ → List ℕ
padded m = m ++ padding (length m)

-- §5.2.1: word t of a block of 64 bytes, the first byte the highest
abbrev pub word_of : ℕ → ℕ → ℕ → ℕ → ℕ
word_of a b c d = a * 2 ^ 24 + b * 2 ^ 16 + c * 2 ^ 8 + d

abbrev pub word_at : List ℕ → ℕ → ℕ
word_at m t = word_of (slice_index m (4 * t)) (slice_index m (4 * t + 1)) (slice_index m (4 * t + 2)) (slice_index m (4 * t + 3))

-- §5.3.3: the first hash value, from the square roots of the first eight primes
unfoldable pub H0 : List ℕ
H0 = 0x6a09e667 ∷ 0xbb67ae85 ∷ 0x3c6ef372 ∷ 0xa54ff53a ∷ 0x510e527f ∷ 0x9b05688c ∷ 0x1f83d9ab ∷ 0x5be0cd19 ∷ []

-- §6.2.2, 1: the message schedule W. Word t, where w holds the words before it, and the first t words
abbrev pub mixed : ℕ → ℕ → ℕ → ℕ → ℕ
mixed w2 w7 w15 w16 = σ1 w2 ⊞ w7 ⊞ σ0 w15 ⊞ w16

unfoldable pub next_word : List ℕ → ℕ → List ℕ → ℕ
next_word m t w =
    cond (nat_lt t 16) (word_at m t) (mixed (slice_index w (t - 2)) (slice_index w (t - 7)) (slice_index w (t - 15)) (slice_index w (t - 16)))

unfoldable pub schedule : List ℕ → ℕ → List ℕ
schedule m zero = []
schedule m (suc t) = schedule m t ++ (next_word m t (schedule m t) ∷ [])

-- 2: the working variables a to h, from the hash value
abbrev pub initial : List ℕ → Work
initial v =
    record {
      a = slice_index v 0;
      b = slice_index v 1;
      c = slice_index v 2;
      d = slice_index v 3;
      e = slice_index v 4;
      f = slice_index v 5;
      g = slice_index v 6;
      h = slice_index v 7;
    }

-- 3: one round, with its constant and its word of the schedule
abbrev pub T1 : Work → ℕ → ℕ → ℕ
T1 s k w = s.h ⊞ Σ1 s.e ⊞ Ch s.e s.f s.g ⊞ k ⊞ w

abbrev pub T2 : Work → ℕ
T2 s = Σ0 s.a ⊞ Maj s.a s.b s.c

unfoldable pub round : Work → ℕ → ℕ → Work
round s k w =
    record {
      a = T1 s k w ⊞ T2 s;
      b = s.a;
      c = s.b;
      d = s.c;
      e = s.d ⊞ T1 s k w;
      f = s.e;
      g = s.f;
      h = s.g;
    }

-- n rounds, from round t on
unfoldable pub rounds : List ℕ → ℕ → ℕ → Work → Work
rounds w t zero s = s
rounds w t (suc n) s = round (rounds w t n s) (slice_index K (t + n)) (slice_index w (t + n))

-- 4: the next hash value
unfoldable pub combined : List ℕ → Work → List ℕ
combined v s =
    (slice_index v 0 ⊞ s.a) ∷ (slice_index v 1 ⊞ s.b) ∷ (slice_index v 2 ⊞ s.c) ∷ (slice_index v 3 ⊞ s.d) ∷
    (slice_index v 4 ⊞ s.e) ∷ (slice_index v 5 ⊞ s.f) ∷ (slice_index v 6 ⊞ s.g) ∷ (slice_index v 7 ⊞ s.h) ∷ []

-- one block of 64 bytes
unfoldable pub compress : List ℕ → List ℕ → List ℕ
compress v m = combined v (rounds (schedule m 64) 0 64 (initial v))

-- the first n blocks of a message, one after the other
unfoldable pub hash : ℕ → List ℕ → List ℕ → List ℕ
hash zero v m = v
hash (suc n) v m = hash n (compress v (take 64 m)) (drop 64 m)

-- all whole blocks of a message
abbrev pub hash_all : List ℕ → List ℕ → List ℕ
hash_all v m = hash (length m / 64) v m

-- the bytes of the last hash value, the highest byte of each word first
abbrev pub word_byte : ℕ → ℕ → ℕ
word_byte x j = x / 2 ^ (24 - 8 * j) % 256

abbrev pub digest_byte : List ℕ → ℕ → ℕ
digest_byte v i = word_byte (slice_index v (i / 4)) (i % 4)

unfoldable pub bytes_of : List ℕ → List ℕ
bytes_of v = tabulate 32 (digest_byte v)

unfoldable pub sha256 : List ℕ → List ℕ
sha256 m = bytes_of (hash_all H0 (padded m))
