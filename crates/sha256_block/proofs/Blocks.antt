-- The whole blocks of a message, one after the other.
use Rattle.std.proofs.Common.{◌≡◌, ℕ, zero, suc, ◌+◌, ◌*◌, ◌/◌, ◌<◌, ◌≤◌, List, [], ◌++◌, length, take, drop, sym, refl, ap, ◌∙◌, append-nil, suc-add, zero-add, arith, length-append, length-drop, drop_of_length-le, take_all, drop-drop}
use lib.Seq.{take-append-le, drop-append-le}
use Rattle.sha256_block.specs.Fips180.{compress, hash, hash_all}

-- whole blocks do not look past themselves
pub hash_prefix : (n : ℕ) (v m ys : List ℕ) → n * 64 ≤ length m → hash n v (m ++ ys) ≡ hash n v m
unfolding hash
hash_prefix zero v m ys h = refl
hash_prefix (suc n) v m ys h =
    let l : 64 ≤ length m = omega arith in
    rw (take-append-le 64 m ys l, drop-append-le 64 m ys l)
    (hash_prefix n (compress v (take 64 m)) (drop 64 m) ys (simp length-drop (omega arith)))

-- a blocks and then b more
pub hash_add : (a b : ℕ) (v m : List ℕ) → hash (a + b) v m ≡ hash b (hash a v m) (drop (a * 64) m)
unfolding hash
hash_add zero b v m = rw (zero-add b)
hash_add (suc a) b v m =
    let e : suc a * 64 ≡ 64 + a * 64 = omega arith in
    rw (suc-add a b, e, ← drop-drop (a * 64) 64 m) (hash_add a b (compress v (take 64 m)) (drop 64 m))

-- q blocks of xs are hashed before the rest of xs and ys
module _ (q : ℕ) (v xs ys : List ℕ) (h : q * 64 ≤ length xs) where
  pub rest_append : drop (q * 64) xs ++ ys ≡ drop (q * 64) (xs ++ ys)
  rest_append = sym (drop-append-le (q * 64) xs ys h)

  pub rest_count : length (xs ++ ys) / 64 ≡ q + length (drop (q * 64) xs ++ ys) / 64
  rest_count = simp (length-append, length-drop) (omega arith)

  pub hash_split : hash_all (hash q v xs) (drop (q * 64) xs ++ ys) ≡ hash_all v (xs ++ ys)
  hash_split =
      let n : ℕ = length (drop (q * 64) xs ++ ys) / 64 in
      cc (rest_count, rest_append, hash_add q n v (xs ++ ys), hash_prefix q v xs ys h)

-- a block before the rest
module _ (v b d : List ℕ) (l : length b ≡ 64) where
  pub block_hash : hash 1 v b ≡ compress v b
  unfolding hash
  block_hash = ap (compress v) (take_all 64 b (omega arith))

  pub block_rest : drop (1 * 64) b ++ d ≡ d
  block_rest = rw (drop_of_length-le b {i = 64} (omega arith))

  pub hash_first : hash_all v (b ++ d) ≡ hash_all (compress v b) d
  hash_first = cc (hash_split 1 v b d (omega arith), block_hash, block_rest)

pub hash_one : (v b : List ℕ) → length b ≡ 64 → hash_all v b ≡ compress v b
unfolding hash
hash_one v b l = ap (hash_all v) (sym (append-nil b)) ∙ hash_first v b [] l

-- less than a block
pub hash_none : (v m : List ℕ) → length m < 64 → hash_all v m ≡ v
unfolding hash
hash_none v m h =
    let z : length m / 64 ≡ 0 = omega arith in
    rw z
