-- The cases of finish: the count of bits fits after what is buffered, or takes a block of its own.
use Rattle.std.proofs.Common.{◌≡◌, ℕ, ◌+◌, ◌-◌, ◌*◌, ◌%◌, ◌^◌, ◌<◌, ◌≤◌, List, [], ◌∷◌, ◌++◌, length, take, drop, replicate, sym, refl, ap, ◌∙◌, append_assoc, append-nil, arith, drop_of_length-le, drop-drop, length-append, length-take}
use lib.ListN.{replicate-append-replicate}
use borrow.Rule.Slice.PartMut.{put_mid}
use lib.Seq.{append_snoc}
use Rattle.sha256.specs.declared.Running.{Running}
use Rattle.sha256_block.specs.Fips180.{zeros, length_bytes, padding, compress, hash_all, bytes_of}
use Rattle.sha256.specs.Running.{pending, in_block, finished_hash}
use Rattle.sha256_block.proofs.Blocks.{hash_first, hash_one}
use Rattle.sha256.proofs.Filling.{block_length, take_block}
use Rattle.sha256_block.proofs.Padding.{length_of_length}

-- what is buffered, with the first byte of padding after it
abbrev begun : Running → List ℕ
begun s = take (s.total % 64) s.block ++ (0x80 ∷ [])

-- the count of bits
abbrev size : Running → List ℕ
size s = length_bytes (s.total * 8 % 2 ^ 64)

-- bytes that are written over the end of a block
put_last : (xs ys : List ℕ) → length xs ≡ 64 → put_mid 56 8 xs ys ≡ take 56 xs ++ ys
put_last xs ys l =
    let z : drop 64 xs ≡ [] = drop_of_length-le xs {i = 64} (omega arith) in
    ap (λ (zs : List ℕ). take 56 xs ++ (ys ++ zs)) (drop-drop 8 56 xs ∙ z) ∙ rw append-nil

module _ (s : Running) (l : length s.block ≡ 64) where
  begun_length : length (begun s) ≡ s.total % 64 + 1
  begun_length = simp (length-append, length-take) (omega arith)

  message : pending s ++ padding s.total ≡ begun s ++ (replicate (zeros s.total) 0 ++ size s)
  unfolding pending padding
  message = sym (append_snoc (take (s.total % 64) s.block) 0x80 _)

  one_block : s.total % 64 < 56 → finished_hash s ≡ bytes_of (compress s.h (put_mid 56 8 (in_block (begun s)) (size s)))
  unfolding finished_hash
  one_block h =
      let b : List ℕ = in_block (begun s) in
      let n : zeros s.total ≡ 56 - length (begun s) = omega (arith, begun_length) in
      let y : length b ≡ 64 = block_length (begun s) (omega (arith, begun_length)) in
      let t : take 56 b ≡ begun s ++ replicate (56 - length (begun s)) 0
      = take_block (begun s) 56 (omega (arith, begun_length)) (omega arith)
      in
      let last : List ℕ = take 56 b ++ size s in
      let m : pending s ++ padding s.total ≡ last
      = message ∙ rw (n, t) (sym (append_assoc (begun s) (replicate (56 - length (begun s)) 0) (size s)))
      in
      let z : length last ≡ 64
      = simp (length-append, length-take) (omega (arith, y, length_of_length (s.total * 8 % 2 ^ 64)))
      in
      ap bytes_of (ap (hash_all s.h) m ∙ hash_one s.h last z ∙ ap (compress s.h) (sym (put_last b (size s) y)))

  two_blocks : 56 ≤ s.total % 64
      → finished_hash s ≡ bytes_of (compress (compress s.h (in_block (begun s))) (put_mid 56 8 (replicate 64 0) (size s)))
  unfolding finished_hash in_block
  two_blocks h =
      let b : List ℕ = in_block (begun s) in
      let g : ℕ = 64 - length (begun s) in
      let n : zeros s.total ≡ g + 56 = omega (arith, begun_length) in
      let y : length b ≡ 64 = block_length (begun s) (omega (arith, begun_length)) in
      let last : List ℕ = replicate 56 0 ++ size s in
      let m : pending s ++ padding s.total ≡ b ++ last
      = message
      ∙ rw (n, ← replicate-append-replicate {A = ℕ} g 56 0)
      (cc (
        append_assoc (replicate g 0) (replicate 56 0) (size s),
        append_assoc (begun s) (replicate g 0) (replicate 56 0 ++ size s),
      ))
      in
      let z : length last ≡ 64 = omega (arith, length_of_length (s.total * 8 % 2 ^ 64)) in
      ap bytes_of
      (ap (hash_all s.h) m
      ∙ hash_first s.h b last y
      ∙ hash_one (compress s.h b) last z
      ∙ ap (compress (compress s.h b)) (sym (put_last (replicate 64 0) (size s) refl)))

  -- the last block, the hash value before it, the count of bits, and the hash value after it
  module _ (last h bits v r : List ℕ) (a : bits ≡ size s) (b : v ≡ compress h (put_mid 56 8 last bits)) (c : r ≡ bytes_of v) where
    pub finish_one : s.total % 64 < 56 → last ≡ in_block (begun s) → h ≡ s.h → r ≡ finished_hash s
    finish_one k d e = cc (one_block k)

    pub finish_two : (first : List ℕ) → 56 ≤ s.total % 64 → first ≡ in_block (begun s) → last ≡ replicate 64 0 → h ≡ compress s.h first
        → r ≡ finished_hash s
    finish_two first k f d e = cc (two_blocks k)
