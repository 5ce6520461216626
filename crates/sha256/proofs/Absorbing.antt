-- The cases of absorb: the part does not fill the block, or it does, or nothing is buffered.
use Rattle.std.proofs.Common.{◌≡◌, ℕ, ◌+◌, ◌-◌, ◌*◌, ◌/◌, ◌%◌, ◌^◌, ◌<◌, ◌≤◌, List, ◌++◌, length, take, drop, ap, append_assoc, arith, length-append, take-append-drop, length-take}
use Rattle.sha256.specs.declared.Running.{Running}
use Rattle.sha256_block.specs.Fips180.{compress, hash}
use Rattle.sha256.specs.Running.{pending, in_block, buffered, absorbed}
use Rattle.sha256.proofs.Filling.{block_full}
use Rattle.sha256.proofs.Buffering.{buffered_first}

module _ (s : Running) (part : List ℕ) where
  pub absorbed_within : length s.block ≡ 64 → length part < 64 - s.total % 64
      → absorbed s part
      ≡ record { h = s.h; block = in_block (take (s.total % 64) s.block ++ part); total = (s.total + length part) % 2 ^ 64 }
  unfolding absorbed buffered pending hash
  absorbed_within l h =
      let m : List ℕ = take (s.total % 64) s.block ++ part in
      let n : length m ≡ s.total % 64 + length part = simp (length-append, length-take) (omega arith) in
      let z : length m / 64 ≡ 0 = omega arith in
      ap (λ (k : ℕ). record { h = hash k s.h m; block = in_block (drop (k * 64) m); total = (s.total + length part) % 2 ^ 64 }) z

  pub absorbed_across : length s.block ≡ 64 → 64 - s.total % 64 ≤ length part
      → absorbed s part
      ≡ buffered (compress s.h (in_block (take (s.total % 64) s.block ++ take (64 - s.total % 64) part))) (drop (64 - s.total % 64) part) ((s.total + length part) % 2 ^ 64)
  unfolding absorbed pending
  absorbed_across l h =
      let p : List ℕ = take (s.total % 64) s.block in
      let need : ℕ = 64 - s.total % 64 in
      let n : length (p ++ take need part) ≡ 64 = simp (length-append, length-take) (omega arith) in
      cc (
        block_full (p ++ take need part) n,
        buffered_first s.h (p ++ take need part) (drop need part) n ((s.total + length part) % 2 ^ 64),
        append_assoc p (take need part) (drop need part),
        take-append-drop need part,
      )

  pub absorbed_aligned : s.total % 64 ≡ 0 → absorbed s part ≡ buffered s.h part ((s.total + length part) % 2 ^ 64)
  unfolding absorbed pending
  absorbed_aligned z = rw z

pub ruleset absorbing = (absorbed_within, absorbed_across, absorbed_aligned)
