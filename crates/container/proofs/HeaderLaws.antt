-- What it says that 1 to 5 do not hold.
use Prim.Native.Nat.{ℕ, ◌+◌, ◌*◌, ◌≤◌}
use mathlib.Core.Path.{◌≡◌}
use mathlib.Core.List.{List}
use mathlib.Core.Bool.{false}
use mathlib.Core.Logic.{◌↔◌}
use native.Mathlib.Omega.{arith}
use lib.ListN.{length, take}
use Rattle.wire.specs.Wire.{ascii}
use Rattle.wire.proofs.Bytes.{holds_exactly}
use Rattle.sizes.specs.Sizes.{file_size, sections_size}
use Rattle.sizes.proofs.Within.{within_exactly}
use Rattle.lists.proofs.Some.{any_none, any_more}
use Rattle.lists.proofs.Tests.{below_exactly, equal_exactly, not_exactly}
use Rattle.container.specs.Header.{header_bytes, entry_bytes, section_count, directory_offset}
use Rattle.container.specs.Header.{too_long, too_short, other_magic, no_directory}

module _ (file : List ℕ) where
  pub most_exactly : (too_long file ≡ false) ↔ (length file ≤ file_size.most)
  unfolding too_long
  most_exactly = below_exactly file_size.most (length file)

  pub least_exactly : (too_short file ≡ false) ↔ (file_size.least ≤ length file)
  unfolding too_short
  least_exactly = below_exactly (length file) file_size.least

  module _ (long : file_size.least ≤ length file) where
    pub magic_exactly : (other_magic file ≡ false) ↔ (take 8 file ≡ ascii "ARBORICX")
    unfolding other_magic
    magic_exactly =
        let means = not_exactly _ (holds_exactly file 0 (ascii "ARBORICX")) in
        (λ e. (means.0 e).1, λ h. means.1 (omega arith, h))

  pub directory_exactly : (no_directory file ≡ false) ↔
      ((sections_size.least ≤ section_count file) × (section_count file ≤ sections_size.most) ×
      (directory_offset file ≡ header_bytes) × (header_bytes + entry_bytes * section_count file ≤ length file))
  unfolding no_directory
  directory_exactly =
      let tests =
      any_more _ (not_exactly _ (within_exactly sections_size (section_count file)))
      (any_more _ (not_exactly _ (equal_exactly (directory_offset file) header_bytes))
      (any_more _ (below_exactly (length file) (header_bytes + entry_bytes * section_count file)) any_none)) in
      (λ e. let ((l, m), (o, (i, _))) = tests.0 e in (l, m, o, i), λ h. tests.1 ((h.0, h.1), (h.2, (h.3, tt))))
