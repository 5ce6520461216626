-- Each read by its definition, the last one first; a place in the entry is that place after its start in the file.
use native.Mathlib.Nat.{add-zero}
use native.Mathlib.Omega.{arith}
use Rattle.container.specs.Directory.{entry_at}
use Rattle.container.proofs.Entries.{entry_number}
use Rattle.container.proofs.directory.entry_at.Goals as goal

pub returns : goal.returns
unfolding entry_at
returns c =
    let offset = c in
    let algorithm = offset in
    let compression = algorithm in
    let flags = compression in
    let kind = flags in
    let start = kind in
    let number = entry_number start.args.file.now start.args.at start.requires in
    rw (
      c.or_zero-6.ensures,
      c.number_at-6.ensures.value,
      number 20 8 (omega arith),
      offset.or_zero-5.ensures,
      offset.number_at-5.ensures.value,
      number 12 8 (omega arith),
      algorithm.or_zero-4.ensures,
      algorithm.number_at-4.ensures.value,
      number 10 2 (omega arith),
      compression.or_zero-3.ensures,
      compression.number_at-3.ensures.value,
      number 8 2 (omega arith),
      flags.or_zero-2.ensures,
      flags.number_at-2.ensures.value,
      number 6 2 (omega arith),
      kind.or_zero.ensures,
      kind.number_at.ensures.value,
      number 0 4 (omega arith),
      add-zero,
    )
