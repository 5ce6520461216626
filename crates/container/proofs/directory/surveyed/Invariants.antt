-- What is found so far is what is to be found of the entries from i on.
use Prim.Native.Nat.{◌+◌, ◌*◌, ◌≤◌}
use mathlib.Core.Path.{◌≡◌}
use lib.ListN.{length}
use Rattle.container.specs.Header.{header_bytes, entry_bytes, section_count}
use Rattle.container.specs.Survey.{surveyed}
use Rattle.container.proofs.Surveys.{entries_after}
use Rattle.container.proofs.directory.surveyed.Given as goal

abbrev pub invariant-loop-i : goal.invariant-loop-i
invariant-loop-i l =
    (l.i ≤ section_count l.file)
    × (header_bytes + entry_bytes * section_count l.file ≤ length l.file)
    × (l.s ≡ surveyed l.file (entries_after l.file (section_count l.file) l.i))
