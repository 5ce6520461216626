-- The lines of the first i exports are put.
use mathlib.Core.Path.{◌≡◌}
use lib.ListN.{length, take}
use Rattle.manifest.specs.Content.{names}
use Rattle.loader.specs.Load.{exports_in}
use Rattle.text.specs.Put.{Put}
use Rattle.report.specs.Report.{lines}
use Rattle.report.proofs.put_lines.Given as goal

abbrev pub invariant-loop-i : goal.invariant-loop-i
invariant-loop-i l =
    (length l.out ≡ length l.initial.out) × Put (lines (take l.i l.slots) (names (exports_in l.input))) l.initial.out l.at l.out l.p
