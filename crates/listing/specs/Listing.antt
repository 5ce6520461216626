-- What document 01's program writes for its standard input.
use Rattle.std.specs.Prelude.{ℕ, suc, ◌*◌, ◌≡◌, List, take, replicate, pos}
use Rattle.sizes.specs.Sizes.{file_size, exports_size, nodes_size}
use Rattle.table.specs.Slots.{width}
use Rattle.manifest.specs.Content.{names}
use Rattle.loader.specs.Load.{exports_in, load}
use Rattle.report.specs.Report.{report}

-- the input is loaded at base 0 into tables with room for 512 nodes and 32 exports
unfoldable pub listing : List ℕ → List ℕ
listing input =
    report (load input (replicate (width * nodes_size.most) 0) (pos 0) (replicate exports_size.most 0))
    (names (exports_in input))

-- A file over 65,536 bytes is refused with 1, whatever its bytes. So one byte more than the largest bundle is enough of any
-- standard input.
abbrev pub AnyLength : Type 0
AnyLength = (input : List ℕ) → listing (take (suc file_size.most) input) ≡ listing input
