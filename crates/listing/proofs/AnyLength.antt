-- What is after the first byte too many makes no difference.
use Prim.Native.Nat.{ℕ, suc, ◌<◌}
use mathlib.Core.Path.{◌≡◌, sym, ap, ◌∙◌}
use mathlib.Core.List.{List}
use native.Mathlib.Omega.{arith}
use native.Mathlib.Decide.{dec_lt}
use lib.ListN.{length, take, length-take}
use lib.Seq.{take_all}
use borrow.Author.Tests.{lt-ltb}
use Rattle.sizes.specs.Sizes.{file_size}
use Rattle.container.specs.Header.{too_long}
use Rattle.bundle.specs.Checks.{name_checks, checks}
use Rattle.refusals.specs.Refusals.{answer}
use Rattle.container.specs.Checks.{header_checks, container_checks}
use Rattle.loader.specs.Load.{load_checks, load_refusal, load}
use Rattle.report.specs.Report.{refused_line, report}
use Rattle.listing.specs.Listing.{listing, AnyLength}

pub too_long_lem : (input : List ℕ) → file_size.most < length input → listing input ≡ refused_line 1
unfolding listing report load load_refusal load_checks checks name_checks container_checks header_checks answer too_long
too_long_lem input h = rw (lt-ltb file_size.most (length input) h)

pub any_length : AnyLength
any_length input =
    elim (dec_lt file_size.most (length input)) [
      | yes h ↦
          too_long_lem (take (suc file_size.most) input) (simp length-take (omega arith)) ∙ sym (too_long_lem input h)
      | no h ↦ ap listing (take_all (suc file_size.most) input (omega (arith, h)))
    ]
