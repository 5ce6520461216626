-- What the load answers says which text is put.
use mathlib.Core.Path.{ap}
use native.Mathlib.Omega.{arith}
use Rattle.refusals.specs.Numbers.{by_number}
use Rattle.text.proofs.Putting.{at_start}
use Rattle.report.proofs.Lines.{refused_fits}
use Rattle.listing.proofs.Loads.{listing_refused, listing_accepted, accepted_exported}
use Rattle.listing.proofs.list.Goals as goal

pub put_accepted-requires : goal.put_accepted-requires
put_accepted-requires c =
    (accepted_exported _ c.load.ensures (ap by_number c.in-Ok.is) c.load.auto.exports, omega arith)

pub returns-in-Ok : goal.returns-in-Ok
returns-in-Ok c = rw (listing_accepted _ c.load.ensures (ap by_number c.in-Ok.is)) (at_start c.put_accepted.ensures)

pub put_refused-requires : goal.put_refused-requires
put_refused-requires c = refused_fits _ _ (omega arith)

pub returns-in-Err : goal.returns-in-Err
returns-in-Err c =
    rw (listing_refused _ c.load.ensures (ap by_number c.in-Err.is)) (at_start (rw c.from.ensures at c.put_refused.ensures))
