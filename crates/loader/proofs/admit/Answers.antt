-- A refusal by 21 or 22, or the writing.
use mathlib.Core.Path.{refl}
use Rattle.refusals.proofs.Outcomes.{handed_on, number_some}
use Rattle.loader.proofs.Accepting.{admit_shape, admit_refused, admit_writable, admit_written}
use Rattle.loader.proofs.admit.Goals as goal

pub list_exports-asked-requires : goal.list_exports-asked-requires
list_exports-asked-requires c = admit_shape c.requires c.of-m.ensures c.of-s.ensures

pub returns-in_err-check_fit : goal.returns-in_err-check_fit
returns-in_err-check_fit c =
    rw (handed_on _ _ c.from_residual.ensures.1)
    (admit_refused c.requires c.of-m.ensures c.of-s.ensures _ _ c.list_exports-asked.ensures
    c.count.ensures c.room.ensures c.in_err-check_fit.ensures (number_some _))

pub write-requires : goal.write-requires
write-requires c =
    admit_writable c.requires c.of-m.ensures c.of-s.ensures _ _ c.list_exports-asked.ensures
    c.count.ensures c.room.ensures c.in_ok-check_fit.ensures refl

pub returns : goal.returns
returns c =
    admit_written c.requires c.of-m.ensures c.of-s.ensures _ _ c.list_exports-asked.ensures
    c.count.ensures c.room.ensures c.in_ok-check_fit.ensures refl c.write.ensures
