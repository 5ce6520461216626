-- What the names in the answer of a plain run stand for; no two endings have the same numbers, so that the contract fixes the answer.
use mathlib.Core.Path.{◌≡◌, refl}
use Rattle.stepping.specs.Stops.{stops_with}
use Rattle.stepping.proofs.StopNumbers.{one_stop}
use Rattle.plain.specs.declared.PlainEnding.TheVariants.{Done, Stopped}
use Rattle.plain.specs.Told.{PlainTold, PlainToldOnce}

pub plain_told : PlainTold
plain_told = (λ slot steps used. refl, λ why steps used. refl, λ e. refl, λ r. refl)

pub plain_told_once : PlainToldOnce
plain_told_once (Done slot steps used) (Done slot' steps' used') e = cc e
plain_told_once (Done slot steps used) (Stopped why steps' used') e = absurd (cc e)
plain_told_once (Stopped why steps used) (Done slot steps' used') e = absurd (cc e)
plain_told_once (Stopped why steps used) (Stopped why' steps' used') e =
    let q : stops_with why ≡ stops_with why' = cc e in cc (e, one_stop why why' q)
