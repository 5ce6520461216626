-- What the names in the answer of a run stand for; no two endings have the same numbers, so that the contract fixes the answer.
use mathlib.Core.Path.{◌≡◌, refl}
use Rattle.stepping.specs.Stops.{stops_with}
use Rattle.stepping.proofs.StopNumbers.{one_stop}
use Rattle.engine.specs.declared.Ending.TheVariants.{Done, Stopped}
use Rattle.engine.specs.Told.{RunTold, RunToldOnce}

pub run_told : RunTold
run_told = (λ slot steps used. refl, λ why f x steps used waiting. refl, λ e. refl, λ r. refl)

pub run_told_once : RunToldOnce
run_told_once (Done slot steps used) (Done slot' steps' used') e = cc e
run_told_once (Done slot steps used) (Stopped why f x steps' used' waiting) e = absurd (cc e)
run_told_once (Stopped why f x steps used waiting) (Done slot steps' used') e = absurd (cc e)
run_told_once (Stopped why f x steps used waiting) (Stopped why' f' x' steps' used' waiting') e =
    let q : stops_with why ≡ stops_with why' = cc e in cc (e, one_stop why why' q)
