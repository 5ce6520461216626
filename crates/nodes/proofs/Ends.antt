-- An end that is there comes of what was tested.
use Rattle.std.specs.Prelude.{Option, Some, None}
use Rattle.std.proofs.lemmas.Option.{none-some}
use mathlib.Core.Path.{◌≡◌, refl}
use mathlib.Core.Bool.{Bool, true, false, cond}

pub of_test : {A : Type 0} (b : Bool) {p : Option A} {e : A} → cond b p None ≡ Some e → (b ≡ true) × (p ≡ Some e)
of_test true g = (refl, g)
of_test false {e = e} g = absurd (none-some e g)
