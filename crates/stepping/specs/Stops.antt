-- The numbers of the stops in document 01's list.
use Rattle.std.specs.Prelude.{ℕ, ◌≡◌}
use Rattle.stepping.specs.declared.stops.Stop.{Stop}
use Rattle.stepping.specs.declared.stops.Stop.TheVariants.{OutOfFuel, OutOfSlots, OutOfPlaces}

-- no fuel is left / the next step makes a node, and no slot is left / the next step adds a job, and no place is left
abbrev pub stops_with : Stop → ℕ
stops_with OutOfFuel = 31
stops_with OutOfSlots = 32
stops_with OutOfPlaces = 33

-- each has its number, whatever computes it
abbrev pub StopsAre : Type 0
StopsAre = (stops_with OutOfFuel ≡ 31) × (stops_with OutOfSlots ≡ 32) × (stops_with OutOfPlaces ≡ 33)
