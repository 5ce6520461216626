-- The numbers of the stops: 31 to 33, each of one.
use Prim.Native.Nat.{◌≤◌}
use mathlib.Core.Path.{◌≡◌, refl}
use native.Mathlib.Omega.{arith}
use Rattle.stepping.specs.declared.stops.Stop.{Stop}
use Rattle.stepping.specs.Stops.{stops_with, StopsAre}

pub stops_are : StopsAre
stops_are = (refl, refl, refl)

pub stop_range : (s : Stop) → (31 ≤ stops_with s) × (stops_with s ≤ 33)
stop_range s = search arith

pub one_stop : (a b : Stop) → stops_with a ≡ stops_with b → a ≡ b
one_stop a b e = search arith
