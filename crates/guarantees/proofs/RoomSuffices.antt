-- How large the tables have to be: what bounds the reference machine bounds the run.
use Prim.Native.Nat.{ℕ, ◌+◌, ◌-◌, ◌≤◌}
use mathlib.Core.Path.{◌≡◌, refl, sym, ap, ◌∙◌}
use mathlib.Core.List.{List, reverse}
use native.Mathlib.Omega.{arith}
use lib.ListN.{length, drop, length-reverse}
use lib.IntN.{pos}
use Rattle.calculus.specs.Tree.{Tree}
use Rattle.calculus.specs.Rules.{TreeFrame}
use Rattle.calculus.specs.Machine.{Stop, out_of_slots, out_of_places, stop_number, stopped, Outcome}
use Rattle.calculus.proofs.Stops.{stop_above, one_reason}
use Rattle.calculus.proofs.AllowanceBounds.{allowance_bounds}
use Rattle.table.specs.Slots.{room}
use Rattle.frames.specs.Frames.{frame_room}
use Rattle.engine.specs.declared.From.{From}
use Rattle.engine.specs.declared.From.TheVariants as from
use Rattle.engine.specs.Answer.{RunNumbers}
use Rattle.guarantees.specs.Agrees.{Agrees, agrees_done, agrees_stop}
use Rattle.guarantees.specs.Run.{Waiting, waiting_before, RoomSuffices}
use Rattle.guarantees.proofs.Begins.{begun}

-- a run that answers a stop's number has stopped for its reason
stops_for : {w j v k : List ℕ} {n : ℕ} {a : RunNumbers} {o : Outcome} (why : Stop) → Agrees w n j v k a o → a.number ≡ stop_number why
    → (f : Tree) × (x : Tree) × (js : List TreeFrame) × (o.ending ≡ stopped why f x js)
stops_for why (agrees_done h l) e = absurd (stop_above why (sym e))
stops_for why (agrees_stop {why = other} {ft = ft} {xt = xt} {frames = js} f x s l) e =
    (ft, xt, js, ap (λ (r : Stop). stopped r ft xt js) (one_reason other why e))

-- as many frames wait as jobs
waits_before : (from : From) (w j : List ℕ) (used : ℕ) (frames : List TreeFrame) → Waiting from w used j frames → length frames ≡ waiting_before from
waits_before from.Scratch w j used frames h = ap length h
waits_before (from.Stop waiting steps) w j used frames h = h.1

-- how many slots and jobs there are in the end
agrees_few : (fuel waiting : ℕ) {w j v k : List ℕ} {n : ℕ} {a : RunNumbers} {o : Outcome} → Agrees w n j v k a o → length o.made ≤ fuel
    → ((why : Stop) (f x : Tree) (js : List TreeFrame) → o.ending ≡ stopped why f x js → length js ≤ waiting + fuel)
    → (a.used ≤ n + fuel) × (a.waiting ≤ waiting + fuel)
agrees_few fuel waiting (agrees_done h l) nodes wait = (omega (arith, nodes), omega arith)
agrees_few fuel waiting (agrees_stop {why = why} {ft = ft} {xt = xt} {frames = js} f x s l) nodes wait =
    (omega (arith, nodes), wait why ft xt js refl)

pub room_suffices : RoomSuffices
room_suffices from w v j k b f x used fuel a e goes =
    let (s, agrees) = begun from w v j k (pos b) f x used fuel a goes e in
    let at_base : b ≡ s.at = cc in
    let (nodes, wait, slots, places) = allowance_bounds fuel (room (drop s.at w) - used) (frame_room j) _ in
    let long : length (reverse s.frames) ≡ waiting_before from
    = length-reverse s.frames ∙ waits_before from _ j used s.frames s.waits
    in
    let (few, jobs) = agrees_few fuel (waiting_before from) agrees nodes (λ why ft xt js q. rw long at (wait why ft xt js q)) in (
      few,
      jobs,
      λ n. (let (ft, xt, js, ends) = stops_for out_of_slots agrees n in rw at_base (omega (arith, slots ft xt js ends))),
      λ n. (let (ft, xt, js, ends) = stops_for out_of_places agrees n in omega (arith, places ft xt js ends, long)),
    )
