-- A call that is the run call's twin: what is shown of it is what is shown of a run with a job table of that room.
use Prim.Native.Nat.{ℕ, ◌*◌, ◌≤◌}
use mathlib.Core.Path.{◌≡◌}
use mathlib.Core.List.{List}
use mathlib.Core.Logic.{◌⊎◌, inl, inr, ⊎_elim}
use native.Mathlib.Omega.{arith}
use native.Mathlib.Decide.{dec_lt}
use lib.ListN.{length, replicate, length-replicate}
use lib.IntN.{ℤ}
use Rattle.frames.specs.Frames.{frame_room}
use Rattle.frames.proofs.FrameLaws.{job_room_is}
use Rattle.engine.specs.declared.From.TheVariants.{Scratch}
use Rattle.engine.specs.Run.{run_from}
use Rattle.plain.specs.Meaning.{PlainCall, shown, of_run, PlainIsRun}
use Rattle.guarantees.specs.Plain.{TooDeep}

-- a job table of any room up to 1,000
abbrev pub lent : ℕ → List ℕ
lent places = replicate (3 * places) 0

pub lent_room : (places : ℕ) → places ≤ 1000 → frame_room (lent places) ≡ places
lent_room places h =
    let (below, most, exact) = job_room_is (lent places) in
    let long : length (lent places) ≡ 3 * places = length-replicate (3 * places) 0 in
    ⊎_elim (λ g. absurd (omega arith)) (λ g. omega arith) exact

-- too deep, or within 1,000
pub deep_or_not : (fuel places : ℕ) → TooDeep fuel places ⊎ ((fuel ≤ 1000) × (places ≤ 1000))
deep_or_not fuel places =
    elim (dec_lt 1000 fuel) [
      | yes h ↦ inl (inl h)
      | no h ↦
          elim (dec_lt 1000 places) [
            | yes g ↦ inl (inr g)
            | no g ↦ inr (omega (arith, h), omega (arith, g))
          ]
    ]

pub twin : (call : PlainCall) → PlainIsRun call → (w : List ℕ) (base f x : ℤ) (used fuel places : ℕ) → fuel ≤ 1000 → places ≤ 1000 →
    shown (call w base f x used fuel places) ≡ of_run (run_from Scratch w base f x used fuel (lent places))
twin call same w base f x used fuel places low few =
    let e = lent_room places few in
    rw e at (same w (lent places) base f x used fuel low (rw e few))
