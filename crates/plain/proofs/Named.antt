-- The slot that the plain engine answers is a used one.
use Prim.Native.Nat.{ℕ}
use mathlib.Core.Path.{refl, subst}
use mathlib.Core.List.{List}
use native.Mathlib.Omega.{arith}
use lib.IntN.{ℤ}
use lib.ListN.{take, drop}
use Rattle.refusals.proofs.Choice.{by_answer}
use Rattle.table.specs.Slots.{named_slot}
use Rattle.table.proofs.BaseLaws.{by_base}
use Rattle.table.proofs.SlotLaws.{room_most}
use Rattle.engine.specs.declared.From.TheVariants.{Scratch}
use Rattle.engine.proofs.AdmissionLaws.{clear_ready}
use Rattle.applying.specs.declared.Progress.{Progress}
use Rattle.applying.specs.Apply.{Came, came, apply}
use Rattle.applying.proofs.Keeps.{Keeps, apply_keeps}
use Rattle.std.specs.Prelude.{Ok, Err}
use Rattle.plain.specs.Run.{Played, played, answered, plain_rows, plain_tail, played_with, plain_run}
use Rattle.plain.specs.Named.{PlainSlotUsed, PlainSlotNamed}
use Rattle.plain.proofs.CallWays.{plain_numbered, plain_slots}

abbrev Names : Played → Type 0
Names (played w a) = PlainSlotUsed a

answered_named : (fuel used : ℕ) (c : Came) → Keeps used c → Names (answered fuel c)
answered_named fuel used (came w (Ok (t, p))) k = (omega (arith, k.slots.fits, room_most w), (_, refl, k.slot))
answered_named fuel used (came w (Err h)) k = tt

tail_named : (w : List ℕ) (f x : ℤ) (used fuel places : ℕ) → Names (plain_tail w f x used fuel places)
unfolding plain_tail
tail_named w f x used fuel places =
    by_answer (λ n. played w (Err n)) _ Names (plain_rows w f x used fuel places) (plain_numbered w f x used fuel places) (λ n _ _. tt)
    (λ clear.
    let p : Progress = record { left = fuel; used = used } in
    let ready = clear_ready w f x used (plain_slots w f x used fuel places clear) Scratch in
    answered_named fuel used (apply fuel places 0 w (named_slot f) (named_slot x) p)
    (apply_keeps fuel places 0 w (named_slot f) (named_slot x) p ready.slots ready.f ready.x))

after_named : (before : List ℕ) (r : Played) → Names r → Names (played_with before r)
after_named before (played w a) n = n

run_named : (w : List ℕ) (base f x : ℤ) (used fuel places : ℕ) → Names (plain_run w base f x used fuel places)
unfolding plain_run
run_named w base f x used fuel places =
    by_base w _ _ (λ _ r. Names r) (λ b. tt) (λ b _. tt)
    (λ b _. after_named (take b w) (plain_tail (drop b w) f x used fuel places) (tail_named (drop b w) f x used fuel places)) base

pub plain_slot_named : PlainSlotNamed
plain_slot_named w v base f x used fuel places a e = subst Names e (run_named w base f x used fuel places)
