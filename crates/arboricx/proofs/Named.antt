-- What the words of an answer ask for: its slots are used ones, its index is a word.
use Rattle.std.specs.Prelude.{Result, Ok, Err}
use Prim.Native.Nat.{ℕ, ◌<◌, ◌^◌}
use mathlib.Core.Path.{◌≡◌, refl, sym}
use mathlib.Core.List.{List}
use native.Mathlib.Omega.{arith}
use lib.IntN.{ℤ}
use Rattle.bundle.specs.Exports.{index_call, index_numbers}
use Rattle.bundle.proofs.ExportsRead.{index_small}
use Rattle.engine.specs.Answer.{RunAnswer}
use Rattle.engine.specs.declared.From.{From}
use Rattle.engine.specs.Run.{ran, run_from}
use Rattle.engine.specs.Named.{RunSlotsUsed}
use Rattle.engine.proofs.Named.{slots_named_lem}
use Rattle.plain.specs.Answer.{PlainAnswer}
use Rattle.plain.specs.Run.{played, plain_run}
use Rattle.plain.specs.Named.{PlainSlotUsed}
use Rattle.plain.proofs.Named.{plain_slot_named}

-- of a run, from scratch or from a stop
pub run_named : (from : From) (w j : List ℕ) (base f x : ℤ) (used fuel : ℕ) {w' j' : List ℕ} {a : RunAnswer} →
    ran w' j' a ≡ run_from from w base f x used fuel j → RunSlotsUsed a
run_named from w j base f x used fuel e = slots_named_lem from w _ j _ base f x used fuel _ (sym e)

pub plain_named : (w : List ℕ) (base f x : ℤ) (used fuel places : ℕ) {w' : List ℕ} {a : PlainAnswer} →
    played w' a ≡ plain_run w base f x used fuel places → PlainSlotUsed a
plain_named w base f x used fuel places e = plain_slot_named w _ base f x used fuel places _ (sym e)

pub index_named : (file name : List ℕ) (a : Result ℕ ℕ) → a ≡ index_call file name → (index_numbers a).index < 2 ^ 32
index_named file name (Err n) e = omega arith
index_named file name (Ok i) e = omega (arith, index_small file name e refl)
