-- Slot zero is the leaf after every run that was let start: a run starts on sound used slots, and leaves them so.
use Prim.Native.Nat.{ℕ, ◌≤◌}
use mathlib.Core.Path.{◌≡◌}
use mathlib.Core.Bool.{true}
use mathlib.Core.List.{List}
use native.Mathlib.Omega.{arith}
use lib.IntN.{ℤ}
use Rattle.calculus.specs.Tree.{leaf}
use Rattle.calculus.specs.Machine.{Outcome}
use Rattle.table.specs.Slots.{room}
use Rattle.table.specs.Holds.{Holds, holds_leaf}
use Rattle.engine.specs.Run.{ran, run_from}
use Rattle.engine.specs.declared.From.{From}
use Rattle.engine.specs.Answer.{RunAnswer, RunNumbers, run_numbers}
use Rattle.guarantees.specs.Agrees.{Agrees, agrees_done, agrees_stop}
use Rattle.guarantees.specs.Run.{started}
use Rattle.guarantees.specs.Demands.{ZeroIsLeaf}
use Rattle.guarantees.proofs.Begins.{begun}

-- a used slot that holds the leaf is one of the room
pub leaf_in : {w : List ℕ} {n m i : ℕ} → n ≤ m → Holds w n i leaf → Holds w m i leaf
leaf_in {i = i} l (holds_leaf h e) = holds_leaf {i = i} (omega arith) e

agrees_zero : {w j v k : List ℕ} {n : ℕ} {a : RunNumbers} {o : Outcome} → Agrees w n j v k a o → Holds v (room v) 0 leaf
agrees_zero (agrees_done h l) = leaf_in l.slots.fits l.zero
agrees_zero (agrees_stop f x s l) = leaf_in l.slots.fits l.zero

pub run_zero : (from : From) (words words' jobs jobs' : List ℕ) (base f x : ℤ) (used fuel : ℕ) (a : RunAnswer) →
    run_from from words base f x used fuel jobs ≡ ran words' jobs' a → started (run_numbers a).number ≡ true → ZeroIsLeaf base words'
run_zero from w v j k base f x used fuel a e s =
    let (b, agrees) = begun from w v j k base f x used fuel a s e in
    (b.at, b.base_is, agrees_zero agrees)
