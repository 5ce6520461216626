-- All words are 0 just where no bit is set in them together.
use mathlib.Core.Path.{◌≡◌, sym, ap, ◌∙◌}
use mathlib.Core.List.{List}
use Prim.Native.Nat.{ℕ}
use native.Mathlib.Omega.{arith}
use lib.Bits.{bit_or}
use lib.ListN.{drop_of_length-le}
use Rattle.std.specs.List.{fold}
use Rattle.frames.proofs.FramesTest.{none_set_in}
use Rattle.frames.proofs.all_zero.Goals as goal

pub returns : goal.returns
returns c =
    let words = c.args.words.now in
    let turn = c.loop-word in
    let none_left = drop_of_length-le words {i = turn.word-index} (omega arith) in
    let e : turn.bits ≡ fold bit_or 0 words =
    sym (ap (λ (l : List ℕ). fold bit_or turn.bits l) none_left) ∙ turn.invariant in
    rw e (none_set_in words 0)
