-- The words that C gets of each answer, in the order of include/arboricx.h; and the version that these calls are of.
use Rattle.std.specs.Prelude.{ℕ, suc, ◌-◌, ◌^◌, List, [], ◌∷◌, ℤ, pos, negsuc, Result, Ok, Err}
use Rattle.loader.specs.declared.Accepted.{Accepted}
use Rattle.loader.specs.Answer as load
use Rattle.engine.specs.declared.Ending.TheVariants.{Done, Stopped}
use Rattle.engine.specs.Answer.{RunAnswer}
use Rattle.plain.specs.declared.PlainEnding.TheVariants as plain
use Rattle.plain.specs.Answer.{PlainAnswer}
use Rattle.wire.specs.declared.Part.{Part}
use Rattle.bundle.specs.Exports as exports

-- major, minor and patch, two digits each: this is 1.0.0
abbrev pub version : ℕ
version = 10000

-- number, node count, export count
abbrev pub load_words : Result Accepted ℕ → List ℕ
load_words a = (load.load_numbers a).number ∷ (load.load_numbers a).nodes ∷ (load.load_numbers a).exports ∷ []

-- a slot as the word that C reads; none that is answered is negative (SlotsNamed of engine, PlainSlotNamed of plain)
abbrev pub slot_word : ℤ → ℕ
slot_word (pos i) = i
slot_word (negsuc i) = 2 ^ 32 - suc i

-- number; result slot or f; x; steps; used count; jobs waiting
abbrev pub run_words : RunAnswer → List ℕ
run_words (Err n) = n ∷ 0 ∷ 0 ∷ 0 ∷ 0 ∷ 0 ∷ []
run_words (Ok (Done slot steps used)) = 0 ∷ slot_word slot ∷ 0 ∷ steps ∷ used ∷ 0 ∷ []
run_words (Ok (Stopped n f x steps used waiting)) = n ∷ slot_word f ∷ slot_word x ∷ steps ∷ used ∷ waiting ∷ []

-- number; result slot; steps; used count
abbrev pub plain_words : PlainAnswer → List ℕ
plain_words (Err n) = n ∷ 0 ∷ 0 ∷ 0 ∷ []
plain_words (Ok (plain.Done slot steps used)) = 0 ∷ slot_word slot ∷ steps ∷ used ∷ []
plain_words (Ok (plain.Stopped n steps used)) = n ∷ 0 ∷ steps ∷ used ∷ []

-- number, index
abbrev pub index_words : Result ℕ ℕ → List ℕ
index_words a = (exports.index_numbers a).number ∷ (exports.index_numbers a).index ∷ []

-- start, length
abbrev pub part_words : Part → List ℕ
part_words p = p.start ∷ p.size ∷ []
