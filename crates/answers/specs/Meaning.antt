-- What C gets of each answer: document 01's numbers. The proofs are in proofs/Meaning.antt.
use Rattle.std.specs.Prelude.{ℕ, ◌+◌, ◌≡◌, List, [], ◌∷◌, pos, Ok, Err}
use Rattle.loader.specs.Accepted.{accepted}
use Rattle.loader.specs.Load.{loaded}
use Rattle.engine.specs.Answer.{RunAnswer, run_numbers}
use Rattle.engine.specs.Run.{ran}
use Rattle.plain.specs.declared.PlainEnding.TheVariants.{Done, Stopped}
use Rattle.plain.specs.Answer.{PlainAnswer}
use Rattle.plain.specs.Answer as plain
use Rattle.plain.specs.Run.{played}
use Rattle.answers.specs.Words.{slot_word, part_words}
use Rattle.answers.specs.Calls.{left, after_load, after_run, left_one, after_plain, told, after_index}

-- Of a load: both tables as it leaves them; a refusal's number and zeros, or 0, the node count and the export count; the number.
abbrev pub LoadWordsAre : Type 0
LoadWordsAre =
    (w e : List ℕ) →
    ((n : ℕ) → after_load (loaded w e (Err n)) ≡ left w e (n ∷ 0 ∷ 0 ∷ []) n) ×
    ((nodes exports : ℕ) → after_load (loaded w e (accepted nodes exports)) ≡ left w e (0 ∷ nodes ∷ exports ∷ []) 0)

-- Of a run or a carry-on: both tables as it leaves them; its numbers, where a result and an f share a word, since a done run has no f, a stopped
-- one no result, and numbers not named are 0; the number. A slot is its own word; none that is answered is negative (SlotsNamed of engine).
abbrev pub RunWordsAre : Type 0
RunWordsAre =
    ((i : ℕ) → slot_word (pos i) ≡ i) ×
    ((w j : List ℕ) (a : RunAnswer) →
    after_run (ran w j a) ≡
    left w j
    ((run_numbers a).number ∷ (slot_word (run_numbers a).slot + slot_word (run_numbers a).f) ∷ slot_word (run_numbers a).x ∷ (run_numbers a).steps ∷
    (run_numbers a).used ∷ (run_numbers a).waiting ∷ [])
    (run_numbers a).number)

-- Of a plain run: the table as it leaves it; its numbers, and these are a refusal's number and zeros; 0, the result's slot, the steps and the
-- used count; or a stop's number, 0, the steps and the used count; the number. The slot is not negative (PlainSlotNamed of plain).
abbrev pub PlainWordsAre : Type 0
PlainWordsAre =
    ((w : List ℕ) (a : PlainAnswer) →
    after_plain (played w a) ≡
    left_one w
    ((plain.plain_numbers a).number ∷ slot_word (plain.plain_numbers a).slot ∷ (plain.plain_numbers a).steps ∷ (plain.plain_numbers a).used ∷ [])
    (plain.plain_numbers a).number) ×
    ((w : List ℕ) (n : ℕ) → after_plain (played w (Err n)) ≡ left_one w (n ∷ 0 ∷ 0 ∷ 0 ∷ []) n) ×
    ((w : List ℕ) (i steps used : ℕ) → after_plain (played w (Ok (Done (pos i) steps used))) ≡ left_one w (0 ∷ i ∷ steps ∷ used ∷ []) 0) ×
    ((w : List ℕ) (n steps used : ℕ) → after_plain (played w (Ok (Stopped n steps used))) ≡ left_one w (n ∷ 0 ∷ steps ∷ used ∷ []) n)

-- Of an index by name: a refusal's number and 0, or 0 and the index; the number.
abbrev pub IndexWordsAre : Type 0
IndexWordsAre =
    ((n : ℕ) → after_index (Err n) ≡ told (n ∷ 0 ∷ []) n) × ((i : ℕ) → after_index (Ok i) ≡ told (0 ∷ i ∷ []) 0)

-- Of a name by index: where it starts, and its length.
abbrev pub PartWordsAre : Type 0
PartWordsAre = (start size : ℕ) → part_words (record { start = start; size = size }) ≡ start ∷ size ∷ []
