-- What C gets of each answer is what specs/Meaning.antt says.
use Prim.Native.Nat.{ℕ, ◌+◌}
use mathlib.Core.Path.{◌≡◌, refl}
use mathlib.Core.List.{List, [], ◌∷◌}
use native.Mathlib.Nat.{add-zero, zero-add}
use Rattle.std.specs.Prelude.{Ok, Err}
use Rattle.engine.specs.declared.Ending.TheVariants.{Done, Stopped}
use Rattle.engine.specs.Answer.{RunAnswer, run_numbers}
use Rattle.plain.specs.declared.PlainEnding.TheVariants as plain
use Rattle.plain.specs.Answer.{PlainAnswer}
use Rattle.plain.specs.Answer as plainly
use Rattle.plain.specs.Run.{played}
use Rattle.engine.specs.Run.{ran}
use Rattle.answers.specs.Words.{slot_word}
use Rattle.answers.specs.Calls.{left, after_run, left_one, after_plain}
use Rattle.answers.specs.Meaning.{LoadWordsAre, RunWordsAre, PlainWordsAre, IndexWordsAre, PartWordsAre}

pub load_words_are : LoadWordsAre
load_words_are w e = (λ n. refl, λ nodes exports. refl)

pub run_words_are : RunWordsAre
run_words_are = (λ i. refl, words)
  where
    words : (w j : List ℕ) (a : RunAnswer) →
        after_run (ran w j a) ≡
        left w j
        ((run_numbers a).number ∷ (slot_word (run_numbers a).slot + slot_word (run_numbers a).f) ∷ slot_word (run_numbers a).x ∷
        (run_numbers a).steps ∷ (run_numbers a).used ∷ (run_numbers a).waiting ∷ [])
        (run_numbers a).number
    words w j (Err n) = refl
    words w j (Ok (Done slot steps used)) = rw (add-zero (slot_word slot))
    words w j (Ok (Stopped n f x steps used waiting)) = rw (zero-add (slot_word f))

pub plain_words_are : PlainWordsAre
plain_words_are = (words, λ w n. refl, λ w i steps used. refl, λ w n steps used. refl)
  where
    words : (w : List ℕ) (a : PlainAnswer) →
        after_plain (played w a) ≡
        left_one w ((plainly.plain_numbers a).number ∷ slot_word (plainly.plain_numbers a).slot ∷ (plainly.plain_numbers a).steps ∷ (plainly.plain_numbers a).used ∷ [])
        (plainly.plain_numbers a).number
    words w (Err n) = refl
    words w (Ok (plain.Done slot steps used)) = refl
    words w (Ok (plain.Stopped n steps used)) = refl

pub index_words_are : IndexWordsAre
index_words_are = (λ n. refl, λ i. refl)

pub part_words_are : PartWordsAre
part_words_are start size = refl
