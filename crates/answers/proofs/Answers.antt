-- What a call leaves for C, whatever the case of its answer is: a stands for the answer, words and number for what is written of it.
use Rattle.std.specs.Prelude.{Result}
use Prim.Native.Nat.{ℕ}
use mathlib.Core.Path.{◌≡◌, ap}
use mathlib.Core.List.{List}
use Rattle.bundle.specs.Exports as exports
use Rattle.loader.specs.declared.Accepted.{Accepted}
use Rattle.loader.specs.Load.{Loaded, loaded}
use Rattle.loader.specs.Answer as loader
use Rattle.engine.specs.Answer.{RunAnswer}
use Rattle.engine.specs.Run.{Ran, ran}
use Rattle.engine.specs.Answer as engine
use Rattle.plain.specs.Answer.{PlainAnswer}
use Rattle.plain.specs.Run.{Played, played}
use Rattle.plain.specs.Answer as plain
use Rattle.answers.specs.Words.{load_words, run_words, plain_words, index_words}
use Rattle.answers.specs.Calls.{left, after_load, after_run, left_one, after_plain, told, after_index}

module _ {words : List ℕ} {number : ℕ} where
  pub load_left : {w out : List ℕ} {a : Result Accepted ℕ} {l : Loaded} → loaded w out a ≡ l →
      (words ≡ load_words a) × (number ≡ (loader.load_numbers a).number) → left w out words number ≡ after_load l
  load_left e h = rw (h.0, h.1) (ap after_load e)

  -- of a run, from scratch or from a stop
  pub run_left : {w j : List ℕ} {a : RunAnswer} {r : Ran} → ran w j a ≡ r →
      (words ≡ run_words a) × (number ≡ (engine.run_numbers a).number) → left w j words number ≡ after_run r
  run_left e h = rw (h.0, h.1) (ap after_run e)

  pub plain_left : {w : List ℕ} {a : PlainAnswer} {r : Played} → played w a ≡ r →
      (words ≡ plain_words a) × (number ≡ (plain.plain_numbers a).number) → left_one w words number ≡ after_plain r
  plain_left e h = rw (h.0, h.1) (ap after_plain e)

  pub index_told : {a b : Result ℕ ℕ} → a ≡ b → (words ≡ index_words a) × (number ≡ (exports.index_numbers a).number) →
      told words number ≡ after_index b
  index_told e h = rw (h.0, h.1) (ap after_index e)
