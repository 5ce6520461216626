-- What a call leaves for C: the lent tables, the words of its answer, and the number that it returns, which is the first of them.
use Rattle.std.specs.Prelude.{ℕ, List, Result}
use Rattle.loader.specs.Load.{Loaded, loaded}
use Rattle.loader.specs.Answer as load
use Rattle.engine.specs.Run.{Ran, ran}
use Rattle.engine.specs.Answer as run
use Rattle.plain.specs.Run.{Played, played}
use Rattle.plain.specs.Answer as plain
use Rattle.bundle.specs.Exports as exports
use Rattle.answers.specs.Words.{load_words, run_words, plain_words, index_words}

-- two lent tables, the answer's words, the number returned
pub data Left : Type 0 where
  left : List ℕ → List ℕ → List ℕ → ℕ → Left

-- of a load: the word table and the export table
abbrev pub after_load : Loaded → Left
after_load (loaded words exports a) = left words exports (load_words a) (load.load_numbers a).number

-- of a run or a carry-on: the word table and the job table
abbrev pub after_run : Ran → Left
after_run (ran words jobs a) = left words jobs (run_words a) (run.run_numbers a).number

-- one lent table, the answer's words, the number returned
pub data LeftOne : Type 0 where
  left_one : List ℕ → List ℕ → ℕ → LeftOne

-- of a plain run: the word table
abbrev pub after_plain : Played → LeftOne
after_plain (played words a) = left_one words (plain_words a) (plain.plain_numbers a).number

-- the answer's words, the number returned
pub data Told : Type 0 where
  told : List ℕ → ℕ → Told

abbrev pub after_index : Result ℕ ℕ → Told
after_index a = told (index_words a) (exports.index_numbers a).number
