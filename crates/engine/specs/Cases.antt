-- Cases of document 01 on the two tables, and further ones, one statement over one list.
use Rattle.std.specs.Prelude.{ℕ, ◌≡◌, List, [], ◌∷◌, map, replicate, ℤ, pos, negsuc, Ok}
use Rattle.engine.specs.declared.Ending.TheVariants.{Done, Stopped}
use Rattle.engine.specs.declared.From.TheVariants.{Scratch}
use Rattle.engine.specs.Run.{Ran, ran, run_from}
use Rattle.engine.specs.Answer.{RunAnswer, RunNumbers, run_numbers}

-- two words of the receiver's, then the slots of L, stem L, stem (stem L), I, stem I and D, then free words
abbrev pub table : List ℕ → List ℕ
table free = 7 ∷ 7 ∷ 0 ∷ 0 ∷ 1 ∷ 0 ∷ 2 ∷ 0 ∷ 3 ∷ 1 ∷ 4 ∷ 0 ∷ 5 ∷ 4 ∷ free

-- the slots of L, stem L, stem (stem L), fork (stem L, stem (stem L)) and the fork of that and L
abbrev pub other : List ℕ → List ℕ
other free = 7 ∷ 7 ∷ 0 ∷ 0 ∷ 1 ∷ 0 ∷ 2 ∷ 0 ∷ 2 ∷ 3 ∷ 4 ∷ 1 ∷ free

-- the slot of L, with nothing before it
abbrev pub alone : List ℕ → List ℕ
alone free = 0 ∷ 0 ∷ free

-- what is asked, of which table and how many used slots, with 9 in each free word and 8 in each word of the frame table;
-- what is left, and the answer
pub record RunCase : Type 0 where
  pub of : List ℕ → List ℕ
  pub used : ℕ
  pub base : ℤ
  pub f : ℤ
  pub x : ℤ
  pub fuel : ℕ
  pub free : ℕ
  pub jobs : ℕ
  pub words : List ℕ
  pub frames : List ℕ
  pub answer : RunNumbers

pub record RunSeen : Type 0 where
  pub words : List ℕ
  pub frames : List ℕ
  pub answer : RunNumbers

abbrev pub seen : Ran → RunSeen
seen (ran w j a) = record { words = w; frames = j; answer = run_numbers a }

abbrev pub run_given : RunCase → RunSeen
run_given c =
    seen (run_from Scratch (c.of (replicate c.free 9)) c.base c.f c.x c.used c.fuel (replicate c.jobs 8))

abbrev pub run_wanted : RunCase → RunSeen
run_wanted c = record { words = c.of c.words; frames = c.frames; answer = c.answer }

-- number, result, f, x, steps, used, waiting
abbrev pub says : ℕ → ℕ → ℕ → ℕ → ℕ → ℕ → ℕ → RunNumbers
says number slot f x steps used waiting =
    record {
      number = number;
      slot = pos slot;
      f = pos f;
      x = pos x;
      steps = steps;
      used = used;
      waiting = waiting;
    }

-- a run of f on x at a base: fuel, free words, words of the frame table; then what they become, and the answer
abbrev pub runs_at : ℕ → (List ℕ → List ℕ) → ℕ → ℕ → ℕ → ℕ → ℕ → ℕ → List ℕ → List ℕ → RunNumbers → RunCase
runs_at base of used f x fuel free jobs words frames answer =
    record {
      of = of;
      used = used;
      base = pos base;
      f = pos f;
      x = pos x;
      fuel = fuel;
      free = free;
      jobs = jobs;
      words = words;
      frames = frames;
      answer = answer;
    }

-- after the two words
abbrev pub runs_of : (List ℕ → List ℕ) → ℕ → ℕ → ℕ → ℕ → ℕ → ℕ → List ℕ → List ℕ → RunNumbers → RunCase
runs_of = runs_at 2

abbrev pub runs : ℕ → ℕ → ℕ → ℕ → ℕ → List ℕ → List ℕ → RunNumbers → RunCase
runs = runs_of table 6

-- a call that is refused, on a table with one free slot
abbrev pub run_refuses : ℤ → ℤ → ℤ → ℕ → RunCase
run_refuses base f x number =
    record {
      of = table;
      used = 6;
      base = base;
      f = f;
      x = x;
      fuel = 100;
      free = 2;
      jobs = 4;
      words = replicate 2 9;
      frames = replicate 4 8;
      answer = says number 0 0 0 0 0 0;
    }

abbrev pub run_cases : List RunCase
run_cases =
    -- L to L, I to L
    runs 0 0 100 3 2 (1 ∷ 0 ∷ 9 ∷ []) (replicate 2 0) (says 0 6 0 0 1 7 0)
    ∷ runs 3 0 100 9 3 (1 ∷ 1 ∷ 1 ∷ 0 ∷ replicate 5 9) (replicate 3 0) (says 0 0 0 0 4 8 0)
    -- D to D: fuel 9; with 3 free slots; with 1 place
    ∷ runs 5 5 9 9 7 (1 ∷ 6 ∷ 6 ∷ 0 ∷ 1 ∷ 6 ∷ 6 ∷ 0 ∷ 9 ∷ []) (replicate 7 0) (says 31 0 5 5 9 10 0)
    ∷ runs 5 5 100 6 6 (1 ∷ 6 ∷ 6 ∷ 0 ∷ 1 ∷ 6 ∷ []) (3 ∷ 5 ∷ 0 ∷ 3 ∷ 8 ∷ 0 ∷ []) (says 32 0 0 5 7 9 2)
    ∷ runs 5 5 100 9 3 (replicate 9 9) (1 ∷ 3 ∷ 5 ∷ []) (says 33 0 3 5 1 6 1)
    -- fuel 0
    ∷ runs 5 5 0 0 1 [] (0 ∷ []) (says 31 0 5 5 0 6 0)
    -- slot -1, slot equal to the used count
    ∷ run_refuses (pos 2) (negsuc 0) (pos 0) 23
    ∷ run_refuses (pos 2) (pos 0) (pos 6) 23
    -- base -1, base equal to the length, and base 0, which is no fault of its own: the receiver's words are no leaf
    ∷ run_refuses (negsuc 0) (pos 0) (pos 0) 21
    ∷ run_refuses (pos 16) (pos 0) (pos 0) 21
    ∷ run_refuses (pos 0) (pos 0) (pos 0) 24
    -- no fuel, no slot and no place at once
    ∷ runs 0 0 0 0 0 [] [] (says 31 0 0 0 0 6 0)
    ∷ runs 5 5 0 0 0 [] [] (says 31 0 5 5 0 6 0)
    -- 5, 6 and 7 on a fork of a fork, whose parts differ
    ∷ runs_of other 5 4 0 100 2 3 (replicate 2 9) (replicate 3 0) (says 0 1 0 0 1 5 0)
    ∷ runs_of other 5 4 1 100 2 3 (2 ∷ 1 ∷ []) (replicate 3 0) (says 0 5 0 0 2 6 0)
    ∷ runs_of other 5 4 3 100 4 3 (2 ∷ 0 ∷ 2 ∷ 3 ∷ []) (replicate 3 0) (says 0 6 0 0 3 7 0)
    -- a stop while "then the result to v" waits, where v is not slot 0
    ∷ runs_of other 5 4 3 1 4 7 (replicate 4 9) (2 ∷ 2 ∷ 0 ∷ replicate 4 0) (says 31 0 0 1 1 5 1)
    ∷ runs_of other 5 4 3 100 1 3 (9 ∷ []) (2 ∷ 2 ∷ 0 ∷ []) (says 32 0 0 1 1 5 1)
    -- L to L at base 0, with nothing before our part
    ∷ runs_at 0 alone 1 0 0 100 2 0 (1 ∷ 0 ∷ []) [] (says 0 1 0 0 1 2 0)
    ∷ []

abbrev pub RunCasesHold : Type 0
RunCasesHold = map run_given run_cases ≡ map run_wanted run_cases

-- two of them by the answer itself: a stop and a done run, no two numbers of it alike
abbrev pub run_answer_of : Ran → RunAnswer
run_answer_of (ran w j a) = a

abbrev pub AnswersHold : Type 0
AnswersHold =
    -- D to D with 3 free slots: stop 32, f is L and x is D, 7 steps, 9 used slots, 2 jobs
    (run_answer_of (run_from Scratch (table (replicate 6 9)) (pos 2) (pos 5) (pos 5) 6 100 (replicate 6 8)) ≡ Ok (Stopped 32 (pos 0) (pos 5) 7 9 2)) ×
    -- L to L: the new slot, 1 step, 7 used slots
    (run_answer_of (run_from Scratch (table (replicate 3 9)) (pos 2) (pos 0) (pos 0) 6 100 (replicate 2 8)) ≡ Ok (Done (pos 6) 1 7))
