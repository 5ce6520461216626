-- Cases of carry-ons on the two tables, one statement over one list.
use Rattle.std.specs.Prelude.{ℕ, ◌≡◌, List, [], ◌∷◌, map, replicate, ℤ, pos, negsuc, Ok}
use Rattle.engine.specs.declared.Ending.TheVariants.{Done, Stopped}
use Rattle.engine.specs.declared.From.TheVariants.{Stop}
use Rattle.engine.specs.Run.{run_from}
use Rattle.engine.specs.Answer.{RunNumbers}
use Rattle.engine.specs.Cases.{table, other, RunSeen, seen, says, run_answer_of}

-- what is asked, of which table and how many used slots, with which words after the table's own, and which frame table;
-- what is left, and the answer
pub record CarryCase : Type 0 where
  pub of : List ℕ → List ℕ
  pub used : ℕ
  pub base : ℤ
  pub f : ℤ
  pub x : ℤ
  pub waiting : ℕ
  pub steps : ℕ
  pub fuel : ℕ
  pub rest : List ℕ
  pub jobs : List ℕ
  pub words : List ℕ
  pub frames : List ℕ
  pub answer : RunNumbers

abbrev pub carry_given : CarryCase → RunSeen
carry_given c =
    seen
    (run_from (Stop c.waiting c.steps) (c.of c.rest) c.base c.f c.x c.used c.fuel c.jobs)

abbrev pub carry_wanted : CarryCase → RunSeen
carry_wanted c = record { words = c.of c.words; frames = c.frames; answer = c.answer }

-- a carry-on at base 2: table, used, f, x, waiting, steps, fuel; the other words and the frame table, what they become,
-- and the answer
abbrev pub carries : (List ℕ → List ℕ) → ℕ → ℕ → ℕ → ℕ → ℕ → ℕ → List ℕ → List ℕ → List ℕ → List ℕ → RunNumbers → CarryCase
carries of used f x waiting steps fuel rest jobs words frames answer =
    record {
      of = of;
      used = used;
      base = pos 2;
      f = pos f;
      x = pos x;
      waiting = waiting;
      steps = steps;
      fuel = fuel;
      rest = rest;
      jobs = jobs;
      words = words;
      frames = frames;
      answer = answer;
    }

-- a carry-on of f to L that is refused, with one free slot and fuel 100: base, f, waiting, steps, frame table; number
abbrev pub carry_refuses : ℤ → ℤ → ℕ → ℕ → List ℕ → ℕ → CarryCase
carry_refuses base f waiting steps jobs number =
    record {
      of = table;
      used = 6;
      base = base;
      f = f;
      x = pos 0;
      waiting = waiting;
      steps = steps;
      fuel = 100;
      rest = replicate 2 9;
      jobs = jobs;
      words = replicate 2 9;
      frames = jobs;
      answer = says number 0 0 0 0 0 0;
    }

-- the slots that D to D makes in 4, in 7 and in 9 steps
abbrev pub in_four : List ℕ → List ℕ
in_four free = 1 ∷ 6 ∷ 6 ∷ 0 ∷ free

abbrev pub in_seven : List ℕ → List ℕ
in_seven free = in_four (1 ∷ 6 ∷ free)

abbrev pub in_nine : List ℕ → List ℕ
in_nine free = in_seven (6 ∷ 0 ∷ free)

-- "then I to D" waits
abbrev pub one_waits : List ℕ → List ℕ
one_waits above = 1 ∷ 3 ∷ 5 ∷ above

-- "then D to D" and "then the result to D" wait, and there is a word more
abbrev pub two_wait : List ℕ
two_wait = 1 ∷ 5 ∷ 5 ∷ 2 ∷ 5 ∷ 0 ∷ 0 ∷ []

-- "then stem L to slot 3", "then L to the result" and "then the result to slot 4" wait
abbrev pub three_wait : List ℕ
three_wait = 1 ∷ 1 ∷ 3 ∷ 3 ∷ 0 ∷ 0 ∷ 2 ∷ 4 ∷ 0 ∷ 0 ∷ []

abbrev pub carry_cases : List CarryCase
carry_cases =
    -- D to D in parts of 4 and 5 steps; before the first no job waits, so that it is as in a run
    carries table 6 5 5 0 0 4 (replicate 9 9) (replicate 7 0) (in_four (replicate 5 9)) (one_waits (replicate 4 0)) (says 31 0 6 7 4 8 1)
    ∷ carries table 8 6 7 1 4 5 (in_four (replicate 5 9)) (one_waits (replicate 4 0)) (in_nine (9 ∷ [])) (replicate 7 0) (says 31 0 5 5 9 10 0)
    -- I to L after two steps, while "then this to the result" waits: done with two more
    ∷ carries table 7 0 0 1 2 2 (1 ∷ 1 ∷ replicate 3 9) (3 ∷ 6 ∷ 0 ∷ 0 ∷ []) (1 ∷ 1 ∷ 1 ∷ 0 ∷ 9 ∷ []) (replicate 4 0) (says 0 0 0 0 4 8 0)
    -- a job of each tag, the newest met first; with no fuel, nothing changes
    ∷ carries other 5 1 2 3 20 40 (replicate 8 9) three_wait (1 ∷ 3 ∷ 3 ∷ 0 ∷ 1 ∷ 4 ∷ 3 ∷ 8 ∷ []) (replicate 10 0) (says 0 8 0 0 25 9 0)
    ∷ carries other 5 1 2 3 20 0 (replicate 8 9) three_wait (replicate 8 9) three_wait (says 31 0 1 2 20 5 3)
    -- D to D after stop 32 with one more slot, and after stop 33 with one more place
    ∷ carries table 9 0 5 2 7 2 (in_seven (replicate 2 9)) (3 ∷ 5 ∷ 0 ∷ 3 ∷ 8 ∷ 0 ∷ []) (in_nine []) (replicate 6 0) (says 31 0 5 5 9 10 0)
    ∷ carries table 6 3 5 1 1 8 (replicate 9 9) (one_waits (replicate 3 0)) (in_nine (9 ∷ [])) (replicate 6 0) (says 31 0 5 5 9 10 0)
    -- steps and fuel are 4,294,967,295 in all; one more
    ∷ carries table 6 0 0 2 4294967195 100 (replicate 2 9) two_wait (1 ∷ 0 ∷ []) (1 ∷ 5 ∷ 5 ∷ replicate 4 0) (says 32 0 6 5 4294967196 7 1)
    ∷ carry_refuses (pos 2) (pos 0) 2 4294967196 two_wait 40
    -- base -1; slot -1, while the jobs are not sound either; base 0, where the receiver's words are no leaf
    ∷ carry_refuses (negsuc 0) (pos 0) 2 20 two_wait 21
    ∷ carry_refuses (pos 2) (negsuc 0) 2 20 (4 ∷ 5 ∷ 5 ∷ 2 ∷ 5 ∷ 0 ∷ 0 ∷ []) 23
    ∷ carry_refuses (pos 0) (pos 0) 2 20 two_wait 24
    -- tag 4; slot 6, which is not used; a third word under tag 2; a 9 above the jobs, while there are too many steps
    ∷ carry_refuses (pos 2) (pos 0) 2 20 (4 ∷ 5 ∷ 5 ∷ 2 ∷ 5 ∷ 0 ∷ 0 ∷ []) 24
    ∷ carry_refuses (pos 2) (pos 0) 2 20 (1 ∷ 5 ∷ 6 ∷ 2 ∷ 5 ∷ 0 ∷ 0 ∷ []) 24
    ∷ carry_refuses (pos 2) (pos 0) 2 20 (1 ∷ 5 ∷ 5 ∷ 2 ∷ 5 ∷ 1 ∷ 0 ∷ []) 24
    ∷ carry_refuses (pos 2) (pos 0) 2 4294967196 (1 ∷ 5 ∷ 5 ∷ 2 ∷ 5 ∷ 0 ∷ 9 ∷ []) 24
    -- one job more than there is room for; one fewer than stand there
    ∷ carry_refuses (pos 2) (pos 0) 3 20 two_wait 24
    ∷ carry_refuses (pos 2) (pos 0) 1 20 two_wait 24
    ∷ []

abbrev pub CarryCasesHold : Type 0
CarryCasesHold = map carry_given carry_cases ≡ map carry_wanted carry_cases

-- two by the answer itself: a stop and a done one, no two numbers of it alike
abbrev pub CarryAnswersHold : Type 0
CarryAnswersHold =
    -- D to D after stop 32 with one more slot: stop 32, f is stem L and x is D, 11 steps, 10 used slots, 2 jobs
    (run_answer_of (run_from (Stop 2 7) (table (in_seven (replicate 2 9))) (pos 2) (pos 0) (pos 5) 9 93 (3 ∷ 5 ∷ 0 ∷ 3 ∷ 8 ∷ 0 ∷ [])) ≡ Ok (Stopped 32 (pos 1) (pos 5) 11 10 2)) ×
    -- a job of each tag: the last slot made, 25 steps, 9 used slots
    (run_answer_of (run_from (Stop 3 20) (other (replicate 8 9)) (pos 2) (pos 1) (pos 2) 5 40 three_wait) ≡ Ok (Done (pos 8) 25 9))
