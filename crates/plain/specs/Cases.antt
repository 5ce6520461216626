-- The run call's cases on the plain engine, and further ones.
use Rattle.std.specs.Prelude.{ℕ, ◌≡◌, List, [], ◌∷◌, map, replicate, ℤ, pos, negsuc}
use Rattle.frames.specs.Frames.{frame_room}
use Rattle.engine.specs.Cases.{RunCase, table, run_cases}
use Rattle.plain.specs.Run.{plain_run}
use Rattle.plain.specs.Meaning.{Shown, shown}

-- on the same table, with the frame table's room
abbrev pub plain_given : RunCase → Shown
plain_given c =
    shown (plain_run (c.of (replicate c.free 9)) c.base c.f c.x c.used c.fuel (frame_room (replicate c.jobs 8)))

-- number, result, steps, used count
abbrev pub plain_wanted : RunCase → Shown
plain_wanted c =
    let a = c.answer in
    record { words = c.of c.words; answer = record { number = a.number; slot = a.slot; steps = a.steps; used = a.used } }

abbrev pub PlainCasesHold : Type 0
PlainCasesHold = map plain_given run_cases ≡ map plain_wanted run_cases

-- ---- further cases, on the same table: L, stem L, stem (stem L), I, stem I and D

-- base, f, x, fuel, free words, places; what the free words become, number, result, steps, used count
pub record PlainCase : Type 0 where
  pub base : ℤ
  pub f : ℤ
  pub x : ℤ
  pub fuel : ℕ
  pub free : ℕ
  pub places : ℕ
  pub words : List ℕ
  pub number : ℕ
  pub slot : ℕ
  pub steps : ℕ
  pub used : ℕ

abbrev pub plays : ℕ → ℕ → ℕ → ℕ → ℕ → List ℕ → ℕ → ℕ → ℕ → ℕ → PlainCase
plays f x fuel free places words number slot steps used =
    record {
      base = pos 2;
      f = pos f;
      x = pos x;
      fuel = fuel;
      free = free;
      places = places;
      words = words;
      number = number;
      slot = slot;
      steps = steps;
      used = used;
    }

abbrev pub plain_refuses : ℤ → ℤ → ℕ → ℕ → ℕ → PlainCase
plain_refuses base f fuel places number =
    record {
      base = base;
      f = f;
      x = pos 0;
      fuel = fuel;
      free = 2;
      places = places;
      words = replicate 2 9;
      number = number;
      slot = 0;
      steps = 0;
      used = 0;
    }

abbrev pub plain_further : List PlainCase
plain_further =
    -- fuel and job room at 1,000 and above it, each alone and both
    plays 0 0 1000 2 1000 (1 ∷ 0 ∷ []) 0 6 1 7
    ∷ plain_refuses (pos 2) (pos 0) 1001 0 49
    ∷ plain_refuses (pos 2) (pos 0) 0 1001 49
    ∷ plain_refuses (pos 2) (pos 0) 1001 1001 49
    -- 24, 23 and 21 come before 49
    ∷ plain_refuses (pos 0) (pos 0) 1001 0 24
    ∷ plain_refuses (pos 2) (negsuc 0) 1001 0 23
    ∷ plain_refuses (negsuc 0) (negsuc 0) 1001 0 21
    -- I to L: fuel, slots and places just enough, and one less of each
    ∷ plays 3 0 4 4 1 (1 ∷ 1 ∷ 1 ∷ 0 ∷ []) 0 0 4 8
    ∷ plays 3 0 3 4 1 (1 ∷ 1 ∷ 1 ∷ 0 ∷ []) 31 0 3 8
    ∷ plays 3 0 4 2 1 (1 ∷ 1 ∷ []) 32 0 2 7
    ∷ plays 3 0 4 4 0 (replicate 4 9) 33 0 0 6
    -- D to D, 11 steps: no job waits in the last application of rule 4
    ∷ plays 5 5 11 8 2 (1 ∷ 6 ∷ 6 ∷ 0 ∷ 1 ∷ 6 ∷ 6 ∷ 0 ∷ []) 31 0 11 10
    -- I to L stops before its second application, and in it; a single free word is no slot
    ∷ plays 3 0 2 4 1 (1 ∷ 1 ∷ 9 ∷ 9 ∷ []) 31 0 2 7
    ∷ plays 3 0 4 3 1 (1 ∷ 1 ∷ 9 ∷ []) 32 0 2 7
    ∷ []

abbrev pub comes_to : PlainCase → Shown
comes_to c = shown (plain_run (table (replicate c.free 9)) c.base c.f c.x 6 c.fuel c.places)

abbrev pub due : PlainCase → Shown
due c =
    record {
      words = table c.words;
      answer = record { number = c.number; slot = pos c.slot; steps = c.steps; used = c.used };
    }

abbrev pub PlainFurtherHold : Type 0
PlainFurtherHold = map comes_to plain_further ≡ map due plain_further
