-- What a load of the bundle answers and leaves, and what the program writes of it.
use Rattle.std.specs.Prelude.{ℕ, ◌≡◌, List, [], ◌∷◌, ◌++◌, map, ℤ, pos, negsuc}
use Rattle.wire.specs.Wire.{ascii}
use Rattle.loader.specs.Load.{Loaded, loaded, load}
use Rattle.loader.specs.Answer.{LoadNumbers, load_numbers}
use Rattle.text.specs.Text.{newline}
use Rattle.listing.specs.Listing.{listing}
use Rattle.bundle_example.specs.Leaf.{leaf_bundle}

-- the two tables that are lent
pub record Tables : Type 0 where
  pub words : List ℕ
  pub exports : List ℕ

-- the tables at exit, and the answer's numbers
pub record LoadSeen : Type 0 where
  pub left : Tables
  pub answer : LoadNumbers

pub record LoadCase : Type 0 where
  pub lent : Tables
  pub base : ℤ
  pub seen : LoadSeen

abbrev pub seen_of : Loaded → LoadSeen
seen_of (loaded w out a) = record { left = record { words = w; exports = out }; answer = load_numbers a }

-- an accepted load: the words before and after it, the words of a slot before; the export words before, and those after
abbrev pub accepts : List ℕ → ℕ → List ℕ → List ℕ → LoadCase
accepts before b later rest =
    record {
      lent = record { words = before ++ (7 ∷ 7 ∷ later); exports = 8 ∷ rest };
      base = pos b;
      seen =
          record {
            left = record { words = before ++ (0 ∷ 0 ∷ later); exports = 0 ∷ rest };
            answer = record { number = 0; nodes = 1; exports = 1 };
          };
    }

-- a refused one leaves both tables as they were
abbrev pub load_refuses : List ℕ → ℤ → List ℕ → ℕ → LoadCase
load_refuses words base exports n =
    record {
      lent = record { words = words; exports = exports };
      base = base;
      seen =
          record {
            left = record { words = words; exports = exports };
            answer = record { number = n; nodes = 0; exports = 0 };
          };
    }

unfoldable pub load_cases : List LoadCase
load_cases =
    -- base 0, a table of one slot; base 3, after three words of the receiver's
    accepts [] 0 [] []
    ∷ accepts (5 ∷ 6 ∷ 5 ∷ []) 3 (6 ∷ []) (9 ∷ [])
    -- base -1; past the end; equal to the length, since room is 0; room for less than a slot
    ∷ load_refuses (7 ∷ 7 ∷ []) (negsuc 0) (8 ∷ []) 21
    ∷ load_refuses (7 ∷ 7 ∷ []) (pos 3) (8 ∷ []) 21
    ∷ load_refuses (7 ∷ 7 ∷ []) (pos 2) (8 ∷ []) 21
    ∷ load_refuses (7 ∷ 7 ∷ []) (pos 1) [] 21
    -- no word for the export
    ∷ load_refuses (7 ∷ 7 ∷ []) (pos 0) [] 22
    ∷ []

abbrev pub LoadsHold : Type 0
LoadsHold =
    map (λ c. seen_of (load leaf_bundle c.lent.words c.base c.lent.exports)) load_cases ≡ map (λ c. c.seen) load_cases

-- "For a sound bundle of one leaf, exported as `main`, its whole output is `ok nodes 1 exports 1`, newline, `0 4 main`, newline"
abbrev pub Writes : Type 0
Writes = listing leaf_bundle ≡ ascii "ok nodes 1 exports 1" ++ (newline ++ (ascii "0 4 main" ++ newline))
