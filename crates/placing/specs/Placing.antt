-- The order in which records get slots: again and again, the earliest unplaced record whose children are all placed gets the
-- next one. Records are numbers here. The children of record i stand in the words 2i and 2i + 1 of the links: 0 for none, else the
-- number of the child's record plus one. A record's slot, plus one, stands in `slots` under its number; 0 while it is unplaced.
use Rattle.std.specs.Prelude.{ℕ, zero, suc, ◌+◌, ◌-◌, ◌*◌, ◌≤◌, ◌<◌, List, Bool, true, false, not, cond, length, get_or, set, replicate, eqb, Option, Some, None}

-- a link names no record, or a placed one
unfoldable pub settled : List ℕ → ℕ → Bool
settled slots link = cond (eqb link 0) true (not (eqb (get_or slots (link - 1) 0) 0))

-- record i is unplaced, and its children are all placed
unfoldable pub ready : List ℕ → List ℕ → ℕ → Bool
ready links slots i =
    cond (eqb (get_or slots i 0) 0)
    (cond (settled slots (get_or links (2 * i) 0)) (settled slots (get_or links (2 * i + 1) 0)) false)
    false

-- the earliest such record of the `left` from i on
unfoldable pub earliest : List ℕ → List ℕ → ℕ → ℕ → Option ℕ
earliest links slots zero i = None
earliest links slots (suc left) i = cond (ready links slots i) (Some i) (earliest links slots left (i + 1))

-- the slots that records have, and how many are placed
pub record Placed : Type 0 where
  pub slots : List ℕ
  pub count : ℕ

-- record i gets the next slot
unfoldable pub put : Placed → ℕ → Placed
put p i = record { slots = set p.slots i (p.count + 1); count = p.count + 1 }

abbrev pub on_next : Option ℕ → Placed → (ℕ → Placed) → Placed
on_next (Some i) p f = f i
on_next None p f = p

-- of n records, at most m more are placed
unfoldable pub placing : ℕ → List ℕ → ℕ → Placed → Placed
placing zero links n p = p
placing (suc m) links n p = on_next (earliest links p.slots n 0) p (λ i. placing m links n (put p i))

-- nothing is placed yet; there is room for the slots of so many records
abbrev pub unplaced : ℕ → Placed
unplaced room = record { slots = replicate room 0; count = 0 }

-- all of n records that can be placed
unfoldable pub placed : List ℕ → ℕ → ℕ → Placed
placed links n room = placing n links n (unplaced room)

-- the links of n records, each 0 or the number of one of them plus one, with room for their slots
pub record Links (links : List ℕ) (n room : ℕ) : Type 0 where
  pub long : 2 * n ≤ length links
  pub small : (k : ℕ) → k < 2 * n → get_or links k 0 ≤ n
  pub fits : n ≤ room
  pub few : n < 65536
