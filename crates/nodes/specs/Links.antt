-- The children of records by their numbers, which is what placing works on; and 19.
use Rattle.std.specs.Prelude.{ℕ, ◌+◌, ◌*◌, ◌≤◌, ◌≡◌, List, [], ◌∷◌, Bool, length, take, replicate, ltb, Option, Some, None}
use Rattle.lists.specs.Lists.{index_of}
use Rattle.sizes.specs.Sizes.{nodes_size}
use Rattle.placing.specs.Placing.{Placed, placed}
use Rattle.nodes.specs.Records.{NodeRecord, first_record, children, hashes, records}

abbrev pub link_to : Option ℕ → ℕ
link_to (Some i) = i + 1
link_to None = 0

-- the number, plus one, of the record with a hash; 0 where there is none
unfoldable pub link_of : List NodeRecord → List ℕ → ℕ
link_of all h = link_to (index_of h 0 (hashes all))

-- the links of the first and of the second of some children
unfoldable pub first_link : List NodeRecord → List (List ℕ) → ℕ
first_link all [] = 0
first_link all (c ∷ cs) = link_of all c

unfoldable pub second_link : List NodeRecord → List (List ℕ) → ℕ
second_link all [] = 0
second_link all (c ∷ []) = 0
second_link all (c ∷ d ∷ cs) = link_of all d

unfoldable pub links : List NodeRecord → List NodeRecord → List ℕ
links all [] = []
links all (r ∷ rs) = first_link all (children r) ∷ second_link all (children r) ∷ links all rs

abbrev pub links_of : List NodeRecord → List ℕ
links_of rs = links rs rs

-- the slots of the records, as far as they can be placed
unfoldable pub placed_of : List NodeRecord → Placed
placed_of rs = placed (links_of rs) (length rs) nodes_size.most

-- 19: placing stops short
unfoldable pub circular : List NodeRecord → Bool
circular rs = ltb (placed_of rs).count (length rs)

-- the section has n records, which is within the size
pub record Sized (s : List ℕ) (n : ℕ) : Type 0 where
  pub all : length (records s n first_record) ≡ n
  pub few : n ≤ nodes_size.most

-- the tables that placing is lent: room for the links of as many records as there may be, and for their slots, none placed
pub record Scratch (links slots : List ℕ) : Type 0 where
  pub space : 2 * nodes_size.most ≤ length links
  pub unplaced : slots ≡ replicate nodes_size.most 0

-- the tables that it leaves: the links of the records, and the slots that they got
pub record PlacedTables (rs : List NodeRecord) (links slots : List ℕ) : Type 0 where
  pub few : length rs ≤ nodes_size.most
  pub space : 2 * length rs ≤ length links
  pub links_are : take (2 * length rs) links ≡ links_of rs
  pub slots_are : slots ≡ (placed_of rs).slots
