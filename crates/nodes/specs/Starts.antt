-- Where the records of a section start: the table that a search goes by.
use Rattle.std.specs.Prelude.{ℕ, zero, suc, ◌+◌, ◌≡◌, List, [], ◌∷◌, Bool, take, drop, get_or}
use Rattle.lists.specs.Options.{on_some}
use Rattle.nodes.specs.declared.faults.RecordFault.{RecordFault}
use Rattle.nodes.specs.Records.{NodeRecord, first_record, record_end, record_faulty}
use Rattle.nodes.specs.Links.{Sized}

-- where each of the n records from a position on starts
unfoldable pub starts : List ℕ → ℕ → ℕ → List ℕ
starts s zero at = []
starts s (suc n) at = on_some (record_end s at) (λ next. at ∷ starts s n next) []

-- the section has n records, which is within the size, and the table says where each starts
pub record Starts (s : List ℕ) (n : ℕ) (table : List ℕ) : Type 0 where
  pub sized : Sized s n
  pub starts_are : take n table ≡ starts s n first_record

-- record k; past the last, one with no hash and no payload
abbrev pub nth_record : List NodeRecord → ℕ → NodeRecord
nth_record rs k = get_or rs k (record { hash = []; payload = [] })

-- record k has the fault
abbrev pub nth_faulty : RecordFault → List NodeRecord → ℕ → Bool
nth_faulty fault rs k = record_faulty fault rs (nth_record rs k) (drop (k + 1) rs)
