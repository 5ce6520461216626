-- Laws of a fault among the records, by their numbers.
use Rattle.std.specs.List.{list_any, range_with_len}
use Prim.Native.Nat.{ℕ, zero, suc, ◌+◌, ◌-◌}
use mathlib.Core.Path.{◌≡◌, refl, ap, ◌∙◌}
use mathlib.Core.List.{List}
use mathlib.Core.Bool.{Bool, true, false, cond, ◌||◌}
use native.Mathlib.Omega.{arith}
use lib.ListN.{length, drop, drop_of_length-le}
use Rattle.lists.specs.Lists.{some_of}
use Rattle.nodes.specs.declared.faults.RecordFault.{RecordFault}
use Rattle.nodes.specs.Records.{NodeRecord, record_faulty, some_record}
use Rattle.nodes.specs.Starts.{nth_faulty}
use Rattle.nodes.proofs.Children.{record_next}

either_test : (a b : Bool) → (a || b) ≡ cond a true b
either_test true b = refl
either_test false b = refl

faulty_from : (fault : RecordFault) (rs : List NodeRecord) (n i : ℕ) → n ≡ length rs - i →
    list_any (nth_faulty fault rs) (range_with_len i n) ≡ some_of (record_faulty fault rs) (drop i rs)
unfolding some_of
faulty_from fault rs zero i e = rw (drop_of_length-le rs {i = i} (omega arith))
faulty_from fault rs (suc n) i e =
    rw (record_next rs i (omega arith))
    (either_test (nth_faulty fault rs i) _ ∙ ap (cond (nth_faulty fault rs i) true) (faulty_from fault rs n (i + 1) (omega arith)))

pub some_faulty : (fault : RecordFault) (rs : List NodeRecord) (n : ℕ) {b : Bool} → n ≡ length rs →
    b ≡ list_any (nth_faulty fault rs) (range_with_len 0 n) → b ≡ some_record fault rs rs
unfolding some_record
some_faulty fault rs n e f = f ∙ faulty_from fault rs n 0 (omega arith)
