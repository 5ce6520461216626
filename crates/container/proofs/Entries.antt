-- Laws of an entry: where its fields are read, and where its section lies.
use Prim.Native.Nat.{ℕ, ◌+◌, ◌-◌, ◌≤◌, ◌<◌}
use mathlib.Core.Path.{◌≡◌, refl, sym}
use mathlib.Core.List.{List, [], ◌∷◌}
use mathlib.Core.Bool.{Bool, true, false, not}
use native.Mathlib.Omega.{arith}
use native.Mathlib.Decide.{dec_le}
use borrow.Author.Tests.{lt-ltb, le-ltb}
use lib.Dec.{ltb, eqb}
use lib.ListN.{length, take, drop}
use Rattle.wire.specs.Wire.{inside, number_at}
use Rattle.lists.specs.Lists.{some_of}
use Rattle.wire.proofs.Spans.{inside_in, inside_out, span_lent, number_within}
use Rattle.lists.proofs.Tests.{below_exactly, either_false}
use Rattle.container.specs.declared.directory.DirectoryEntry.{DirectoryEntry}
use Rattle.container.specs.Header.{entry_bytes}
use Rattle.container.specs.Directory.{Outside, entry_faulty, some_entry, outside, entry_of}

-- the test that a span lies inside is the test that its end does not pass the end of the file
pub outside_test : (s : List ℕ) (start n : ℕ) → not (inside s start n) ≡ ltb (length s) (start + n)
outside_test s start n = elim (dec_le (start + n) (length s)) [
  | yes k ↦ rw (inside_in s start n k) (sym (le-ltb (length s) (start + n) k))
  | no k ↦
      let h : length s < start + n = omega (arith, k) in
      rw (inside_out s start n h) (sym (lt-ltb (length s) (start + n) h))
]

-- a number at a place of the entry that the code lends itself is the number at that place after the entry's start
pub entry_number : (file : List ℕ) (at : ℕ) → at + entry_bytes ≤ length file → (k n : ℕ) → k + n ≤ entry_bytes →
    number_at n (take (at + entry_bytes - at) (drop at file)) k ≡ number_at n file (at + k)
entry_number file at h k n l = rw (span_lent file at entry_bytes h) (number_within file at entry_bytes k n h l)

-- where 8 does not hold, the section of a type lies in the file
pub section_inside : (file : List ℕ) (kind : ℕ) (es : List DirectoryEntry) → some_entry file Outside es ≡ false →
    (entry_of kind es).offset + (entry_of kind es).size ≤ length file
unfolding some_entry some_of entry_faulty outside entry_of
section_inside file kind [] e = omega arith
section_inside file kind (x ∷ es) e =
    let (here, later) = (either_false (outside file x) (some_entry file Outside es)).0 e in
    test (eqb x.kind kind) refl ((below_exactly (length file) (x.offset + x.size)).0 here)
    (section_inside file kind es later)
  where
    test : (b : Bool) → eqb x.kind kind ≡ b → x.offset + x.size ≤ length file →
        (entry_of kind es).offset + (entry_of kind es).size ≤ length file →
        (entry_of kind (x ∷ es)).offset + (entry_of kind (x ∷ es)).size ≤ length file
    test true q this rest = rw q this
    test false q this rest = rw q rest
