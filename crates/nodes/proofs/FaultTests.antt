-- What the tests of records mean: none has a fault exactly where each is right (16, 18), or where no hash comes again (17).
use Rattle.std.specs.Prelude.{is_some}
use Prim.Native.Nat.{ℕ}
use mathlib.Core.Path.{◌≡◌, refl}
use mathlib.Core.Bool.{Bool, true, false, cond}
use mathlib.Core.Logic.{◌↔◌}
use mathlib.Core.List.{List, [], ◌∷◌}
use Rattle.lists.specs.Lists.{index_of}
use Rattle.lists.specs.Among.{Among, here, there, Distinct}
use Rattle.lists.proofs.Same.{not_both, same_exactly}
use Rattle.lists.proofs.Index.{found_among, among_found, repeats_exactly}
use Rattle.lists.proofs.Some.{none_exactly, again_repeats}
use Rattle.lists.proofs.Tests.{not_exactly}
use Rattle.nodes.specs.declared.faults.RecordFault.TheVariants.{Hash, Twice, Child}
use Rattle.nodes.specs.Records.{NodeRecord, children, node_hash, hashes, lacks, record_faulty, some_record}

-- the first holds, and the second does not
only_first : (a b : Bool) → cond a b true ≡ false → (a ≡ true) × (b ≡ false)
only_first true b e = (refl, e)
only_first false b e = not_both refl e

-- no hash of a list has no record
module _ (all : List NodeRecord) where
  lacks_not : (hs : List (List ℕ)) → lacks all hs ≡ false → (h : List ℕ) → Among h hs → Among h (hashes all)
  unfolding lacks
  lacks_not (g ∷ hs) e h here = found_among h 0 (hashes all) (only_first (is_some (index_of h 0 (hashes all))) _ e).0
  lacks_not (g ∷ hs) e h (there a) = lacks_not hs (only_first (is_some (index_of g 0 (hashes all))) _ e).1 h a
  lacks_not [] e h x' = elim x' [ ]

  not_lacks : (hs : List (List ℕ)) → ((h : List ℕ) → Among h hs → Among h (hashes all)) → lacks all hs ≡ false
  unfolding lacks
  not_lacks [] f = refl
  not_lacks (h ∷ hs) f = rw (among_found h 0 (hashes all) (f h here)) (not_lacks hs (λ g a. f g (there a)))

  pub lacks_exactly : (hs : List (List ℕ)) → (lacks all hs ≡ false) ↔ ((h : List ℕ) → Among h hs → Among h (hashes all))
  lacks_exactly hs = (lacks_not hs, not_lacks hs)

module _ (all rs : List NodeRecord) where
  -- 16
  pub right_exactly : (some_record Hash all rs ≡ false) ↔ ((r : NodeRecord) → Among r rs → r.hash ≡ node_hash r.payload)
  unfolding some_record record_faulty
  right_exactly = none_exactly (record_faulty Hash all) _ (λ r rest. not_exactly _ (same_exactly r.hash (node_hash r.payload))) rs

  -- 17
  pub once_exactly : (some_record Twice all rs ≡ false) ↔ Distinct (hashes rs)
  unfolding some_record record_faulty hashes
  once_exactly = rw (again_repeats (λ r. r.hash) hashes refl (λ r rest. refl) rs) (repeats_exactly (hashes rs))

  -- 18
  pub there_exactly : (some_record Child all rs ≡ false) ↔
      ((r : NodeRecord) → Among r rs → (h : List ℕ) → Among h (children r) → Among h (hashes all))
  unfolding some_record record_faulty
  there_exactly = none_exactly (record_faulty Child all) _ (λ r rest. lacks_exactly all (children r)) rs
