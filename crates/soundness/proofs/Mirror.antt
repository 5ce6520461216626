-- The entries that the checks read, and those that the grammar reads: the same, but that the first have no version and name their
-- digest by its place.
use Prim.Native.Nat.{ℕ, zero, suc, ◌+◌, ◌≤◌, ◌<◌}
use mathlib.Core.Path.{◌≡◌, refl}
use mathlib.Core.List.{List, [], ◌∷◌}
use mathlib.Core.Bool.{Bool, true, false, cond}
use mathlib.Core.Logic.{◌↔◌}
use native.Mathlib.Omega.{arith}
use borrow.Author.Tests.{eqb-true, eq-eqb}
use lib.Dec.{eqb}
use Rattle.wire.specs.Wire.{span}
use Rattle.lists.specs.Among.{Among, here, there}
use Rattle.container.specs.declared.directory.DirectoryEntry.{DirectoryEntry as Read}
use Rattle.container.specs.Header.{section_count}
use Rattle.container.specs.Directory.{entry_at, entries_from, entries, occurrences, entry_of, section}
use Rattle.soundness.specs.FileGrammar.{Entry, Occurs, OccursAgain, again, later}
use Rattle.soundness.proofs.FileFormat.{read_header, read_entry, read_entries, read_directory}

-- how many entries have a type
count : ℕ → List Entry → ℕ
count kind [] = 0
count kind (e ∷ es) = cond (eqb e.kind kind) (suc (count kind es)) (count kind es)

module _ (kind : ℕ) where
  some_counted : (es : List Entry) → 0 < count kind es → Occurs kind es
  unfolding count
  some_counted [] h = absurd (omega arith)
  some_counted (e ∷ es) h = go (eqb e.kind kind) refl (some_counted es)
    where
      go : (b : Bool) → eqb e.kind kind ≡ b → (0 < count kind es → Occurs kind es) → Occurs kind (e ∷ es)
      go true q rest = (e, here, eqb-true _ _ q)
      go false q rest = let (x, a, k) = rest (rw q at h) in (x, there a, k)

  counted_some : {e : Entry} {es : List Entry} → Among e es → e.kind ≡ kind → 0 < count kind es
  unfolding count
  counted_some {e = e} here k = rw (eq-eqb e.kind kind k) (omega arith)
  counted_some (there {y = y} {xs = xs} a) k = go (eqb y.kind kind) (counted_some a k)
    where
      go : (b : Bool) → 0 < count kind xs → 0 < cond b (suc (count kind xs)) (count kind xs)
      go true h = omega arith
      go false h = h

  more_counted : (es : List Entry) → 1 < count kind es → OccursAgain kind es
  unfolding count
  more_counted [] h = absurd (omega arith)
  more_counted (e ∷ es) h = go (eqb e.kind kind) refl (more_counted es)
    where
      go : (b : Bool) → eqb e.kind kind ≡ b → (1 < count kind es → OccursAgain kind es) → OccursAgain kind (e ∷ es)
      go true q rest =
          let k : 1 < suc (count kind es) = rw q at h in again (eqb-true _ _ q) (some_counted es (omega arith))
      go false q rest = later (rest (rw q at h))

  counted_more : {es : List Entry} → OccursAgain kind es → 1 < count kind es
  unfolding count
  counted_more (again {e = e} {es = es} k (x, a, l)) = rw (eq-eqb e.kind kind k) (omega (arith, counted_some a l))
  counted_more (later {e = e} {es = es} o) = go (eqb e.kind kind) (counted_more o)
    where
      go : (b : Bool) → 1 < count kind es → 1 < cond b (suc (count kind es)) (count kind es)
      go true h = omega arith
      go false h = h

module _ (file : List ℕ) where
  -- what is so of each
  module _ (Q : Read → Type 0) (P : Entry → Type 0) (same : (p : ℕ) → Q (entry_at file p) ↔ P (read_entry file p)) where
    each_forth : (n p : ℕ) → ((e : Read) → Among e (entries_from file n p) → Q e) →
        (e : Entry) → Among e (read_entries file n p) → P e
    unfolding entries_from read_entries
    each_forth (suc n) p f e here = (same p).0 (f (entry_at file p) here)
    each_forth (suc n) p f e (there a) = each_forth n (p + 60) (λ x b. f x (there b)) e a
    each_forth zero p f e x' = elim x' [ ]

    each_back : (n p : ℕ) → ((e : Entry) → Among e (read_entries file n p) → P e) →
        (e : Read) → Among e (entries_from file n p) → Q e
    unfolding entries_from read_entries
    each_back (suc n) p f e here = (same p).1 (f (read_entry file p) here)
    each_back (suc n) p f e (there a) = each_back n (p + 60) (λ x b. f x (there b)) e a
    each_back zero p f e x' = elim x' [ ]

    pub each_mirrored : ((e : Read) → Among e (entries file) → Q e) ↔ ((e : Entry) → Among e (read_directory file) → P e)
    unfolding entries section_count read_header
    each_mirrored = (each_forth (section_count file) 32, each_back (section_count file) 32)

  -- how often a type occurs
  module _ (kind : ℕ) where
    count_from : (n p : ℕ) → occurrences kind (entries_from file n p) ≡ count kind (read_entries file n p)
    unfolding occurrences entries_from entry_at count read_entry read_entries
    count_from zero p = refl
    count_from (suc n) p = rw (count_from n (p + 60))

    count_mirrored : occurrences kind (entries file) ≡ count kind (read_directory file)
    unfolding entries section_count read_header
    count_mirrored = count_from (section_count file) 32

    pub once_mirrored : (occurrences kind (entries file) ≤ 1) ↔ (OccursAgain kind (read_directory file) → ⊥)
    once_mirrored = rw count_mirrored (
      λ h o. omega (arith, counted_more kind o),
      λ n. few (count kind (read_directory file)) (λ h. n (more_counted kind (read_directory file) h)),
    )
      where
        few : (c : ℕ) → (1 < c → ⊥) → c ≤ 1
        few c n = omega (arith, n)

    pub again_mirrored : (1 < occurrences kind (entries file)) ↔ OccursAgain kind (read_directory file)
    again_mirrored = rw count_mirrored (more_counted kind (read_directory file), counted_more kind)

    pub there_mirrored : (0 < occurrences kind (entries file)) ↔ Occurs kind (read_directory file)
    there_mirrored =
        rw count_mirrored (some_counted kind (read_directory file), λ o. counted_some kind o.1 o.2)

    -- the entry of a type that occurs once, and its section
    entry_from : (n p : ℕ) (e : Entry) → Among e (read_entries file n p) → e.kind ≡ kind →
        count kind (read_entries file n p) ≤ 1 →
        ((entry_of kind (entries_from file n p)).offset ≡ e.offset) × ((entry_of kind (entries_from file n p)).size ≡ e.size)
    unfolding entry_of entries_from entry_at count read_entry read_entries
    entry_from (suc n) p e here k h = rw (eq-eqb e.kind kind k) (refl, refl)
    entry_from (suc n) p e (there a) k h =
        go (eqb (read_entry file p).kind kind) refl (counted_some kind a k) (entry_from n (p + 60) e a k)
      where
        go : (b : Bool) → eqb (read_entry file p).kind kind ≡ b → 0 < count kind (read_entries file n (p + 60)) →
            (count kind (read_entries file n (p + 60)) ≤ 1 →
            ((entry_of kind (entries_from file n (p + 60))).offset ≡ e.offset) ×
            ((entry_of kind (entries_from file n (p + 60))).size ≡ e.size)) →
            ((entry_of kind (entries_from file (suc n) p)).offset ≡ e.offset) ×
            ((entry_of kind (entries_from file (suc n) p)).size ≡ e.size)
        go true q some rest =
            let l : suc (count kind (read_entries file n (p + 60))) ≤ 1 = rw q at h in absurd (omega arith)
        go false q some rest = rw q (rest (rw q at h))
    entry_from zero p e x3 k h = elim x3 [ ]

    module _ (e : Entry) (a : Among e (read_directory file)) (k : e.kind ≡ kind) (h : occurrences kind (entries file) ≤ 1) where
      pub entry_mirrored : ((entry_of kind (entries file)).offset ≡ e.offset) × ((entry_of kind (entries file)).size ≡ e.size)
      unfolding entries section_count read_header
      entry_mirrored = entry_from (section_count file) 32 e a k (rw count_mirrored at h)

      pub section_mirrored : section file kind ≡ span file e.offset e.size
      unfolding section
      section_mirrored = rw (entry_mirrored.0, entry_mirrored.1)
