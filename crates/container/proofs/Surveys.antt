-- Laws of the walk over the directory: a turn, where it starts and ends, and what it tells of each row.
use Prim.Native.Nat.{ℕ, zero, suc, ◌+◌, ◌*◌, ◌-◌, ◌^◌, ◌≤◌, ◌<◌}
use mathlib.Core.Path.{◌≡◌, refl, sym, ap, ◌∙◌}
use mathlib.Core.List.{List, [], ◌∷◌}
use mathlib.Core.Bool.{Bool, true, false, cond}
use native.Mathlib.Omega.{arith}
use borrow.Author.Tests.{eqb-true}
use lib.Dec.{ltb, eqb}
use Rattle.lists.specs.Lists.{any_of, some_of}
use Rattle.lists.proofs.Tests.{below_exactly, cond_test, either_false}
use Rattle.refusals.specs.Refusals.{none, more}
use Rattle.wire.specs.declared.Part.{Part}
use Rattle.container.specs.declared.directory.DirectoryEntry.{DirectoryEntry}
use Rattle.container.specs.declared.directory.Survey.{Survey}
use Rattle.container.specs.Header.{header_bytes, entry_bytes, section_count}
use Rattle.container.specs.Directory.{Critical, Coded, Outside, Altered, altered, entry_faulty, some_entry, repeated, missing}
use Rattle.container.specs.Directory.{entry_at, entries_from, entries, manifest_kind, nodes_kind, occurrences, no_entry, entry_of}
use Rattle.container.specs.Checks.{part_of, sections_of}
use Rattle.container.specs.Survey.{type_found, surveyed, either, type_noted, noted, repeated_in, missing_in, altered_in}

-- ---- one turn

type_more : (kind : ℕ) (es : List DirectoryEntry) (e : DirectoryEntry) →
    type_noted kind (type_found kind es) e ≡ type_found kind (e ∷ es)
unfolding type_noted occurrences entry_of
type_more kind es e = test (eqb e.kind kind) refl
  where
    test : (b : Bool) → eqb e.kind kind ≡ b → type_noted kind (type_found kind es) e ≡ type_found kind (e ∷ es)
    test true q =
        let m : occurrences kind es + 1 ≡ suc (occurrences kind es) = omega arith in
        rw q (λ i. record { times = m i; first = e })
    test false q = rw q

module _ (file : List ℕ) where
  survey_more : (es : List DirectoryEntry) (e : DirectoryEntry) → noted file (surveyed file es) e ≡ surveyed file (e ∷ es)
  unfolding noted surveyed some_entry some_of entry_faulty
  survey_more es e = rw (type_more manifest_kind es e, type_more nodes_kind es e)

  -- of n entries, those after the first `left`
  abbrev pub entries_after : ℕ → ℕ → List DirectoryEntry
  entries_after n left = entries_from file (n - left) (header_bytes + entry_bytes * left)

  pub survey_start : (n : ℕ) →
      record {
        critical = false;
        coded = false;
        outside = false;
        manifest = record { times = 0; first = no_entry };
        nodes = record { times = 0; first = no_entry };
      }
      ≡ surveyed file (entries_after n n)
  unfolding surveyed some_entry some_of occurrences entry_of entries_from
  survey_start n = let m : n - n ≡ 0 = omega arith in rw m

  pub survey_step : (n left : ℕ) → 0 < left → left ≤ n → {s r : Survey} {e : DirectoryEntry} →
      s ≡ surveyed file (entries_after n left) → e ≡ entry_at file (header_bytes + entry_bytes * (left - 1)) → r ≡ noted file s e →
      r ≡ surveyed file (entries_after n (left - 1))
  unfolding entries_from
  survey_step n left h l g f k =
      let m : n - (left - 1) ≡ suc (n - left) = omega arith in
      let p : header_bytes + entry_bytes * (left - 1) + entry_bytes ≡ header_bytes + entry_bytes * left = omega arith in
      rw (k, g, f, m, p) (survey_more (entries_after n left) (entry_at file (header_bytes + entry_bytes * (left - 1))))

  pub survey_end : (left : ℕ) → left ≤ 0 → {s : Survey} → s ≡ surveyed file (entries_after (section_count file) left) →
      s ≡ surveyed file (entries file)
  unfolding entries
  survey_end left h g =
      let m : section_count file - left ≡ section_count file = omega arith in
      let p : header_bytes + entry_bytes * left ≡ header_bytes = omega arith in
      rw (m, p) at g

  -- no count passes the number of entries
  occurrences_most : (kind n p : ℕ) → occurrences kind (entries_from file n p) ≤ n
  unfolding entries_from occurrences
  occurrences_most kind zero p = omega arith
  occurrences_most kind (suc n) p = test (eqb (entry_at file p).kind kind) (occurrences_most kind n (p + entry_bytes))
    where
      test : (b : Bool) {o : ℕ} → o ≤ n → cond b (suc o) o ≤ suc n
      test true h = omega arith
      test false h = omega arith

  pub times_fit : (n p : ℕ) {s : Survey} → s ≡ surveyed file (entries_from file n p) → n + 1 < 2 ^ 64 →
      (s.manifest.times + 1 < 2 ^ 64) × (s.nodes.times + 1 < 2 ^ 64)
  unfolding surveyed
  times_fit n p g h =
      rw g (omega (arith, occurrences_most manifest_kind n p, h), omega (arith, occurrences_most nodes_kind n p, h))

-- ---- 11 asks the first entry of each type: where neither type occurs twice, there is no other

module _ (kind : ℕ) where
  fewer : (k : ℕ) (e : DirectoryEntry) (es : List DirectoryEntry) → occurrences kind (e ∷ es) ≤ k → occurrences kind es ≤ k
  unfolding occurrences
  fewer k e es h = test (eqb e.kind kind) h
    where
      test : (b : Bool) → cond b (suc (occurrences kind es)) (occurrences kind es) ≤ k → occurrences kind es ≤ k
      test true g = omega arith
      test false g = g

  none_left : (e : DirectoryEntry) (es : List DirectoryEntry) → eqb e.kind kind ≡ true → occurrences kind (e ∷ es) ≤ 1 →
      occurrences kind es ≤ 0
  unfolding occurrences
  none_left e es q h = let g : suc (occurrences kind es) ≤ 1 = rw q at h in omega arith

  none_there : (es : List DirectoryEntry) → occurrences kind es ≤ 0 → entry_of kind es ≡ no_entry
  unfolding occurrences entry_of
  none_there [] h = refl
  none_there (e ∷ es) h = test (eqb e.kind kind) refl (none_there es)
    where
      test : (b : Bool) → eqb e.kind kind ≡ b → (occurrences kind es ≤ 0 → entry_of kind es ≡ no_entry) →
          entry_of kind (e ∷ es) ≡ no_entry
      test true q rest = let g : suc (occurrences kind es) ≤ 0 = rw q at h in absurd (omega arith)
      test false q rest = let g : occurrences kind es ≤ 0 = rw q at h in rw q (rest g)

either_swapped : (a b : Bool) → either a b ≡ either b a
either_swapped true true = refl
either_swapped true false = refl
either_swapped false true = refl
either_swapped false false = refl

module _ (file : List ℕ) where
  none_unaltered : altered file no_entry ≡ false
  unfolding altered
  none_unaltered = refl

  other_unaltered : (e : DirectoryEntry) → eqb e.kind manifest_kind ≡ false → eqb e.kind nodes_kind ≡ false →
      altered file e ≡ false
  unfolding altered
  other_unaltered e p q = rw (p, q)

  altered_once : (es : List DirectoryEntry) → occurrences manifest_kind es ≤ 1 → occurrences nodes_kind es ≤ 1 →
      some_entry file Altered es ≡ either (altered file (entry_of manifest_kind es)) (altered file (entry_of nodes_kind es))
  unfolding some_entry some_of entry_faulty entry_of
  altered_once [] m n = rw none_unaltered
  altered_once (e ∷ es) m n =
      test (eqb e.kind manifest_kind) (eqb e.kind nodes_kind) refl refl
      (altered_once es (fewer manifest_kind 1 e es m) (fewer nodes_kind 1 e es n))
    where
      test : (a b : Bool) → eqb e.kind manifest_kind ≡ a → eqb e.kind nodes_kind ≡ b →
          some_entry file Altered es ≡ either (altered file (entry_of manifest_kind es)) (altered file (entry_of nodes_kind es)) →
          some_entry file Altered (e ∷ es) ≡
          either (altered file (entry_of manifest_kind (e ∷ es))) (altered file (entry_of nodes_kind (e ∷ es)))
      test true true p q rest = absurd (omega (arith, eqb-true e.kind manifest_kind p, eqb-true e.kind nodes_kind q))
      test true false p q rest =
          let only : some_entry file Altered es ≡ altered file (entry_of nodes_kind es) =
          rw (none_there manifest_kind es (none_left manifest_kind e es p m), none_unaltered) at rest in
          rw (p, q) (ap (either (altered file e)) only)
      test false true p q rest =
          let only : some_entry file Altered es ≡ altered file (entry_of manifest_kind es) =
          rw (none_there nodes_kind es (none_left nodes_kind e es q n), none_unaltered, cond_test) at rest in
          rw (p, q) (ap (either (altered file e)) only ∙ either_swapped (altered file e) (altered file (entry_of manifest_kind es)))
      test false false p q rest = rw (other_unaltered e p q, p, q) rest

-- ---- what the walk tells of each row; s is what it found, r what a test of s answered

module _ (file : List ℕ) {s : Survey} (e : s ≡ surveyed file (entries file)) {b : Bool} where
  pub found_critical : s.critical ≡ b → some_entry file Critical (entries file) ≡ b
  unfolding surveyed
  found_critical q = rw e at q

  pub found_coded : s.coded ≡ b → some_entry file Coded (entries file) ≡ b
  unfolding surveyed
  found_coded q = rw e at q

  pub found_outside : s.outside ≡ b → some_entry file Outside (entries file) ≡ b
  unfolding surveyed
  found_outside q = rw e at q

  module _ {r : Bool} where
    pub found_repeated : r ≡ repeated_in s → r ≡ b → repeated file ≡ b
    unfolding surveyed repeated_in repeated any_of
    found_repeated t q = rw cond_test (sym (rw (e, q) at t))

    pub found_missing : r ≡ missing_in s → r ≡ b → missing file ≡ b
    unfolding surveyed missing_in missing any_of
    found_missing t q = rw cond_test (sym (rw (e, q) at t))

    pub found_altered : repeated file ≡ false → r ≡ altered_in file s → r ≡ b → some_entry file Altered (entries file) ≡ b
    unfolding surveyed altered_in repeated any_of
    found_altered once t q =
        let manifests = occurrences manifest_kind (entries file) in
        let nodes = occurrences nodes_kind (entries file) in
        let (m, n) = (either_false (ltb 1 manifests) (ltb 1 nodes)).0 (rw cond_test at once) in
        altered_once file (entries file) ((below_exactly 1 manifests).0 m) ((below_exactly 1 nodes).0 n) ∙ sym (rw e at t) ∙ q

-- what `search` builds from the tests of a survey that were made so far
pub ruleset surveying =
    (none, more, found_critical, found_coded, found_outside, found_repeated, found_missing, found_altered)

-- the sections that it hands on
pub found_sections : (file : List ℕ) {s : Survey} → s ≡ surveyed file (entries file) → {m n : Part} →
    m ≡ part_of s.manifest.first → n ≡ part_of s.nodes.first → record { manifest = m; nodes = n } ≡ sections_of file
unfolding surveyed
found_sections file e p q = rw (p, q, e)
