-- The rows 1 to 11 hold exactly where their numbers apply, where no row before them holds.
use Prim.Native.Nat.{ℕ, ◌+◌, ◌*◌, ◌%◌, ◌≤◌}
use mathlib.Core.Path.{◌≡◌, subst}
use mathlib.Core.List.{List}
use mathlib.Core.Bool.{true}
use mathlib.Core.Logic.{◌↔◌, inl, inr, ⊎_elim}
use native.Mathlib.Omega.{arith}
use native.Mathlib.Decide.{ℕ_discrete, dec_le, dec_lt, map_dec}
use lib.ListN.{length}
use Rattle.wire.specs.Wire.{span, ascii}
use Rattle.sha256_block.specs.Fips180.{sha256}
use Rattle.sizes.specs.Sizes.{file_size, sections_size}
use Rattle.container.specs.Directory.{Critical, Coded, Outside, Altered}
use Rattle.container.specs.Header.{too_long, too_short, other_magic, other_major, no_directory}
use Rattle.container.specs.Directory.{entries, some_entry, occurrences, repeated, missing}
use Rattle.container.specs.Checks.{header_checks, directory_checks}
use Rattle.container.proofs.HeaderLaws.{most_exactly, least_exactly}
use Rattle.refusals.specs.Refusals.{Clear, row_holds}
use Rattle.refusals.proofs.Rows.{clear_row}
use Rattle.soundness.specs.FileGrammar.{Header, HasHeader, Entry, HasDirectory, listed, Occurs, OccursAgain}
use Rattle.soundness.specs.Applies.{Applies, over, under, magic, major, sections, directory_offset, directory_end, critical, compression, algorithm, outside, again, missing as lost, digest}
use Rattle.soundness.proofs.FileFormat.{read_header, read_directory, one_header, has_header, one_directory, has_directory, one_section, has_section, of_directory, entry_read}
use Rattle.soundness.proofs.Decides.{dec_same, dec_both, dec_where, not_both_so, not_within, not_where, not_each, row_exactly}
use Rattle.soundness.proofs.Directory.{Directory, magic_fine, major_fine, directory_fine, Optional, Plain, Inside, Digested, All, dec_known, optional_fine, plain_fine, inside_fine, digest_fine, again_fine, there_fine}
use Rattle.soundness.proofs.Mirror.{again_mirrored, there_mirrored}
use Rattle.soundness.proofs.Smallest.{Means, ◌else◌}

-- ---- 1 to 5

module _ (file : List ℕ) where
  long_clash : Applies file 1 → length file ≤ file_size.most → ⊥
  long_clash (over h) l = omega arith

  short_clash : Applies file 2 → file_size.least ≤ length file → ⊥
  short_clash (under h) l = omega arith

  row_1 : (too_long file ≡ true) ↔ Applies file 1
  row_1 = row_exactly _ (most_exactly file) (λ n. over (omega (arith, n))) long_clash

  row_2 : (too_short file ≡ true) ↔ Applies file 2
  row_2 = row_exactly _ (least_exactly file) (λ n. under (omega (arith, n))) short_clash

  -- a header is the one that is read
  of_header : (P : Header → Type 0) {h : Header} → HasHeader h file → P (read_header file) → P h
  of_header P k = subst P (one_header k).0

  module _ (long : file_size.least ≤ length file) where
    magic_clash : Applies file 3 → (read_header file).magic ≡ ascii "ARBORICX" → ⊥
    magic_clash (magic k n) e = n (of_header (λ h. h.magic ≡ ascii "ARBORICX") k e)

    row_3 : (other_magic file ≡ true) ↔ Applies file 3
    row_3 = row_exactly _ (magic_fine file long) (magic (has_header file long)) magic_clash

    major_clash : Applies file 4 → (read_header file).major ≡ 1 → ⊥
    major_clash (major k n) e = n (of_header (λ h. h.major ≡ 1) k e)

    row_4 : (other_major file ≡ true) ↔ Applies file 4
    row_4 = row_exactly _ (major_fine file) (major (has_header file long)) major_clash

    no_directory_lem : (Directory file (read_header file) → ⊥) → Applies file 5
    no_directory_lem n =
        let h = read_header file in
        let k = has_header file long in
        elim (dec_both (dec_le sections_size.least h.sections) (dec_le h.sections sections_size.most)) [
          | yes a ↦ elim (ℕ_discrete h.directory 32) [
            | yes b ↦
                let past : 32 + 60 * h.sections ≤ length file → ⊥ = λ c. n (a.0, a.1, b, c) in
                directory_end k (omega (arith, past))
            | no b ↦ directory_offset k b
          ]
          | no a ↦ sections k (not_within _ _ _ a)
        ]

    directory_clash : Applies file 5 → Directory file (read_header file) → ⊥
    directory_clash (sections k n) d =
        let e = of_header (Directory file) k d in ⊎_elim (λ a. omega arith) (λ a. omega arith) n
    directory_clash (directory_offset k n) d = n (of_header (Directory file) k d).2
    directory_clash (directory_end k n) d = let e = of_header (Directory file) k d in omega arith

    row_5 : (no_directory file ≡ true) ↔ Applies file 5
    row_5 = row_exactly _ (directory_fine file) no_directory_lem directory_clash

  pub header_means : Means (Applies file) (header_checks file)
  unfolding header_checks
  header_means =
      row_1 else λ _.
      row_2 else λ e.
      let long = (least_exactly file).0 e in
      row_3 long else λ _.
      row_4 long else λ _.
      row_5 long else λ _.
      tt

  pub header_directory : Clear (header_checks file) → HasDirectory (read_header file) (read_directory file) file
  unfolding header_checks row_holds
  header_directory h = has_directory file ((directory_fine file).0 (clear_row 5 h)).3

-- ---- 6 to 11

module _ (file : List ℕ) where
  module _ (here : HasDirectory (read_header file) (read_directory file) file) where
    row_6 : (some_entry file Critical (entries file) ≡ true) ↔ Applies file 6
    row_6 = row_exactly _ (optional_fine file) fault clash
      where
        fault : (All file Optional → ⊥) → Applies file 6
        fault n =
            let dec : (e : Entry) → Dec (Optional e) =
            λ e. dec_where (dec_where (dec_known e) (no (λ x. x))) (ℕ_discrete (e.flags % 2) 0) in
            let (e, a, k) = not_each Optional dec (read_directory file) n in
            let (u, odd) = not_where (dec_where (dec_known e) (no (λ x. x))) k in
            critical (listed here a) u (omega (arith, odd))

        clash : Applies file 6 → All file Optional → ⊥
        clash (critical {e = e} k u o) f = omega (arith, f e (entry_read k) u)

    row_7 : (some_entry file Coded (entries file) ≡ true) ↔ Applies file 7
    row_7 = row_exactly _ (plain_fine file) fault clash
      where
        fault : (All file Plain → ⊥) → Applies file 7
        fault n =
            let (e, a, k) =
            not_each Plain (λ e. dec_both (ℕ_discrete e.compression 0) (ℕ_discrete e.algorithm 1))
            (read_directory file) n in
            ⊎_elim (compression (listed here a)) (algorithm (listed here a)) (not_both_so (ℕ_discrete e.compression 0) k)

        clash : Applies file 7 → All file Plain → ⊥
        clash (compression {e = e} k n) f = n (f e (entry_read k)).0
        clash (algorithm {e = e} k n) f = n (f e (entry_read k)).1

    row_8 : (some_entry file Outside (entries file) ≡ true) ↔ Applies file 8
    row_8 = row_exactly _ (inside_fine file) fault clash
      where
        fault : (All file (Inside file) → ⊥) → Applies file 8
        fault n =
            let (e, a, k) = not_each (Inside file) (λ e. dec_le (e.offset + e.size) (length file)) (read_directory file) n in
            outside (listed here a) (omega (arith, k))

        clash : Applies file 8 → All file (Inside file) → ⊥
        clash (outside {e = e} k n) f = omega (arith, f e (entry_read k))

    dec_again : (kind : ℕ) → Dec (OccursAgain kind (read_directory file))
    dec_again kind =
        let f = again_mirrored file kind in map_dec f.0 f.1 (dec_lt 1 (occurrences kind (entries file)))

    dec_there : (kind : ℕ) → Dec (Occurs kind (read_directory file))
    dec_there kind =
        let f = there_mirrored file kind in map_dec f.0 f.1 (dec_lt 0 (occurrences kind (entries file)))

    row_9 : (repeated file ≡ true) ↔ Applies file 9
    row_9 = row_exactly _ (again_fine file) fault clash
      where
        fault : ((OccursAgain 1 (read_directory file) → ⊥) × (OccursAgain 2 (read_directory file) → ⊥) → ⊥) → Applies file 9
        fault n = elim (dec_again 1) [
          | yes o ↦ again here (inl o)
          | no k ↦ elim (dec_again 2) [
            | yes o ↦ again here (inr o)
            | no l ↦ absurd (n (k, l))
          ]
        ]

        clash : Applies file 9 → (OccursAgain 1 (read_directory file) → ⊥) × (OccursAgain 2 (read_directory file) → ⊥) → ⊥
        clash (again k o) f =
            ⊎_elim (λ p. f.0 (of_directory (OccursAgain 1) k p)) (λ p. f.1 (of_directory (OccursAgain 2) k p)) o

    row_10 : (missing file ≡ true) ↔ Applies file 10
    row_10 = row_exactly _ (there_fine file) fault clash
      where
        fault : (Occurs 1 (read_directory file) × Occurs 2 (read_directory file) → ⊥) → Applies file 10
        fault n = lost here (not_both_so (dec_there 1) n)

        clash : Applies file 10 → Occurs 1 (read_directory file) × Occurs 2 (read_directory file) → ⊥
        clash (lost k o) f =
            let q = (one_directory k).1 in
            ⊎_elim (λ p. p (subst (Occurs 1) q f.0)) (λ p. p (subst (Occurs 2) q f.1)) o

    row_11 : All file (Inside file) → (some_entry file Altered (entries file) ≡ true) ↔ Applies file 11
    row_11 inside = row_exactly _ (digest_fine file) fault clash
      where
        fault : (All file (Digested file) → ⊥) → Applies file 11
        fault n =
            let (e, a, k) =
            not_each (Digested file)
            (λ e. dec_where (dec_known e) (dec_same (sha256 (span file e.offset e.size)) e.digest))
            (read_directory file) n in
            let (u, d) = not_where (dec_known e) k in
            digest (listed here a) u (has_section file e (inside e a)) d

        clash : Applies file 11 → All file (Digested file) → ⊥
        clash (digest {e = e} k u i n) f =
            n (subst (λ (s : List ℕ). sha256 s ≡ e.digest) (one_section i).1 (f e (entry_read k) u))

    pub directory_means : Means (Applies file) (directory_checks file)
    unfolding directory_checks
    directory_means =
        row_6 else λ _.
        row_7 else λ _.
        row_8 else λ e.
        row_9 else λ _.
        row_10 else λ _.
        row_11 ((inside_fine file).0 e) else λ _.
        tt
