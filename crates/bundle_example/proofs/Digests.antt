-- The checks of a changed bundle, where no block that the bundle itself has is computed again.
use Prim.Native.Nat.{ℕ, zero, suc, ◌/◌}
use mathlib.Core.Path.{◌≡◌, refl, ap}
use mathlib.Core.List.{List, [], ◌∷◌, ◌++◌, map}
use mathlib.Core.Bool.{Bool, false, not, cond}
use lib.ListN.{length, get_or, take, drop, set}
use Rattle.wire.specs.Wire.{ascii}
use Rattle.lists.specs.Lists.{same_bytes, some_of}
use Rattle.lists.proofs.Same.{same_sound}
use Rattle.table.proofs.Tests.{by_test}
use Rattle.sha256_block.specs.Fips180.{K, H0, tabulate, length_bytes, padding, padded, next_word, schedule, round, rounds, combined}
use Rattle.sha256_block.specs.Fips180.{compress, hash, bytes_of, sha256}
use Rattle.nodes.specs.Records.{NodeRecord, nodes_of, node_hash, record_faulty, some_record}
use Rattle.container.specs.Directory.{entries, known, section_of, digest_of, altered, nodes_section, entry_faulty}
use Rattle.container.specs.Directory.{some_entry}
use Rattle.bundle.specs.Checks.{manifest_checks, node_checks, name_checks}
use Rattle.refusals.specs.Refusals.{◌when◌, answer}
use Rattle.container.specs.Checks.{header_checks, directory_checks, container_checks}
use Rattle.bundle.specs.Checks.{checks, refusal}
use Rattle.bundle_example.specs.Leaf.{leaf_bundle}

-- what a block makes of a hash value
pub record Step : Type 0 where
  pub value : List ℕ
  pub block : List ℕ
  pub next : List ℕ

-- the steps of a padded message, given the hash values that they come to
abbrev steps_of : List ℕ → List ℕ → List (List ℕ) → List Step
steps_of v m [] = []
steps_of v m (n ∷ ns) = record { value = v; block = take 64 m; next = n } ∷ steps_of n (drop 64 m) ns

-- those of the manifest, of the nodes, and of the leaf's hash
unfoldable pub steps : List Step
steps =
    steps_of H0 (padded (take 361 (drop 152 leaf_bundle)))
    ((0xb1264f60 ∷ 0xeb2262b2 ∷ 0x3ddcee07 ∷ 0xbcaf5ac2 ∷ 0xc7f01b22 ∷ 0xefd6ebc3 ∷ 0x85236fc8 ∷ 0x42860c69 ∷ []) ∷
    (0xfadc17b0 ∷ 0xd40fcc96 ∷ 0xc9e15aaf ∷ 0xc9a3b0aa ∷ 0x9a53561a ∷ 0x20a23201 ∷ 0xed78eb22 ∷ 0x718e1085 ∷ []) ∷
    (0x3ffce8d6 ∷ 0x0ddec677 ∷ 0xbe862957 ∷ 0xb278843a ∷ 0xb7d8e18e ∷ 0xc45091c9 ∷ 0xe06f1587 ∷ 0x55e74687 ∷ []) ∷
    (0x4d1ef03f ∷ 0xd1f6f33b ∷ 0x44107af5 ∷ 0xbd6b6528 ∷ 0x7211ee12 ∷ 0xe80cb1ad ∷ 0xf9024c97 ∷ 0x70039381 ∷ []) ∷
    (0x677f30b4 ∷ 0xd4f63519 ∷ 0x006f4acb ∷ 0x4cd2b7ff ∷ 0x1bb0a248 ∷ 0x3c9feaeb ∷ 0x68e0e636 ∷ 0xd7515f6a ∷ []) ∷
    (0x9e4b8893 ∷ 0xdb5352bd ∷ 0x5bae98c3 ∷ 0xf31f66b6 ∷ 0x7a5cdfc2 ∷ 0x298f4be7 ∷ 0x6cab40b1 ∷ 0x602bac20 ∷ []) ∷
    []) ++
    (steps_of H0 (padded (drop 513 leaf_bundle))
    ((0x5c52c9c8 ∷ 0xc7bc6d47 ∷ 0xb38ee08a ∷ 0x76e165c1 ∷ 0x6a684979 ∷ 0xcbc0d4a2 ∷ 0x42bfb24e ∷ 0x4d9230d0 ∷ []) ∷ []) ++
    steps_of H0 (padded (ascii "arboricx.merkle.node.v1" ++ (0 ∷ 0 ∷ [])))
    ((0x92b8a979 ∷ 0x6dbeafbc ∷ 0xd3675753 ∷ 0x58762563 ∷ 0x92170d13 ∷ 0x7bf36b31 ∷ 0x9d77f11a ∷ 0x37112158 ∷ []) ∷ []))

Right : List Step → Type 0
Right ss = map (λ s. compress s.value s.block) ss ≡ map (λ s. s.next) ss

steps_right : Right steps
unfolding Right steps leaf_bundle K H0 tabulate length_bytes padding padded next_word schedule round rounds combined compress
steps_right = refl

-- one block by the steps that are known, else computed
unfoldable pub next_from : List Step → List ℕ → List ℕ → List ℕ
next_from [] v b = compress v b
next_from (s ∷ ss) v b =
    cond (same_bytes s.block b) (cond (same_bytes s.value v) s.next (next_from ss v b)) (next_from ss v b)

next_is : (ss : List Step) → Right ss → (v b : List ℕ) → compress v b ≡ next_from ss v b
unfolding Right next_from
next_is [] right v b = refl
next_is (s ∷ ss) right v b =
    let Is : List ℕ → Type 0 = λ y. compress v b ≡ y in
    let here : compress s.value s.block ≡ s.next = ap (λ (vs : List (List ℕ)). get_or vs 0 []) right in
    let there : compress v b ≡ next_from ss v b = next_is ss (ap (λ (vs : List (List ℕ)). drop 1 vs) right) v b in
    by_test Is (same_bytes s.block b)
    (λ p. by_test Is (same_bytes s.value v) (λ q. rw (← same_sound _ _ p, ← same_sound _ _ q) here) (λ q. there))
    (λ p. there)

-- so the digest of any message
unfoldable pub hash_by : ℕ → List ℕ → List ℕ → List ℕ
hash_by zero v m = v
hash_by (suc n) v m = hash_by n (next_from steps v (take 64 m)) (drop 64 m)

hash_is : (n : ℕ) (v m : List ℕ) → hash n v m ≡ hash_by n v m
unfolding hash hash_by
hash_is zero v m = refl
hash_is (suc n) v m = rw (next_is steps steps_right v (take 64 m)) (hash_is n _ (drop 64 m))

unfoldable pub digest : List ℕ → List ℕ
digest m = bytes_of (hash_by (length (padded m) / 64) H0 (padded m))

digest_is : (m : List ℕ) → sha256 m ≡ digest m
unfolding sha256 digest
digest_is m = ap bytes_of (hash_is (length (padded m) / 64) H0 (padded m))

-- 11 and 16 by another function for the digests
abbrev altered_by : (List ℕ → List ℕ) → List ℕ → Bool
altered_by h file =
    some_of (λ e rest. cond (known e.kind) (not (same_bytes (h (section_of file e)) (digest_of file e))) false) (entries file)

abbrev wrong_by : (List ℕ → List ℕ) → List NodeRecord → Bool
wrong_by h rs = some_of (λ r rest. not (same_bytes r.hash (h (ascii "arboricx.merkle.node.v1" ++ (0 ∷ r.payload))))) rs

abbrev pub refusal_by : (List ℕ → List ℕ) → List ℕ → ℕ
refusal_by h file =
    answer (set (set (checks file) 10 (11 when altered_by h file)) 15 (16 when wrong_by h (nodes_of (nodes_section file))))

pub refusal_by_lem : (file : List ℕ) → refusal file ≡ refusal_by digest file
unfolding entry_faulty some_entry altered node_hash record_faulty some_record header_checks directory_checks manifest_checks node_checks
    container_checks name_checks checks refusal
refusal_by_lem file = λ i. refusal_by (λ m. digest_is m i) file
