-- The two calls on exports, in a file in which none of 1 to 14 holds.
use Rattle.std.specs.Prelude.{Option, Some, None}
use Prim.Native.Nat.{ℕ, ◌+◌, ◌≤◌, ◌<◌}
use mathlib.Core.Path.{◌≡◌, refl, sym, ap, ◌∙◌}
use mathlib.Core.List.{List, [], ◌∷◌}
use native.Mathlib.Nat.{sub-zero}
use native.Mathlib.Omega.{arith}
use native.Mathlib.Decide.{ℕ_discrete}
use borrow.Author.Tests.{ne_eqb}
use lib.ListN.{length, get_or}
use Rattle.lists.specs.Lists.{index_of}
use Rattle.lists.specs.Among.{Distinct}
use Rattle.lists.proofs.Index.{index_among, distinct_index, index_is, index_none}
use Rattle.wire.proofs.Spans.{span_none}
use Rattle.manifest.specs.Content.{text_at, names}
use Rattle.manifest.specs.Judged.{exports_of, export_place, export_index}
use Rattle.manifest.proofs.Places.{place_name}
use Rattle.container.specs.Directory.{manifest_section}
use Rattle.bundle.specs.Checks.{name_refusal}
use Rattle.bundle.specs.Exports.{name_at, name_part, name_call, index_asked, index_answer, index_call}
use Rattle.bundle.proofs.NameParts.{name_inside, name_bytes}

-- of byte strings that are all different, each is found where it stands
pub found_there : (xs : List (List ℕ)) (i : ℕ) → Distinct xs → i < length xs → index_of (get_or xs i []) 0 xs ≡ Some i
found_there xs i d h = go (index_of (get_or xs i []) 0 xs) refl
  where
    go : (f : Option ℕ) → index_of (get_or xs i []) 0 xs ≡ f → index_of (get_or xs i []) 0 xs ≡ Some i
    go (Some k) e =
        let (a, b, c) = index_is (get_or xs i []) 0 xs k e in
        let q : k ≡ i = distinct_index [] d k i (omega arith) h (rw sub-zero at c) in e ∙ ap Some q
    go None e = absurd (index_none (get_or xs i []) 0 xs e (index_among [] xs i h))

module _ (file : List ℕ) (fine : name_refusal file ≡ 0) where
  pub name_read : (i : ℕ) → name_call file i ≡ get_or (names (exports_of (manifest_section file))) i []
  unfolding name_call name_part name_at text_at
  name_read i = go (export_place m i) refl
    where
      m : List ℕ
      m = manifest_section file

      go : (p : Option ℕ) → export_place m i ≡ p → name_call file i ≡ get_or (names (exports_of m)) i []
      go (Some at) f = rw (fine, f) (sym (name_bytes file fine i f) ∙ sym (place_name m i ∙ ap (text_at m) f))
      go None f = rw (fine, f) (span_none file ∙ sym (place_name m i ∙ ap (text_at m) f))

  pub index_asked_lem : (name : List ℕ) → index_call file name ≡ index_answer (index_asked (manifest_section file) name)
  unfolding index_call
  index_asked_lem name = rw fine

-- a name that is not empty
pub asked_name : (m name : List ℕ) → (name ≡ [] → ⊥) → index_asked m name ≡ index_of name 0 (names (exports_of m))
unfolding index_asked export_index
asked_name m [] h = absurd (h refl)
asked_name m (b ∷ bs) h = refl

-- the part that a name is lies in the file: it is empty, or none of 1 to 14 holds
pub part_inside : (file : List ℕ) (i : ℕ) → (name_part file i).start + (name_part file i).size ≤ length file
unfolding name_part name_at
part_inside file i = elim (ℕ_discrete (name_refusal file) 0) [
  | yes fine ↦ go fine (export_place (manifest_section file) i) refl
  | no k ↦ rw (ne_eqb (name_refusal file) 0 k) (omega arith)
]
  where
    go : name_refusal file ≡ 0 → (p : Option ℕ) → export_place (manifest_section file) i ≡ p →
        (name_part file i).start + (name_part file i).size ≤ length file
    go fine (Some at) f = rw (fine, f) (name_inside file fine i f)
    go fine None f = rw (fine, f) (omega arith)
