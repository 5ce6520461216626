-- What is read of the exports: where none of 1 to 14 holds a part that is a name has the bytes of the name; and an index is small.
use Rattle.std.specs.Prelude.{Option, Some, None, Result, Ok, Err}
use Prim.Native.Nat.{ℕ, ◌<◌}
use mathlib.Core.Path.{◌≡◌, refl, sym, ap, ◌∙◌}
use mathlib.Core.List.{List, [], ◌∷◌}
use native.Mathlib.Omega.{arith}
use native.Mathlib.Decide.{ℕ_discrete}
use borrow.Author.Tests.{eq-eqb, ne_eqb}
use lib.ListN.{get_or}
use Rattle.lists.proofs.Index.{index_is}
use Rattle.wire.specs.Wire.{span}
use Rattle.wire.specs.declared.Part.{Part}
use Rattle.wire.proofs.Spans.{span_none}
use Rattle.sizes.specs.Sizes.{exports_size}
use Rattle.manifest.specs.Content.{text_at, names}
use Rattle.manifest.specs.Judged.{exports_of, export_place, export_index}
use Rattle.manifest.proofs.Places.{place_name}
use Rattle.manifest.proofs.Names.{names_length}
use Rattle.manifest.proofs.Counted.{few_exports}
use Rattle.container.specs.Directory.{manifest_section}
use Rattle.bundle.specs.Checks.{name_refusal}
use Rattle.bundle.specs.Exports.{name_at, name_part, name_call, index_asked, index_answer, index_call}
use Rattle.bundle.proofs.NameParts.{name_bytes}

module _ (file : List ℕ) (fine : name_refusal file ≡ 0) (i : ℕ) where
  -- p stands for the part, as the call answered it
  pub part_read : {p : Part} → p ≡ name_at file (export_place (manifest_section file) i) →
      span file p.start p.size ≡ get_or (names (exports_of (manifest_section file))) i []
  unfolding name_at text_at
  part_read {p} e = ap (λ (x : Part). span file x.start x.size) e ∙ go (export_place m i) refl
    where
      m : List ℕ
      m = manifest_section file

      go : (x : Option ℕ) → export_place m i ≡ x →
          span file (name_at file (export_place m i)).start (name_at file (export_place m i)).size ≡ get_or (names (exports_of m)) i []
      go (Some at) f = rw f (sym (name_bytes file fine i f) ∙ sym (place_name m i ∙ ap (text_at m) f))
      go None f = rw f (span_none file ∙ sym (place_name m i ∙ ap (text_at m) f))

  pub name_read : name_call file i ≡ get_or (names (exports_of (manifest_section file))) i []
  unfolding name_call name_part
  name_read = rw fine (part_read refl)

-- the empty name means the first export, and any other is one of few
asked_small : (m name : List ℕ) {i : ℕ} → index_asked m name ≡ Some i → i < exports_size.most
unfolding index_asked export_index
asked_small m [] {i} e = let z : 0 ≡ i = cc in omega arith
asked_small m (b ∷ bs) {i} e =
    omega (
      arith,
      (index_is (b ∷ bs) 0 (names (exports_of m)) i e).1,
      names_length (exports_of m),
      few_exports m,
    )

-- a stands for the answer
pub index_small : (file name : List ℕ) {a : Result ℕ ℕ} {i : ℕ} → a ≡ index_call file name → a ≡ Ok i → i < exports_size.most
unfolding index_call
index_small file name {a} {i} e h = elim (ℕ_discrete (name_refusal file) 0) [
  | yes z ↦ go (index_asked (manifest_section file) name) refl (sym h ∙ (rw (eq-eqb (name_refusal file) 0 z) at e))
  | no z ↦
      let q : Ok i ≡ Err (name_refusal file) = sym h ∙ (rw (ne_eqb (name_refusal file) 0 z) at e) in
      let k : ◌≡◌ {A = ℕ} 0 1 = cc in absurd (omega arith)
]
  where
    go : (f : Option ℕ) → index_asked (manifest_section file) name ≡ f → Ok i ≡ index_answer (index_asked (manifest_section file) name) →
        i < exports_size.most
    go (Some k) f q = let s : i ≡ k = cc (rw f at q) in asked_small (manifest_section file) name (rw (sym s) at f)
    go None f q = let z : ◌≡◌ {A = ℕ} 0 1 = cc (rw f at q) in absurd (omega arith)
