-- A layout is found exactly where each part of a manifest ends where the next begins.
use Rattle.std.specs.Prelude.{Some}
use Prim.Native.Nat.{ℕ}
use mathlib.Core.Path.{◌≡◌, refl, subst}
use mathlib.Core.List.{List}
use borrow.Author.Tests.{eqb-true, eq-eqb}
use lib.ListN.{length}
use Rattle.sizes.specs.Sizes.{any_count, roots_size, exports_size, fields_size}
use Rattle.manifest_shape.specs.declared.parts.Kind.TheVariants.{Text, Root, Export, Field}
use Rattle.manifest_shape.specs.declared.Layout.{Layout}
use Rattle.manifest_shape.specs.Shape.{items_end, counted_end, closure_end, head_end, manifest_of}
use Rattle.std.proofs.lemmas.Option.{option_and_then_some, cond_some}

-- each part of a manifest ends where the next begins, and the last at the end
pub record Laid (s : List ℕ) (l : Layout) (metadata extensions : ℕ) : Type 0 where
  pub head : head_end s ≡ Some l.strings
  pub strings : items_end s Text 9 l.strings ≡ Some l.capabilities
  pub capabilities : counted_end s Text any_count l.capabilities ≡ Some l.closure
  pub closure : closure_end s l.closure ≡ Some l.roots
  pub roots : counted_end s Root roots_size l.roots ≡ Some l.exports
  pub exports : counted_end s Export exports_size l.exports ≡ Some metadata
  pub fields : counted_end s Field fields_size metadata ≡ Some extensions
  pub rest : counted_end s Field fields_size extensions ≡ Some (length s)

pub shape_laid : {A : Type 0} (s : List ℕ) (l : Layout) → manifest_of s ≡ Some l →
    ((metadata extensions : ℕ) → Laid s l metadata extensions → A) → A
unfolding manifest_of
shape_laid s l g f =
    option_and_then_some _ (head_end s) _ g λ q1 g1 r1.
    option_and_then_some _ (items_end s Text 9 q1) _ r1 λ q2 g2 r2.
    option_and_then_some _ (counted_end s Text any_count q2) _ r2 λ q3 g3 r3.
    option_and_then_some _ (closure_end s q3) _ r3 λ q4 g4 r4.
    option_and_then_some _ (counted_end s Root roots_size q4) _ r4 λ q5 g5 r5.
    option_and_then_some _ (counted_end s Export exports_size q5) _ r5 λ q6 g6 r6.
    option_and_then_some _ (counted_end s Field fields_size q6) _ r6 λ q7 g7 r7.
    option_and_then_some _ (counted_end s Field fields_size q7) _ r7 λ q8 g8 r8.
    let (t, same) = cond_some _ _ _ r8 in
    let end : q8 ≡ length s = eqb-true _ _ t in
    f q6 q7 (subst (λ (k : Layout). Laid s k q6 q7) same
    (record { head = g1; strings = g2; capabilities = g3; closure = g4; roots = g5; exports = g6; fields = g7; rest = rw end at g8 }))

pub laid_shape : {s : List ℕ} {l : Layout} {metadata extensions : ℕ} → Laid s l metadata extensions → manifest_of s ≡ Some l
unfolding manifest_of
laid_shape {s} t =
    rw (
      t.head,
      t.strings,
      t.capabilities,
      t.closure,
      t.roots,
      t.exports,
      t.fields,
      t.rest,
      eq-eqb (length s) (length s) refl,
    )
