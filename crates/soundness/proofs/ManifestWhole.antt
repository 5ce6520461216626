-- The whole manifest: a layout is found exactly where the bytes are a manifest, and what it reads is what they are.
use Rattle.std.proofs.lemmas.Option.{option_and_then_some}
use Rattle.std.specs.Prelude.{Option, Some}
use Prim.Native.Nat.{ℕ}
use mathlib.Core.Path.{◌≡◌, refl, subst}
use mathlib.Core.List.{List, [], ◌∷◌, ◌++◌}
use native.Mathlib.Omega.{arith}
use borrow.Author.Tests.{eqb-true}
use lib.ListN.{length}
use lib.Dec.{eqb}
use Rattle.wire.specs.Wire.{big_endian, number_at, span, holds_at, ascii, or_zero}
use Rattle.wire.specs.Relations.{Number}
use Rattle.wire.proofs.Reading.{Reads, all_reads, reads_join, reads_split}
use Rattle.wire.proofs.Reading.{number_reads, reads_number, holds_reads, reads_holds}
use Rattle.sizes.specs.Sizes.{exports_size, fields_size}
use Rattle.manifest_shape.specs.declared.parts.Kind.TheVariants.{Text, Export, Field}
use Rattle.manifest_shape.specs.declared.Layout.{Layout}
use Rattle.manifest_shape.specs.Shape.{item_end, counted_end, sized_end, field_end}
use Rattle.manifest_shape.specs.Shape.{head_end, manifest_of}
use Rattle.lists.specs.Options.{◌>>=◌}
use Rattle.manifest.specs.Content.{text_at, texts_from, roots_at, exports_at}
use Rattle.soundness.specs.ManifestGrammar.{Contents, IsHead, head, IsManifest, manifest}
use Rattle.manifest_shape.proofs.Ends.{cond_to, string_past}
use Rattle.manifest_shape.proofs.Laid.{Laid, laid_shape}
use Rattle.manifest.proofs.Counted.{counted_at, items_length}
use Rattle.soundness.proofs.ManifestParses.{bytes_reads, reads_bytes}
use Rattle.soundness.proofs.ManifestPieces.{field_at, closure_parses}
use Rattle.soundness.proofs.ManifestCounted.{items_forth, items_back}
use Rattle.soundness.proofs.ManifestCounted.{text_kind, text_counted, root_counted, export_counted, field_counted}

abbrev magic : List ℕ
magic = ascii "ARBMNFST"

-- the head: the magic, major 1 and any minor
head_forth : {p : ℕ} (s : List ℕ) → head_end s ≡ Some p →
    (a : List ℕ) × Reads s 0 10 (magic ++ a) × Number 2 1 a × Reads s 10 p (span s 10 2) × (length (span s 10 2) ≡ 2)
unfolding head_end
head_forth s g =
    let (h, k) = cond_to (holds_at s 0 magic) _ g in
    option_and_then_some _ (number_at 2 s 8) _ k λ v n j.
    let (q, b) = cond_to (eqb v 1) _ j in
    let (a, r, m) = number_reads s 8 2 (rw (eqb-true v 1 q) at n) in
    let (t, l) = bytes_reads s 10 2 b in
    (a, reads_join (holds_reads s 0 magic h) r, m, t, l)

head_back : {s a c : List ℕ} {p q e v : ℕ} → Reads s 0 p magic →
    Reads s p q a → Number 2 1 a → Reads s q e c → Number 2 v c →
    (head_end s ≡ Some e) × (big_endian (span s 10 2) ≡ v)
unfolding head_end
head_back {s} {p = p} {q = q} r t m u n =
    let e : p ≡ 8 = omega arith in
    let (j, k) = reads_number s 8 2 (rw e at t) m in
    let (g, h) = reads_bytes s 10 2 (rw k at u) n.size in
    (rw (reads_holds s 0 magic r, j, g), rw (h, n.value))

-- what is read of a manifest by its layout
abbrev pub contents_at : List ℕ → Layout → Contents
contents_at s l =
    let metadata : Option ℕ = counted_end s Export exports_size l.exports in
    let extensions : Option ℕ = (metadata >>= counted_end s Field fields_size) in
    record {
      minor = big_endian (span s 10 2);
      strings = texts_from s 9 l.strings;
      capabilities = counted_at s (sized_end s) (λ p. text_at s (Some p)) l.capabilities;
      closure = or_zero (number_at 1 s l.closure);
      roots = roots_at s l.roots;
      exports = exports_at s l.exports;
      metadata = counted_at s (field_end s) (field_at s) (or_zero metadata);
      extensions = counted_at s (field_end s) (field_at s) (or_zero extensions);
    }

-- what a found layout reads is what the bytes are: up to the exports, and from there on
pub head_reads : {s : List ℕ} {l : Layout} {metadata extensions : ℕ} → Laid s l metadata extensions →
    (b : List ℕ) × Reads s 0 l.exports b × IsHead (contents_at s l) b
unfolding item_end
head_reads {s} {l} t =
    let (major, r1, m1, r2, m2) = head_forth s t.head in
    let (b3, r3, i3) = items_forth s Text _ _ _ (string_past s) (text_kind s) 9 r2.fits t.strings in
    let l3 = items_length s Text _ (λ p. text_at s (Some p)) (string_past s) 9 l.strings t.strings in
    let (b4, r4, i4) = (text_counted s).forth t.capabilities in
    let (b5, r5, i5) = (closure_parses s).forth t.closure in
    let (b6, r6, i6) = (root_counted s).forth t.roots in
    let minor : Number 2 (big_endian (span s 10 2)) (span s 10 2) = record { size = m2; value = refl } in (
      _,
      reads_join r1 (reads_join r2 (reads_join r3 (reads_join r4 (reads_join (rw i5.1 at r5) r6)))),
      head m1 minor l3 i3 i4 i5.0 i6,
    )

pub whole_forth : {s : List ℕ} {l : Layout} {metadata extensions : ℕ} → Laid s l metadata extensions →
    IsManifest (contents_at s l) s
unfolding item_end
whole_forth {s} {l} t =
    let (h, r, i) = head_reads t in
    let (b7, r7, i7) = (export_counted s).forth t.exports in
    let (b8, r8, i8) = (field_counted s).forth t.fields in
    let (b9, r9, i9) = (field_counted s).forth t.rest in
    subst (λ (b : List ℕ). IsManifest (contents_at s l) b) (all_reads (reads_join r (reads_join r7 (reads_join r8 r9))))
    (manifest {metadata = b8} {extensions = b9} i i7 (rw t.exports i8) (rw (t.exports, t.fields) i9))

-- and where the bytes are a manifest, its layout is found and reads it
pub whole_back : {s b : List ℕ} {m : Contents} → Reads s 0 (length s) b → IsManifest m b →
    (l : Layout) × (manifest_of s ≡ Some l) × (contents_at s l ≡ m)
unfolding item_end
whole_back {s} {m = m} r (manifest (head {nine = nine} m1 m2 l3 i3 i4 i5 i6) i7 i8 i9) =
    let (p7, t7, r7) = reads_split r in
    let (p1, t1, r1) = reads_split {b = magic} t7 in
    let (p2, t2, r2) = reads_split r1 in
    let (p3, t3, r3) = reads_split r2 in
    let (p4, t4, r4) = reads_split {b = nine} r3 in
    let (p5, t5, r5) = reads_split r4 in
    let (p6, t6, u7) = reads_split {b = m.closure ∷ []} r5 in
    let (p8, t8, r8) = reads_split r7 in
    let (p9, t9, t10) = reads_split r8 in
    let (g3, h3) = head_back t1 t2 m1 t3 m2 in
    let (g4, h4) = items_back s Text _ _ _ (string_past s) (text_kind s) t4 i3 in
    let (g5, h5) = (text_counted s).back t5 i4 in
    let (g6, h6) = (closure_parses s).back t6 (i5, refl) in
    let (g7, h7) = (root_counted s).back u7 i6 in
    let (g8, h8) = (export_counted s).back t8 i7 in
    let (g9, h9) = (field_counted s).back t9 i8 in
    let (g10, h10) = (field_counted s).back t10 i9 in
    let l : Layout = record { strings = p3; capabilities = p4; closure = p5; roots = p6; exports = p7 } in (
      l,
      laid_shape {l = l} (record {
        head = g3;
        strings = rw l3 at g4;
        capabilities = g5;
        closure = g6;
        roots = g7;
        exports = g8;
        fields = g9;
        rest = g10;
      }),
      rw (h3, (rw l3 at h4), h5, h6, h7, h8, g8, h9, g9, h10),
    )
