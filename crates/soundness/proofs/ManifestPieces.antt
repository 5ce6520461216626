-- Strings, roots, exports, fields and the closure byte: their parsers and readers give what the grammar says.
use Rattle.std.proofs.lemmas.Option.{option_and_then_some}
use Rattle.std.specs.Prelude.{Some}
use Prim.Native.Nat.{ℕ, ◌+◌, ◌≤◌}
use mathlib.Core.Path.{◌≡◌, refl, sym}
use mathlib.Core.List.{List, [], ◌∷◌, ◌++◌}
use native.Mathlib.Omega.{arith}
use borrow.Author.Tests.{leb-true, le-leb}
use lib.ListN.{length}
use lib.Dec.{leb}
use Rattle.wire.specs.Wire.{big_endian, number_at, span, or_zero, span_end}
use Rattle.wire.specs.Relations.{Number}
use Rattle.wire.proofs.Reading.{Reads, reads_join, reads_split, number_reads, reads_number}
use Rattle.utf8.specs.Rfc3629.{Utf8Octets}
use Rattle.utf8.proofs.Meaning.{valid_exactly}
use Rattle.manifest_shape.specs.Shape.{text_end, string_end, root_end, export_end}
use Rattle.manifest_shape.specs.Shape.{sized_end, field_end, closure_end}
use Rattle.manifest_shape.proofs.Ends.{to_same, cond_to, string_to, string_past}
use Rattle.manifest.specs.Content.{Root, Export, root_past, text_at, hash_at, root_at, export_at}
use Rattle.manifest.proofs.Counted.{root_past_lem}
use Rattle.soundness.specs.ManifestGrammar.{Field, IsString, string, IsRoot, root, IsExport, export, IsField, field}
use Rattle.soundness.proofs.ManifestParses.{Parses, bytes_reads, reads_bytes}

-- a u32 length and that many bytes, which stand under a string and under a field
module _ (s : List ℕ) (at : ℕ) where
  text_is : {v : ℕ} → number_at 4 s at ≡ Some v → text_at s (Some at) ≡ span s (at + 4) v
  unfolding text_at
  text_is k = rw k

  pub sized_reads : {e : ℕ} → sized_end s at ≡ Some e →
      (n : List ℕ) × Number 4 (length (text_at s (Some at))) n × Reads s at e (n ++ text_at s (Some at))
  unfolding sized_end
  sized_reads g =
      option_and_then_some _ (number_at 4 s at) _ g λ v k h.
      let (n, r, m) = number_reads s at 4 k in
      let (t, l) = bytes_reads s (at + 4) v h in
      (n, rw (text_is k, l) m, rw (text_is k) (reads_join r t))

  reads_sized : {e : ℕ} {v n : List ℕ} → Reads s at e (n ++ v) → Number 4 (length v) n →
      (sized_end s at ≡ Some e) × (text_at s (Some at) ≡ v)
  unfolding sized_end text_at
  reads_sized {v = v} r m =
      let (p, a, b) = reads_split r in
      let (k, q) = reads_number s at 4 a m in
      let (g, h) = reads_bytes s (at + 4) (length v) (rw q at b) refl in
      (rw k g, rw k h)

  -- a string is such bytes that are UTF-8
  string_sized : {e : ℕ} → string_end s at ≡ Some e → (sized_end s at ≡ Some e) × Utf8Octets (text_at s (Some at))
  string_sized g = string_to s at g λ v k h u. (h, rw (text_is k) ((valid_exactly (span s (at + 4) v)).0 u))

  sized_string : {e : ℕ} → sized_end s at ≡ Some e → Utf8Octets (text_at s (Some at)) → string_end s at ≡ Some e
  unfolding string_end text_end sized_end text_at
  sized_string g u =
      option_and_then_some _ (number_at 4 s at) _ g λ v k h.
      rw (k, h, (valid_exactly (span s (at + 4) v)).1 (rw k at u))

module _ (s : List ℕ) where
  string_forth : {at e : ℕ} → string_end s at ≡ Some e → (b : List ℕ) × Reads s at e b × IsString (text_at s (Some at)) b
  string_forth {at} g =
      let (h, u) = string_sized s at g in let (n, m, r) = sized_reads s at h in (n ++ text_at s (Some at), r, string m u)

  string_back : {at e : ℕ} {b x : List ℕ} → Reads s at e b → IsString x b → (string_end s at ≡ Some e) × (text_at s (Some at) ≡ x)
  string_back {at} r (string m u) = let (g, h) = reads_sized s at r m in (sized_string s at g (rw h u), h)

  pub string_parses : Parses s (string_end s) (λ p. text_at s (Some p)) IsString
  string_parses = record { forth = string_forth; back = string_back }

  root_to : {A : Type 0} (at : ℕ) {e : ℕ} → root_end s at ≡ Some e →
      ((p : ℕ) → span_end s at 32 ≡ Some p → string_end s p ≡ Some e → A) → A
  unfolding root_end
  root_to at g = option_and_then_some (string_end s) (span_end s at 32) _ g

  root_forth : {at e : ℕ} → root_end s at ≡ Some e → (b : List ℕ) × Reads s at e b × IsRoot (root_at s at) b
  unfolding hash_at
  root_forth {at} g =
      root_to at g λ p h k.
      let (r, l) = bytes_reads s at 32 h in
      let (b, t, i) = string_forth k in
      (span s at 32 ++ b, reads_join r t, rw h (root l i))

  root_back : {at e : ℕ} {b : List ℕ} {x : Root} → Reads s at e b → IsRoot x b → (root_end s at ≡ Some e) × (root_at s at ≡ x)
  unfolding root_end hash_at
  root_back {at} r (root {h = n} l i) =
      let (p, a, b) = reads_split {b = n} r in
      let (g, h) = reads_bytes s at 32 a l in
      let (k, j) = string_back b i in
      (rw g k, rw (g, h, j))

  pub root_parses : Parses s (root_end s) (root_at s) IsRoot
  root_parses = record { forth = root_forth; back = root_back }

  export_forth : {at e : ℕ} → export_end s at ≡ Some e → (b : List ℕ) × Reads s at e b × IsExport (export_at s at) b
  unfolding export_end hash_at
  export_forth {at} g =
      option_and_then_some _ (string_end s at) _ g λ p g1 h1.
      option_and_then_some _ (root_end s p) _ h1 λ q g2 h2.
      root_to p g2 λ o g3 h3.
      let (a, r1, i) = string_forth g1 in
      let (r2, l) = bytes_reads s p 32 g3 in
      let (b, r3, j) = string_forth h3 in
      let (c, r4, k) = string_forth h2 in (
        a ++ (span s p 32 ++ (b ++ c)),
        reads_join r1 (reads_join r2 (reads_join r3 r4)),
        rw (string_past s at p g1, root_past_lem s p q g2, g3) (export i l j k),
      )

  export_back : {at e : ℕ} {b : List ℕ} {x : Export} → Reads s at e b → IsExport x b →
      (export_end s at ≡ Some e) × (export_at s at ≡ x)
  unfolding export_end root_end root_past hash_at
  export_back {at} r (export {h = n} i l j k) =
      let (p, a, t) = reads_split r in
      let (o, b, u) = reads_split {b = n} t in
      let (q, c, d) = reads_split u in
      let (g1, h1) = string_back a i in
      let (g2, h2) = reads_bytes s p 32 b l in
      let (g3, h3) = string_back c j in
      let (g4, h4) = string_back d k in
      (rw (g1, g2, g3, g4), rw (h1, string_past s _ _ g1, h2, g2, h3, string_past s _ _ g3, h4))

  pub export_parses : Parses s (export_end s) (export_at s) IsExport
  export_parses = record { forth = export_forth; back = export_back }

-- the field that stands at a position
abbrev pub field_at : List ℕ → ℕ → Field
field_at s at = record { tag = big_endian (span s at 2); value = text_at s (span_end s at 2) }

module _ (s : List ℕ) where
  field_forth : {at e : ℕ} → field_end s at ≡ Some e → (b : List ℕ) × Reads s at e b × IsField (field_at s at) b
  unfolding field_end
  field_forth {at} g =
      option_and_then_some _ (span_end s at 2) _ g λ p h k.
      let (r, l) = bytes_reads s at 2 h in
      let (n, m, t) = sized_reads s p k in
      (span s at 2 ++ (n ++ text_at s (Some p)), reads_join r t, rw h (field (record { size = l; value = refl }) m))

  field_back : {at e : ℕ} {b : List ℕ} {x : Field} → Reads s at e b → IsField x b →
      (field_end s at ≡ Some e) × (field_at s at ≡ x)
  unfolding field_end
  field_back {at} r (field {a = n} t m) =
      let (p, a, b) = reads_split {b = n} r in
      let (g, h) = reads_bytes s at 2 a t.size in
      let (k, j) = reads_sized s p b m in
      (rw g k, rw (g, h, t.value, j))

  pub field_parses : Parses s (field_end s) (field_at s) IsField
  field_parses = record { forth = field_forth; back = field_back }

-- the closure byte
abbrev pub IsClosure : ℕ → List ℕ → Type 0
IsClosure c b = (c ≤ 1) × (b ≡ c ∷ [])

one_byte : (b : List ℕ) {v : ℕ} → Number 1 v b → b ≡ v ∷ []
unfolding big_endian
one_byte [] m = absurd (omega arith)
one_byte (x ∷ []) {v} m = let e : x ≡ v = omega arith in rw e
one_byte (x ∷ y ∷ ys) m = absurd (omega arith)

byte_one : (v : ℕ) → Number 1 v (v ∷ [])
unfolding big_endian
byte_one v = record { size = refl; value = omega arith }

closure_forth : (s : List ℕ) {at e : ℕ} → closure_end s at ≡ Some e →
    (b : List ℕ) × Reads s at e b × IsClosure (or_zero (number_at 1 s at)) b
unfolding closure_end
closure_forth s {at} g =
    option_and_then_some _ (number_at 1 s at) _ g λ v n k.
    let (l, h) = cond_to (leb v 1) _ k in
    let (b, r, m) = number_reads s at 1 n in
    (b, rw (sym (to_same h)) r, rw n (leb-true v 1 l, one_byte b m))

closure_back : (s : List ℕ) {at e : ℕ} {b : List ℕ} {c : ℕ} → Reads s at e b → IsClosure c b →
    (closure_end s at ≡ Some e) × (or_zero (number_at 1 s at) ≡ c)
unfolding closure_end
closure_back s {at} {c = c} r i =
    let (n, e) = reads_number s at 1 (rw i.1 at r) (byte_one c) in
    (rw (n, le-leb c 1 i.0, e), rw n)

pub closure_parses : (s : List ℕ) → Parses s (closure_end s) (λ at. or_zero (number_at 1 s at)) IsClosure
closure_parses s = record { forth = closure_forth s; back = closure_back s }
