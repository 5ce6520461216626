-- Laws of the format: where a payload, a record or records end, the bytes are such things, and the other way round.
use Rattle.std.proofs.lemmas.Option.{option_and_then_some}
use Rattle.std.specs.Prelude.{Option, Some, None}
use Rattle.std.proofs.lemmas.Option.{option_and_then_some}
use Rattle.lists.specs.Options.{on_some}
use Prim.Native.Nat.{ℕ, zero, suc, ◌+◌, ◌-◌, ◌*◌, ◌≤◌}
use mathlib.Core.Path.{◌≡◌, refl, sym, ap, ◌∙◌, subst}
use mathlib.Core.List.{List, [], ◌∷◌, ◌++◌}
use mathlib.Core.Bool.{Bool, true, false, cond}
use native.Mathlib.Omega.{arith}
use borrow.Author.Tests.{le-leb, leb-true, eq-eqb, eqb-true}
use lib.Dec.{leb, eqb}
use lib.ListN.{length, take, drop, length-append, length-take, length-drop, take-append-drop}
use Rattle.wire.specs.Wire.{big_endian, number_at, span_end, span}
use Rattle.wire.specs.Relations.{Number, Sequence, none, next}
use Rattle.lists.proofs.Same.{not_both}
use Rattle.wire.proofs.Reading.{Reads, reads_none, reads_join, reads_split, reads_all, all_reads, span_reads, reads_span}
use Rattle.wire.proofs.Reading.{number_reads, reads_number}
use Rattle.sizes.specs.Sizes.{within, nodes_size}
use Rattle.sizes.proofs.Within.{within_exactly}
use Rattle.nodes.specs.Records.{NodeRecord, payload_end, record_end, record_at, records_end, records, count, nodes_of, ends_at, shaped}
use Rattle.soundness.specs.NodesGrammar.{IsPayload, leaf, stem, fork, IsRecord, node, IsNodes, nodes}
use Rattle.nodes.proofs.Ends.{of_test}

-- a payload is a tag up to 2 and as many hashes
tag_payload : (tag : ℕ) (q : List ℕ) → tag ≤ 2 → length q ≡ 32 * tag → (cs : List (List ℕ)) × IsPayload cs (tag ∷ q)
tag_payload zero [] h l = ([], leaf)
tag_payload zero (x ∷ q) h l = absurd (omega arith)
tag_payload (suc zero) q h l = (q ∷ [], stem l)
tag_payload (suc (suc zero)) q h l =
    let first : length (take 32 q) ≡ 32 = simp length-take (omega arith) in
    let second : length (drop 32 q) ≡ 32 = simp length-drop (omega arith) in
    subst (λ (z : List ℕ). (cs : List (List ℕ)) × IsPayload cs (2 ∷ z)) (take-append-drop 32 q)
    (_, fork {a = take 32 q} {b = drop 32 q} first second)
tag_payload (suc (suc (suc n))) q h l = absurd (omega arith)

payload_tag : {cs : List (List ℕ)} {p : List ℕ} → IsPayload cs p →
    (tag : ℕ) × (q : List ℕ) × (p ≡ tag ∷ q) × (tag ≤ 2) × (length q ≡ 32 * tag)
payload_tag leaf = (0, [], refl, omega arith, refl)
payload_tag (stem {a = a} h) = (1, a, refl, omega arith, h)
payload_tag (fork {a = a} {b = b} h k) = (2, a ++ b, refl, omega arith, rw length-append (omega arith))

module _ (s : List ℕ) where
  -- the first of some bytes is the number of one byte there
  first_byte : {at e x : ℕ} {q : List ℕ} → Reads s at e (x ∷ q) → number_at 1 s at ≡ Some x
  unfolding big_endian
  first_byte {at} {e} {x} {q} r =
      let (p, a, b) = reads_split {b = x ∷ []} {c = q} r in
      let n : Number 1 x (x ∷ []) = record { size = refl; value = omega arith } in
      (reads_number s at 1 a n).0

  payload_forth : (at n : ℕ) {e : ℕ} → payload_end s at n ≡ Some e →
      (cs : List (List ℕ)) × Reads s at e (span s at n) × (length (span s at n) ≡ n) × IsPayload cs (span s at n)
  unfolding payload_end
  payload_forth at n {e} g =
      option_and_then_some _ (number_at 1 s at) _ g λ tag h k.
      let (t, m) = of_test (leb tag 2) k in
      let (u, o) = of_test (eqb n (32 * tag + 1)) m in
      let (r, l) = span_reads s at n o in
      let (cs, i) = shape (span s at n) r tag (l ∙ eqb-true _ _ u) h (leb-true _ _ t) in
      (cs, r, l, i)
    where
      shape : (p : List ℕ) → Reads s at e p → (tag : ℕ) → length p ≡ 32 * tag + 1 → number_at 1 s at ≡ Some tag → tag ≤ 2 →
          (cs : List (List ℕ)) × IsPayload cs p
      shape [] r tag l h t = absurd (omega arith)
      shape (x ∷ q) r tag l h t =
          let f = first_byte r in
          let z : tag ≡ x = cc in
          rw z at (tag_payload tag q t (omega arith))

  payload_back : {at e : ℕ} {p : List ℕ} {cs : List (List ℕ)} → Reads s at e p → IsPayload cs p →
      payload_end s at (length p) ≡ Some e
  unfolding payload_end
  payload_back {at} {e} {p} r i =
      let (tag, q, w, t, l) = payload_tag i in
      let m : length p ≡ 32 * tag + 1 = ap length w ∙ (let z : suc (length q) ≡ 32 * tag + 1 = omega arith in z) in
      rw (first_byte (rw w at r), le-leb tag 2 t, eq-eqb (length p) (32 * tag + 1) m) (reads_span s at (length p) r refl).0

  -- what is read of a record whose three parts stand one after the other
  record_whole : {at p q e : ℕ} {h n b : List ℕ} → Reads s at p h → Reads s p q n → Reads s q e b →
      length h ≡ 32 → length n ≡ 4 → record_at s at e ≡ record { hash = h; payload = b }
  record_whole {at} {p} {q} {e} {h} {n} {b} r t u l m =
      let y : q ≡ at + 36 = omega arith in
      let z : length b ≡ e - (at + 36) = omega arith in
      let g : span s at 32 ≡ h = (reads_span s at 32 r l).1 in
      let k : span s (at + 36) (e - (at + 36)) ≡ b = (reads_span s (at + 36) (e - (at + 36)) (rw y at u) z).1 in
      λ i. record { hash = g i; payload = k i }

  record_forth : {at e : ℕ} → record_end s at ≡ Some e → (b : List ℕ) × Reads s at e b × IsRecord (record_at s at e) b
  unfolding record_end
  record_forth {at} {e} g =
      option_and_then_some _ (span_end s at 32) _ g λ p h k.
      option_and_then_some _ (number_at 4 s p) _ k λ n m o.
      let (r, l) = span_reads s at 32 h in
      let (c, t, w) = number_reads s p 4 m in
      let (cs, u, f, i) = payload_forth (p + 4) n o in
      let z = record_whole r t u l w.size in (
        span s at 32 ++ (c ++ span s (p + 4) n),
        reads_join r (reads_join t u),
        rw z (node l (subst (λ (v : ℕ). Number 4 v c) (sym f) w) i),
      )

  record_back : {at e : ℕ} {b : List ℕ} {r : NodeRecord} → Reads s at e b → IsRecord r b →
      (record_end s at ≡ Some e) × (record_at s at e ≡ r)
  unfolding record_end
  record_back {at} {e} r (node {h = h} {n = n} {p = p} l m i) =
      let (j, a, t) = reads_split {b = h} r in
      let (k, c, d) = reads_split {b = n} t in
      let (u, v) = reads_number s j 4 c m in
      (rw ((reads_span s at 32 a l).0, u, ← v) (payload_back d i), record_whole a c d l m.size)

  -- some records, one after the other
  pub records_forth : (n : ℕ) {at e : ℕ} → at ≤ length s → records_end s n at ≡ Some e →
      (b : List ℕ) × Reads s at e b × Sequence IsRecord (records s n at) b × (length (records s n at) ≡ n)
  unfolding records_end records
  records_forth zero {at} {e} l g = let q : at ≡ e = cc in ([], rw (← q) (reads_none s at l), none, refl)
  records_forth (suc n) {at} l g =
      option_and_then_some _ (record_end s at) _ g λ p h k.
      let (a, r, i) = record_forth h in
      let (b, t, j, m) = records_forth n r.fits k in
      (a ++ b, reads_join r t, rw h (next i j), rw h (ap suc m))

  pub records_back : {rs : List NodeRecord} {b : List ℕ} {at e : ℕ} → Reads s at e b → Sequence IsRecord rs b →
      (records_end s (length rs) at ≡ Some e) × (records s (length rs) at ≡ rs)
  unfolding records_end records
  records_back r none = (ap Some (omega arith), refl)
  records_back r (next {a = a} i j) =
      let (p, t, u) = reads_split {b = a} r in
      let (g, h) = record_back t i in
      let (k, m) = records_back u j in
      (rw g k, rw (g, h, m))

-- the section: a count, which is within the size, and as many records up to the end
pub shaped_nodes : (s : List ℕ) → shaped s ≡ true → (rs : List NodeRecord) × IsNodes rs s
unfolding shaped
shaped_nodes s = counted (number_at 8 s 0) refl
  where
    counted : (x : Option ℕ) → number_at 8 s 0 ≡ x →
        on_some x (λ n. cond (within nodes_size n) (ends_at (records_end s n 8) (length s)) false) false ≡ true →
        (rs : List NodeRecord) × IsNodes rs s
    counted None h g = not_both g refl
    counted (Some n) h g = sized (within nodes_size n) refl (records_end s n 8) refl g
      where
        sized : (b : Bool) → within nodes_size n ≡ b → (p : Option ℕ) → records_end s n 8 ≡ p →
            cond b (ends_at p (length s)) false ≡ true → (rs : List NodeRecord) × IsNodes rs s
        sized false w p q g = not_both g refl
        sized true w None q g = not_both g refl
        sized true w (Some e) q g =
            let (l, u) = (within_exactly nodes_size n).0 w in
            let (a, r, m) = number_reads s 0 8 h in
            let (b, t, i, z) = records_forth s n r.fits (q ∙ ap Some (eqb-true _ _ g)) in
            let o = nodes {rs = records s n 8} {n = a} (rw z m) (omega arith) (omega arith) i in
            (records s n 8, subst (IsNodes (records s n 8)) (all_reads (reads_join r t)) o)

pub nodes_shaped : {s : List ℕ} {rs : List NodeRecord} → IsNodes rs s → (shaped s ≡ true) × (nodes_of s ≡ rs)
unfolding shaped nodes_of count
nodes_shaped (nodes {rs = rs} {n = n} {a = a} m l u i) =
    let (p, r, t) = reads_split {b = n} (reads_all (n ++ a)) in
    let (g, h) = reads_number (n ++ a) 0 8 r m in
    let (j, k) = records_back (n ++ a) (rw h at t) i in
    (rw (g, (within_exactly nodes_size (length rs)).1 (l, u), j) (eq-eqb (length (n ++ a)) _ refl), rw g k)
