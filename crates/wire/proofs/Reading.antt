-- Bytes that stand in a list from one position to another: how they join and part, and what reads say of them.
use Rattle.std.specs.Prelude.{Some}
use Prim.Native.Nat.{ℕ, ◌+◌, ◌≤◌}
use mathlib.Core.Path.{◌≡◌, refl, sym, ap, ◌∙◌}
use mathlib.Core.List.{List, [], ◌++◌, append_assoc, append-nil}
use mathlib.Core.Bool.{true}
use native.Mathlib.Omega.{arith}
use lib.ListN.{length, take, drop, length-append, take-append-drop}
use lib.Seq.{take-append_seam, drop-append_seam, drop-drop, take_all, drop-length}
use Rattle.wire.specs.Wire.{big_endian, span_end, span, number_at, holds_at}
use Rattle.wire.specs.Relations.{Number}
use Rattle.wire.proofs.Parts.{part_length}
use Rattle.wire.proofs.Spans.{end_in, end_at, span_in, span_length, number_in, number_value}
use Rattle.wire.proofs.Bytes.{holds_exactly}

-- the bytes b stand in s from at on and end before e
pub record Reads (s : List ℕ) (at e : ℕ) (b : List ℕ) : Type 0 where
  pub end : e ≡ at + length b
  pub fits : e ≤ length s
  pub rest : drop at s ≡ b ++ drop e s

pub reads_none : (s : List ℕ) (at : ℕ) → at ≤ length s → Reads s at at []
reads_none s at h = record { end = omega arith; fits = h; rest = refl }

pub reads_join : {s b c : List ℕ} {at p e : ℕ} → Reads s at p b → Reads s p e c → Reads s at e (b ++ c)
reads_join {b} {c} r t = record {
  end = rw length-append (omega arith);
  fits = t.fits;
  rest = rw append_assoc (r.rest ∙ ap (λ (l : List ℕ). b ++ l) t.rest);
}

-- where bytes end that have others after them
pub reads_split : {s b c : List ℕ} {at e : ℕ} → Reads s at e (b ++ c) → (p : ℕ) × Reads s at p b × Reads s p e c
reads_split {s} {b} {c} {at} {e} r =
    let l : e ≡ at + (length b + length c) = rw length-append at r.end in
    let q : drop at s ≡ b ++ (c ++ drop e s) = rw append_assoc at r.rest in
    let d : drop (at + length b) s ≡ c ++ drop e s =
    sym (drop-drop (length b) at s) ∙ ap (λ (l : List ℕ). drop (length b) l) q ∙ drop-append_seam b (c ++ drop e s) in (
      at + length b,
      record { end = refl; fits = omega arith; rest = rw d q },
      record { end = omega arith; fits = r.fits; rest = d },
    )

-- what stands from a position on is one text of each length
pub reads_part : {s b : List ℕ} {at e : ℕ} → Reads s at e b → take (length b) (drop at s) ≡ b
reads_part {s} {b} {at} {e} r = rw r.rest (take-append_seam b (drop e s))

pub part_reads : (s : List ℕ) (at n : ℕ) → at + n ≤ length s → Reads s at (at + n) (take n (drop at s))
part_reads s at n h = record {
  end = rw (part_length s at n h);
  fits = h;
  rest = rw (← drop-drop n at s) (sym (take-append-drop n (drop at s)));
}

-- what stands in a list from its start to its end is the list
pub reads_all : (s : List ℕ) → Reads s 0 (length s) s
reads_all s = record { end = omega arith; fits = omega arith; rest = rw (drop-length s) (sym (append-nil s)) }

pub all_reads : {s b : List ℕ} → Reads s 0 (length s) b → b ≡ s
all_reads {s} {b} r = sym (reads_part r) ∙ take_all (length b) s (omega arith)

module _ (s : List ℕ) (at n : ℕ) where
  pub span_reads : {e : ℕ} → span_end s at n ≡ Some e → Reads s at e (span s at n) × (length (span s at n) ≡ n)
  span_reads {e} g = let (q, h) = end_at s at n refl g in
      (rw (q, ← span_in s at n h) (part_reads s at n h), span_length s at n h)

  pub reads_span : {e : ℕ} {b : List ℕ} → Reads s at e b → length b ≡ n → (span_end s at n ≡ Some e) × (span s at n ≡ b)
  reads_span {e} {b} r l =
      let h : at + n ≤ length s = omega arith in
      let q : e ≡ at + n = omega arith in
      (sym (end_in s at n h) ∙ ap Some (sym q), sym (span_in s at n h) ∙ rw (← l) (reads_part r))

  pub number_reads : {v : ℕ} → number_at n s at ≡ Some v → (b : List ℕ) × Reads s at (at + n) b × Number n v b
  number_reads g = let (h, q) = number_value s at n refl g in
      (take n (drop at s), part_reads s at n h, record { size = part_length s at n h; value = sym q })

  pub reads_number : {e v : ℕ} {b : List ℕ} → Reads s at e b → Number n v b → (number_at n s at ≡ Some v) × (e ≡ at + n)
  reads_number {e} {v} {b} r m =
      let l : length b ≡ n = m.size in
      let h : at + n ≤ length s = omega arith in (
        sym (number_in s at n h (sym m.value ∙ ap big_endian (sym (reads_part r) ∙ ap (λ (k : ℕ). take k (drop at s)) l))),
        omega arith,
      )

module _ (s : List ℕ) (at : ℕ) (t : List ℕ) where
  pub holds_reads : holds_at s at t ≡ true → Reads s at (at + length t) t
  holds_reads g = let (h, q) = (holds_exactly s at t).0 g in rw q at (part_reads s at (length t) h)

  pub reads_holds : {e : ℕ} → Reads s at e t → holds_at s at t ≡ true
  reads_holds r = (holds_exactly s at t).1 (omega arith, reads_part r)
