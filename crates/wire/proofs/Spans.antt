-- Laws of spans: what a read answers where there is room and where there is none, and what its answer tells.
use Rattle.std.specs.Prelude.{Option, Some, None}
use Prim.Native.Nat.{ℕ, ◌+◌, ◌-◌, ◌^◌, ◌≤◌, ◌<◌}
use mathlib.Core.Path.{◌≡◌, refl, sym, ◌∙◌}
use mathlib.Core.List.{List, []}
use mathlib.Core.Bool.{Bool, true, false}
use native.Mathlib.Omega.{arith}
use native.Mathlib.Decide.{dec_le}
use borrow.Author.Tests.{le-leb, lt-leb, leb-true, leb-false}
use lib.Dec.{leb}
use lib.ListN.{length, take, drop}
use lib.Seq.{drop-drop}
use Rattle.wire.specs.Wire.{big_endian, inside, span_end, span, number_at}
use Rattle.wire.proofs.Parts.{AreBytes, part_length, part_lent, part_front}
use Rattle.wire.proofs.Numbers.{part_bound}

module _ (s : List ℕ) (start n : ℕ) where
  -- where there is room
  pub inside_in : start + n ≤ length s → inside s start n ≡ true
  unfolding inside
  inside_in h = le-leb _ _ h

  pub end_in : start + n ≤ length s → Some (start + n) ≡ span_end s start n
  unfolding span_end
  end_in h = rw (inside_in h)

  pub span_in : start + n ≤ length s → take n (drop start s) ≡ span s start n
  unfolding span
  span_in h = rw (inside_in h)

  pub span_lent : start + n ≤ length s → take (start + n - start) (drop start s) ≡ span s start n
  span_lent h = part_lent s start n ∙ span_in h

  pub number_in : start + n ≤ length s → {v : ℕ} → v ≡ big_endian (take n (drop start s)) → Some v ≡ number_at n s start
  unfolding number_at
  number_in h e = rw (inside_in h, e)

  -- where there is none
  pub inside_out : length s < start + n → inside s start n ≡ false
  unfolding inside
  inside_out h = lt-leb _ _ h

  pub end_out : length s < start + n → None ≡ span_end s start n
  unfolding span_end
  end_out h = rw (inside_out h)

  pub span_out : length s < start + n → [] ≡ span s start n
  unfolding span
  span_out h = rw (inside_out h)

  pub number_out : length s < start + n → None ≡ number_at n s start
  unfolding number_at
  number_out h = rw (inside_out h)

  -- the test by subtraction, which makes no sum
  pub inside_rest : start ≤ length s → leb n (length s - start) ≡ inside s start n
  inside_rest h = elim (dec_le (start + n) (length s)) [
    | yes k ↦ rw (inside_in k) (le-leb n (length s - start) (omega arith))
    | no k ↦ rw (inside_out (omega (arith, k))) (lt-leb n (length s - start) (omega (arith, k)))
  ]

  -- what an answer tells; b, p and x stand for the result of the call
  pub inside_true : {b : Bool} → b ≡ inside s start n → b ≡ true → start + n ≤ length s
  unfolding inside
  inside_true e h = leb-true _ _ (sym e ∙ h)

  pub inside_false : {b : Bool} → b ≡ inside s start n → b ≡ false → length s < start + n
  unfolding inside
  inside_false e h = leb-false _ _ (sym e ∙ h)

  pub end_at : {p : Option ℕ} {e : ℕ} → p ≡ span_end s start n → p ≡ Some e → (e ≡ start + n) × (start + n ≤ length s)
  end_at g h = elim (dec_le (start + n) (length s)) [
    | yes k ↦ let f = end_in k in (cc, k)
    | no k ↦ let f = end_out (omega (arith, k)) in let z : ◌≡◌ {A = ℕ} 0 1 = cc in omega arith
  ]

  pub end_past : {p : Option ℕ} → p ≡ span_end s start n → p ≡ None → length s < start + n
  end_past g h = elim (dec_le (start + n) (length s)) [
    | yes k ↦ let f = end_in k in let z : ◌≡◌ {A = ℕ} 0 1 = cc in omega arith
    | no k ↦ omega (arith, k)
  ]

  pub number_value : {x : Option ℕ} {v : ℕ} → x ≡ number_at n s start → x ≡ Some v →
      (start + n ≤ length s) × (v ≡ big_endian (take n (drop start s)))
  number_value g h = elim (dec_le (start + n) (length s)) [
    | yes k ↦ let f = number_in k refl in (k, cc)
    | no k ↦ let f = number_out (omega (arith, k)) in let z : ◌≡◌ {A = ℕ} 0 1 = cc in absurd (omega arith)
  ]

  pub number_bound : AreBytes s → {x : Option ℕ} {v : ℕ} → x ≡ number_at n s start → x ≡ Some v → v < 256 ^ n
  number_bound b g h = let (k, e) = number_value g h in rw e (part_bound s start n b k)

  pub number_short : {x : Option ℕ} → x ≡ number_at n s start → x ≡ None → length s < start + n
  number_short g h = elim (dec_le (start + n) (length s)) [
    | yes k ↦ let f = number_in k refl in let z : ◌≡◌ {A = ℕ} 0 1 = cc in omega arith
    | no k ↦ omega (arith, k)
  ]

  -- the span that lies in s is as long as it says
  pub span_length : start + n ≤ length s → length (span s start n) ≡ n
  span_length h = rw (← (span_in h)) (part_length s start n h)

-- n bytes in a span, and those bytes in s
module _ (s : List ℕ) (start size at n : ℕ) (h : start + size ≤ length s) (k : at + n ≤ size) where
  bytes_within : take n (drop at (span s start size)) ≡ take n (drop (start + at) s)
  bytes_within = rw (← (span_in s start size h), part_front (drop start s) size at n k, drop-drop at start s)

  room_within : at + n ≤ length (span s start size)
  room_within = rw (span_length s start size h) k

  pub span_within : span (span s start size) at n ≡ span s (start + at) n
  span_within =
      sym (span_in (span s start size) at n room_within) ∙ bytes_within ∙ span_in s (start + at) n (omega arith)

  pub number_within : number_at n (span s start size) at ≡ number_at n s (start + at)
  unfolding number_at
  number_within =
      rw (inside_in (span s start size) at n room_within, inside_in s (start + at) n (omega arith), bytes_within)

-- and one of no bytes
pub span_none : (s : List ℕ) → span s 0 0 ≡ []
span_none s = sym (span_in s 0 0 (omega arith))
