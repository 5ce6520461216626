-- Laws of a walk over records: where a record ends, and what comes of the records from a position on, by the first of them.
use Rattle.std.specs.Prelude.{Option, Some, None}
use Rattle.std.proofs.lemmas.Option.{option_and_then_some}
use Prim.Native.Nat.{ℕ, zero, suc, ◌+◌, ◌-◌, ◌*◌, ◌≤◌, ◌<◌}
use mathlib.Core.Path.{◌≡◌, refl, sym, ap, ◌∙◌}
use mathlib.Core.List.{List, [], ◌∷◌}
use native.Mathlib.Omega.{arith}
use borrow.Author.Tests.{leb-true, eqb-true}
use lib.Dec.{leb, eqb}
use lib.ListN.{length}
use Rattle.wire.specs.Wire.{number_at, span_end}
use Rattle.wire.proofs.Spans.{end_at}
use Rattle.nodes.specs.Records.{payload_end, record_end, records_end, records, record_at}
use Rattle.nodes.proofs.Ends.{of_test}

-- a payload has the length that was read
payload_at : (s : List ℕ) (at n : ℕ) {q : ℕ} → payload_end s at n ≡ Some q → (q ≡ at + n) × (at + n ≤ length s)
unfolding payload_end
payload_at s at n e =
    option_and_then_some _ (number_at 1 s at) _ e λ tag i k.
    end_at s at n refl (of_test (eqb n (32 * tag + 1)) (of_test (leb tag 2) k).1).1

-- its tag is at most 2, so that it names at most two hashes
payload_short : (s : List ℕ) (at n : ℕ) {q : ℕ} → payload_end s at n ≡ Some q → n ≤ 65
unfolding payload_end
payload_short s at n e =
    option_and_then_some _ (number_at 1 s at) _ e λ tag i k.
    let (low, rest) = of_test (leb tag 2) k in
    let (size, end) = of_test (eqb n (32 * tag + 1)) rest in
    omega (arith, leb-true tag 2 low, eqb-true n (32 * tag + 1) size)

-- a record is in s, with its hash and the length of its payload
pub record_in : (s : List ℕ) (at : ℕ) {p : Option ℕ} {q : ℕ} → p ≡ record_end s at → p ≡ Some q → (at + 36 ≤ q) × (q ≤ length s)
unfolding record_end
record_in s at e f =
    option_and_then_some _ (span_end s at 32) _ (sym e ∙ f) λ p i g.
    option_and_then_some _ (number_at 4 s p) _ g λ n j k.
    (omega (arith, end_at s at 32 refl i, payload_at s (p + 4) n k), omega (arith, payload_at s (p + 4) n k))

-- and has at most 101 bytes
pub record_short : (s : List ℕ) (at : ℕ) {p : Option ℕ} {q : ℕ} → p ≡ record_end s at → p ≡ Some q → q ≤ at + 101
unfolding record_end
record_short s at e f =
    option_and_then_some _ (span_end s at 32) _ (sym e ∙ f) λ p i g.
    option_and_then_some _ (number_at 4 s p) _ g λ n j k.
    omega (arith, end_at s at 32 refl i, payload_at s (p + 4) n k, payload_short s (p + 4) n k)

module _ (s : List ℕ) where
  -- as many as asked for, where they have an end
  pub records_all : (n p : ℕ) {q : ℕ} → records_end s n p ≡ Some q → length (records s n p) ≡ n
  unfolding records_end records
  records_all zero p e = refl
  records_all (suc n) p e = option_and_then_some _ (record_end s p) _ e λ q f g. rw f (ap suc (records_all n q g))

  -- where k of n are passed and the next one stands at p; x stands for its end, as the call answered it
  module _ (n k p : ℕ) (l : k < n) {x : Option ℕ} (e : x ≡ record_end s p) where
    pub ends_on : {q : ℕ} → x ≡ Some q → records_end s (n - k) p ≡ records_end s (n - (k + 1)) q
    unfolding records_end
    ends_on f = let m : n - k ≡ suc (n - (k + 1)) = omega arith in rw (m, ← e, f)

    pub ends_past : x ≡ None → records_end s (n - k) p ≡ None
    unfolding records_end
    ends_past f = let m : n - k ≡ suc (n - (k + 1)) = omega arith in rw (m, ← e, f)

    pub records_on : {q : ℕ} → x ≡ Some q → records s (n - k) p ≡ record_at s p q ∷ records s (n - (k + 1)) q
    unfolding records
    records_on f = let m : n - k ≡ suc (n - (k + 1)) = omega arith in rw (m, ← e, f)

    pub records_past : x ≡ None → records s (n - k) p ≡ []
    unfolding records
    records_past f = let m : n - k ≡ suc (n - (k + 1)) = omega arith in rw (m, ← e, f)
