-- What it is to parse: a parser, a reader and a relation say the same of the bytes at a position.
use Rattle.std.specs.Prelude.{Option, Some}
use Prim.Native.Nat.{ℕ}
use mathlib.Core.Path.{◌≡◌}
use mathlib.Core.List.{List}
use lib.ListN.{length}
use Rattle.wire.specs.Wire.{span_end, span}
use Rattle.wire.proofs.Reading.{Reads, span_reads, reads_span}

-- where the parser ends, the bytes are what the reader gives; and where bytes are such a thing, the two give it
pub record Parses {A : Type 0} (s : List ℕ) (end : ℕ → Option ℕ) (read : ℕ → A) (Is : A → List ℕ → Type 0) : Type 0 where
  pub forth : {at e : ℕ} → end at ≡ Some e → (b : List ℕ) × Reads s at e b × Is (read at) b
  pub back : {at e : ℕ} {b : List ℕ} {x : A} → Reads s at e b → Is x b → (end at ≡ Some e) × (read at ≡ x)

module _ (s : List ℕ) (at n : ℕ) where
  pub bytes_reads : {e : ℕ} → span_end s at n ≡ Some e → Reads s at e (span s at n) × (length (span s at n) ≡ n)
  bytes_reads g = span_reads s at n g

  pub reads_bytes : {e : ℕ} {b : List ℕ} → Reads s at e b → length b ≡ n → (span_end s at n ≡ Some e) × (span s at n ≡ b)
  reads_bytes r l = reads_span s at n r l
