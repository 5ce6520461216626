-- Laws of a payload's children, by its length.
use Prim.Native.Nat.{ℕ}
use mathlib.Core.Path.{◌≡◌}
use mathlib.Core.List.{List, [], ◌∷◌}
use native.Mathlib.Omega.{arith}
use borrow.Author.Tests.{eq-eqb, ne_eqb}
use lib.ListN.{length}
use Rattle.wire.specs.Wire.{span}
use Rattle.nodes.specs.Records.{children_of}

-- a and b stand for the spans that were read
module _ (p : List ℕ) where
  pub children_one : {a : List ℕ} → a ≡ span p 1 32 → length p ≡ 33 → children_of p ≡ a ∷ []
  unfolding children_of
  children_one e h = rw (eq-eqb (length p) 33 h, e)

  pub children_two : {a b : List ℕ} → a ≡ span p 1 32 → b ≡ span p 33 32 → length p ≡ 65 → children_of p ≡ a ∷ b ∷ []
  unfolding children_of
  children_two e f h =
      let n : length p ≡ 33 → ⊥ = λ z. omega arith in rw (ne_eqb (length p) 33 n, eq-eqb (length p) 65 h, e, f)

  pub children_none : (length p ≡ 33 → ⊥) → (length p ≡ 65 → ⊥) → children_of p ≡ []
  unfolding children_of
  children_none n m = rw (ne_eqb (length p) 33 n, ne_eqb (length p) 65 m)
