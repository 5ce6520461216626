-- What a reader has to believe of bytes, as relations: a number in bytes, and things one after the other.
use Rattle.std.specs.Prelude.{ℕ, ◌≡◌, List, [], ◌∷◌, ◌++◌, length}
use Rattle.wire.specs.Wire.{big_endian}

-- the n bytes b are the big-endian number v
pub record Number (n v : ℕ) (b : List ℕ) : Type 0 where
  pub size : length b ≡ n
  pub value : big_endian b ≡ v

-- bytes that are the things xs, one after the other, where `Is x a` says that the bytes a are the thing x
pub data Sequence {A : Type 0} (Is : A → List ℕ → Type 0) : List A → List ℕ → Type 0 where
  none : Sequence Is [] []
  next : {x : A} {xs : List A} {a b : List ℕ} → Is x a → Sequence Is xs b → Sequence Is (x ∷ xs) (a ++ b)
