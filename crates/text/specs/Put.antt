-- A lent buffer that is written from a place on.
use Rattle.std.specs.Prelude.{ℕ, ◌+◌, ◌≡◌, List, ◌++◌, length, take, drop}

-- a text is put at a place of a buffer: it ends at the new place, and all bytes before and after it stay
pub record Put (text before : List ℕ) (at : ℕ) (after : List ℕ) (next : ℕ) : Type 0 where
  pub ends : next ≡ at + length text
  pub holds : take next after ≡ take at before ++ text
  pub stays : drop next after ≡ drop next before
