-- Where the part of a word table that is ours starts: the words from the base on.
use Rattle.std.specs.Prelude.{ℕ, cond, List, length, take, drop, ltb, ℤ, pos, negsuc, Option, Some, None}

-- by the base and the number of words; a base at the end of the table leaves no words
unfoldable pub base_of : ℤ → ℕ → Option ℕ
base_of (negsuc b) len = None
base_of (pos b) len = cond (ltb len b) None (Some b)

-- refused, or what comes of the words before the base and of our part
abbrev pub at_base : {A : Type 0} → List ℕ → A → (List ℕ → List ℕ → A) → Option ℕ → A
at_base w refused comes None = refused
at_base w refused comes (Some b) = comes (take b w) (drop b w)

unfoldable pub from_base : {A : Type 0} → List ℕ → ℤ → A → (List ℕ → List ℕ → A) → A
from_base w base refused comes = at_base w refused comes (base_of base (length w))
