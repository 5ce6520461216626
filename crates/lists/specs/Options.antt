-- What comes of something that may be missing.
use Rattle.std.specs.Prelude.{Option, Some, None, option_and_then}

infixl 10 ◌>>=◌
-- what comes next of what is there: the `?` of the code
abbrev pub ◌>>=◌ : {A B : Type 0} → Option A → (A → Option B) → Option B
o >>= f = option_and_then f o

-- what comes of what is there, and what where it is missing
abbrev pub on_some : {A B : Type 0} → Option A → (A → B) → B → B
on_some (Some x) f none = f x
on_some None f none = none
