-- What the lines of the exports are written from.
use Rattle.std.specs.Prelude.{ℕ, ◌≤◌, ◌≡◌, List, length}
use Rattle.bundle.specs.Checks.{refusal}
use Rattle.loader.specs.Load.{exports_in}

-- what the text of any bundle has room in
abbrev pub text_bytes : ℕ
text_bytes = 4096

-- the file is a sound bundle of so many exports, and the table has a slot for each
pub record Exported (file slots : List ℕ) (count : ℕ) : Type 0 where
  pub clear : refusal file ≡ 0
  pub all : count ≡ length (exports_in file)
  pub space : count ≤ length slots
