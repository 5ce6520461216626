-- The text of a load's answer.
use Rattle.std.specs.Prelude.{ℕ, List, [], ◌∷◌, ◌++◌, length, take, Ok, Err}
use Rattle.wire.specs.Wire.{ascii}
use Rattle.loader.specs.Load.{Loaded, loaded}
use Rattle.text.specs.Text.{decimal, newline}

-- slot, name length, name bytes
unfoldable pub line : ℕ → List ℕ → List ℕ
line slot name = decimal slot ++ (ascii " " ++ (decimal (length name) ++ (ascii " " ++ (name ++ newline))))

-- a line for each export
unfoldable pub lines : List ℕ → List (List ℕ) → List ℕ
lines (slot ∷ slots) (name ∷ names) = line slot name ++ lines slots names
lines [] names = []
lines (slot ∷ slots) [] = []

-- `refused 3`
unfoldable pub refused_line : ℕ → List ℕ
refused_line n = ascii "refused " ++ (decimal n ++ newline)

-- `ok nodes 1 exports 1`
unfoldable pub ok_line : ℕ → ℕ → List ℕ
ok_line nodes exports = ascii "ok nodes " ++ (decimal nodes ++ (ascii " exports " ++ (decimal exports ++ newline)))

-- a refusal's line; or the line of an accepted bundle, and its exports in manifest order
unfoldable pub report : Loaded → List (List ℕ) → List ℕ
report (loaded words slots (Err n)) names = refused_line n
report (loaded words slots (Ok c)) names = ok_line c.nodes c.exports ++ lines (take c.exports slots) names
