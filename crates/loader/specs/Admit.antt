-- The load call as the code makes it: our part of the table, and 21 and 22 of a bundle that 1 to 20 let pass.
use Rattle.std.specs.Prelude.{ℕ, List, [], ◌∷◌, ltb, ℤ, length, Err, unwrap_or}
use Rattle.refusals.specs.Refusals.{Row, ◌when◌, answer, unless_refused}
use Rattle.table.specs.Base.{base_of}
use Rattle.table.specs.Slots.{room}
use Rattle.manifest.specs.Content.{Export}
use Rattle.nodes.specs.Records.{NodeRecord as Record}
use Rattle.loader.specs.Load.{Loaded, loaded, accept}

-- where our part of a table of so many words starts; a base outside leaves it no words
abbrev pub start_of : ℤ → ℕ → ℕ
start_of base len = unwrap_or (base_of base len) len

-- room for so many nodes, an export table of so many words, and a bundle with n nodes and m exports
unfoldable pub fit_checks : ℕ → ℕ → ℕ → ℕ → List Row
fit_checks most space n m = (21 when ltb most n) ∷ (22 when ltb space m) ∷ []

unfoldable pub admitted : List Record → List Export → List ℕ → List ℕ → Loaded
admitted rs es w out =
    unless_refused (answer (fit_checks (room w) (length out) (length rs) (length es))) (λ n. loaded w out (Err n))
    (accept rs es w out)
