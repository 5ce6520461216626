-- The load call: what it answers, and every word that it leaves in both tables.
use Rattle.std.specs.Prelude.{ℕ, Bool, true, List, [], ◌∷◌, ◌++◌, length, drop, ltb, ℤ, Result, Err}
use Rattle.loader.specs.Accepted.{accepted}
use Rattle.loader.specs.declared.Accepted.{Accepted}
use Rattle.refusals.specs.Refusals.{Row, ◌when◌, answer, unless_refused}
use Rattle.table.specs.Base.{from_base}
use Rattle.table.specs.Slots.{room}
use Rattle.manifest.specs.Content.{Export}
use Rattle.manifest.specs.Judged.{exports_of}
use Rattle.nodes.specs.Records.{NodeRecord as Record, nodes_of}
use Rattle.container.specs.Directory.{manifest_section, nodes_section}
use Rattle.references.specs.References.{export_hashes}
use Rattle.bundle.specs.Checks.{checks}
use Rattle.unpacking.specs.Written.{written, slots_named}

-- the records and the exports of a file
abbrev pub records_in : List ℕ → List Record
records_in file = nodes_of (nodes_section file)

abbrev pub exports_in : List ℕ → List Export
exports_in file = exports_of (manifest_section file)

-- ---- the refusals

-- 21: base negative or past the end of the table, or room below the node count
unfoldable pub unfit : List ℕ → ℤ → ℕ → Bool
unfit w base n = from_base w base true (λ before part. ltb (room part) n)

-- 22: export table shorter than the export count
unfoldable pub crowded : List ℕ → ℕ → Bool
crowded out m = ltb (length out) m

-- 1 to 22
unfoldable pub load_checks : List ℕ → List ℕ → ℤ → List ℕ → List Row
load_checks file w base out =
    checks file ++
    ((21 when unfit w base (length (records_in file))) ∷ (22 when crowded out (length (exports_in file))) ∷ [])

unfoldable pub load_refusal : List ℕ → List ℕ → ℤ → List ℕ → ℕ
load_refusal file w base out = answer (load_checks file w base out)

-- ---- the call

-- the word table and the export table at exit, and the answer
pub data Loaded : Type 0 where
  loaded : List ℕ → List ℕ → Result Accepted ℕ → Loaded

-- the export table with the slots of the exports, in manifest order
unfoldable pub exports_written : List Record → List Export → List ℕ → List ℕ
exports_written rs es out = slots_named rs (export_hashes es) ++ drop (length es) out

-- the records in the part of the table that is ours, the export slots, and how many there are of each
unfoldable pub accept : List Record → List Export → List ℕ → List ℕ → Loaded
accept rs es w out = loaded (written rs 0 rs w) (exports_written rs es out) (accepted (length rs) (length es))

-- with the words before the base, which keep their contents
abbrev pub loaded_with : List ℕ → Loaded → Loaded
loaded_with before (loaded w out a) = loaded (before ++ w) out a

-- a base outside the table has been refused
unfoldable pub accept_from : List ℕ → List ℕ → ℤ → List ℕ → Loaded
accept_from file w base out =
    from_base w base (loaded w out (Err 21))
    (λ before part. loaded_with before (accept (records_in file) (exports_in file) part out))

-- a refusal changes nothing
unfoldable pub load : List ℕ → List ℕ → ℤ → List ℕ → Loaded
load file w base out =
    unless_refused (load_refusal file w base out) (λ n. loaded w out (Err n)) (accept_from file w base out)
