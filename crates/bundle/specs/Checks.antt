-- Document 01's table of refusals, 1 to 20, in the order in which it is asked: the container's, then those of the manifest and of
-- the nodes. A condition is read only where no earlier one holds.
use Rattle.std.specs.Prelude.{ℕ, List, [], ◌∷◌, ◌++◌, not}
use Rattle.refusals.specs.Refusals.{Row, ◌when◌, answer}
use Rattle.manifest.specs.Judged.{malformed, unsupported, misnamed}
use Rattle.nodes.specs.declared.faults.RecordFault.TheVariants.{Hash, Twice, Child}
use Rattle.nodes.specs.Records.{shaped, nodes_of, some_record}
use Rattle.nodes.specs.Links.{circular}
use Rattle.container.specs.Directory.{manifest_section, nodes_section}
use Rattle.container.specs.Checks.{container_checks}
use Rattle.references.specs.References.{unresolved}

-- of its manifest section m
unfoldable pub manifest_checks : List ℕ → List Row
manifest_checks m =
    -- the manifest doesn't have the stated shape
    (12 when malformed m) ∷
    -- a fixed string or export abi differs, a capability is listed, or closure is 1
    (13 when unsupported m) ∷
    -- an export name is empty, over 64 bytes, or used twice
    (14 when misnamed m) ∷
    []

-- of its nodes section s, and of m again
unfoldable pub node_checks : List ℕ → List ℕ → List Row
node_checks m s =
    -- the nodes section doesn't have the stated shape, or count outside 1 to 512
    (15 when not (shaped s)) ∷
    -- a record's hash is wrong / two records carry the same hash
    (16 when some_record Hash (nodes_of s) (nodes_of s)) ∷
    (17 when some_record Twice (nodes_of s) (nodes_of s)) ∷
    -- a child has no record / a node is its own descendant
    (18 when some_record Child (nodes_of s) (nodes_of s)) ∷
    (19 when circular (nodes_of s)) ∷
    -- a root's or export's hash has no record
    (20 when unresolved m s) ∷
    []

-- 1 to 14, which the export calls look at
unfoldable pub name_checks : List ℕ → List Row
name_checks file = container_checks file ++ manifest_checks (manifest_section file)

-- 1 to 20
unfoldable pub checks : List ℕ → List Row
checks file = name_checks file ++ node_checks (manifest_section file) (nodes_section file)

unfoldable pub name_refusal : List ℕ → ℕ
name_refusal file = answer (name_checks file)

unfoldable pub refusal : List ℕ → ℕ
refusal file = answer (checks file)
