-- The hashes that a manifest's roots and exports name.
use Rattle.std.specs.Prelude.{ℕ, ◌+◌, List, [], ◌∷◌, Bool}
use Rattle.lists.specs.Options.{on_some}
use Rattle.wire.specs.Wire.{number_at}
use Rattle.lists.specs.Lists.{any_of}
use Rattle.manifest.specs.Content.{Root, Export, list_from, reference_end, reference_hash}
use Rattle.manifest.specs.Judged.{roots_of, exports_of}
use Rattle.manifest.specs.declared.listed.Reference.{Reference}
use Rattle.nodes.specs.Records.{lacks, nodes_of}

unfoldable pub root_hashes : List Root → List (List ℕ)
root_hashes [] = []
root_hashes (r ∷ rs) = r.hash ∷ root_hashes rs

unfoldable pub export_hashes : List Export → List (List ℕ)
export_hashes [] = []
export_hashes (e ∷ es) = e.hash ∷ export_hashes es

-- 20: a root's or export's hash has no record
unfoldable pub unresolved : List ℕ → List ℕ → Bool
unresolved m s =
    any_of (lacks (nodes_of s) (root_hashes (roots_of m)) ∷ lacks (nodes_of s) (export_hashes (exports_of m)) ∷ [])

-- the same hashes by position, as the code finds them
abbrev pub hashes_from : List ℕ → Reference → ℕ → ℕ → List (List ℕ)
hashes_from m kind n at = list_from (reference_end m kind) (reference_hash m kind) n at

unfoldable pub hashes_at : List ℕ → Reference → ℕ → List (List ℕ)
hashes_at m kind at = on_some (number_at 4 m at) (λ n. hashes_from m kind n (at + 4)) []
