-- What one walk over the directory finds, and what 9, 10 and 11 ask of it.
use Rattle.std.specs.Prelude.{ℕ, ◌+◌, List, Bool, true, cond, ltb, eqb}
use Rattle.container.specs.declared.directory.DirectoryEntry.{DirectoryEntry}
use Rattle.container.specs.declared.directory.TypeFound.{TypeFound}
use Rattle.container.specs.declared.directory.Survey.{Survey}
use Rattle.container.specs.Directory.{Critical, Coded, Outside, some_entry, critical, coded, outside, altered}
use Rattle.container.specs.Directory.{occurrences, entry_of, manifest_kind, nodes_kind}

-- of the entries of a type: how many there are, and the first
abbrev pub type_found : ℕ → List DirectoryEntry → TypeFound
type_found kind es = record { times = occurrences kind es; first = entry_of kind es }

unfoldable pub surveyed : List ℕ → List DirectoryEntry → Survey
surveyed file es =
    record {
      critical = some_entry file Critical es;
      coded = some_entry file Coded es;
      outside = some_entry file Outside es;
      manifest = type_found manifest_kind es;
      nodes = type_found nodes_kind es;
    }

-- ---- one turn of the walk, which goes from the last entry to the first: what is found with one more entry before the others

abbrev pub either : Bool → Bool → Bool
either a b = cond a true b

unfoldable pub type_noted : ℕ → TypeFound → DirectoryEntry → TypeFound
type_noted kind t e = cond (eqb e.kind kind) (record { times = t.times + 1; first = e }) t

unfoldable pub noted : List ℕ → Survey → DirectoryEntry → Survey
noted file s e =
    record {
      critical = either (critical e) s.critical;
      coded = either (coded e) s.coded;
      outside = either (outside file e) s.outside;
      manifest = type_noted manifest_kind s.manifest e;
      nodes = type_noted nodes_kind s.nodes e;
    }

-- ---- 9, 10 and 11

-- type 1 or 2 occurs more than once
unfoldable pub repeated_in : Survey → Bool
repeated_in s = either (ltb 1 s.manifest.times) (ltb 1 s.nodes.times)

-- type 1 or 2 is missing
unfoldable pub missing_in : Survey → Bool
missing_in s = either (eqb s.manifest.times 0) (eqb s.nodes.times 0)

-- the digest of the first section of type 1 or 2 differs
unfoldable pub altered_in : List ℕ → Survey → Bool
altered_in file s = either (altered file s.manifest.first) (altered file s.nodes.first)
