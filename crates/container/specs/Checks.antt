-- What is refused of a bundle's container, 1 to 11, in the order in which it is asked; and where its two sections lie.
use Rattle.std.specs.Prelude.{ℕ, List, [], ◌∷◌, ◌++◌, Result, Ok, Err}
use Rattle.refusals.specs.Refusals.{Row, ◌when◌, answer, unless_refused}
use Rattle.wire.specs.declared.Part.{Part}
use Rattle.container.specs.declared.directory.DirectoryEntry.{DirectoryEntry}
use Rattle.container.specs.declared.Sections.{Sections}
use Rattle.container.specs.Header.{too_long, too_short, other_magic, other_major, no_directory}
use Rattle.container.specs.Directory.{Critical, Coded, Outside, Altered, entries, some_entry, repeated, missing}
use Rattle.container.specs.Directory.{entry_of, manifest_kind, nodes_kind}

-- of the file's header
unfoldable pub header_checks : List ℕ → List Row
header_checks file =
    -- file over 65,536 bytes / under 32 / magic differs / major not 1
    (1 when too_long file) ∷
    (2 when too_short file) ∷
    (3 when other_magic file) ∷
    (4 when other_major file) ∷
    -- section count outside 1 to 16, directory offset not 32, or directory past the end of file
    (5 when no_directory file) ∷
    []

-- of its directory
unfoldable pub directory_checks : List ℕ → List Row
directory_checks file =
    -- some entry of unknown type is critical
    (6 when some_entry file Critical (entries file)) ∷
    -- some entry has compression not 0 or digest algorithm not 1
    (7 when some_entry file Coded (entries file)) ∷
    -- some entry's offset plus length, as whole numbers, passes the end of file
    (8 when some_entry file Outside (entries file)) ∷
    -- type 1 or 2 occurs more than once / is missing
    (9 when repeated file) ∷
    (10 when missing file) ∷
    -- the digest of the type 1 or type 2 section differs
    (11 when some_entry file Altered (entries file)) ∷
    []

-- 1 to 11
unfoldable pub container_checks : List ℕ → List Row
container_checks file = header_checks file ++ directory_checks file

-- where an entry's section lies
abbrev pub part_of : DirectoryEntry → Part
part_of e = record { start = e.offset; size = e.size }

-- where the manifest section and the nodes section lie
abbrev pub sections_of : List ℕ → Sections
sections_of file =
    record { manifest = part_of (entry_of manifest_kind (entries file)); nodes = part_of (entry_of nodes_kind (entries file)) }

-- the refusal, or the sections
unfoldable pub located : List ℕ → Result Sections ℕ
located file = unless_refused (answer (container_checks file)) Err (Ok (sections_of file))
