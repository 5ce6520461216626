-- The directory: entries of 60 bytes, each u32 type; u16 version; u16 flags; u16 compression; u16 digest algorithm; u64 offset
-- from the start of the file; u64 length; 32-byte SHA-256 of the section. Version isn't judged.
use Rattle.std.specs.Prelude.{ℕ, zero, suc, ◌+◌, ◌%◌, List, [], ◌∷◌, Bool, true, false, not, cond, length, ltb, eqb}
use Rattle.wire.specs.Wire.{number_at, span, or_zero}
use Rattle.lists.specs.Lists.{same_bytes, any_of, some_of}
use Rattle.sha256_block.specs.Fips180.{sha256}
use Rattle.container.specs.declared.directory.DirectoryEntry.{DirectoryEntry}
use Rattle.container.specs.Header.{header_bytes, entry_bytes, section_count}

-- the entry at a position; the digest by its place
unfoldable pub entry_at : List ℕ → ℕ → DirectoryEntry
entry_at file at =
    record {
      kind = or_zero (number_at 4 file at);
      flags = or_zero (number_at 2 file (at + 6));
      compression = or_zero (number_at 2 file (at + 8));
      algorithm = or_zero (number_at 2 file (at + 10));
      offset = or_zero (number_at 8 file (at + 12));
      size = or_zero (number_at 8 file (at + 20));
      digest = at + 28;
    }

unfoldable pub entries_from : List ℕ → ℕ → ℕ → List DirectoryEntry
entries_from file zero at = []
entries_from file (suc n) at = entry_at file at ∷ entries_from file n (at + entry_bytes)

unfoldable pub entries : List ℕ → List DirectoryEntry
entries file = entries_from file (section_count file) header_bytes

-- type 1 is the manifest, type 2 the nodes
abbrev pub manifest_kind : ℕ
manifest_kind = 1

abbrev pub nodes_kind : ℕ
nodes_kind = 2

abbrev pub known : ℕ → Bool
known kind = cond (eqb kind manifest_kind) true (eqb kind nodes_kind)

-- the bytes of an entry's section, and its digest
abbrev pub section_of : List ℕ → DirectoryEntry → List ℕ
section_of file e = span file e.offset e.size

abbrev pub digest_of : List ℕ → DirectoryEntry → List ℕ
digest_of file e = span file e.digest 32

-- 6: an entry of unknown type is critical: flag bit 0
unfoldable pub critical : DirectoryEntry → Bool
critical e = cond (known e.kind) false (eqb (e.flags % 2) 1)

-- 7: an entry has compression not 0 or digest algorithm not 1
unfoldable pub coded : DirectoryEntry → Bool
coded e = any_of (not (eqb e.compression 0) ∷ not (eqb e.algorithm 1) ∷ [])

-- 8: an entry's offset plus length, as whole numbers, passes the end of file
unfoldable pub outside : List ℕ → DirectoryEntry → Bool
outside file e = ltb (length file) (e.offset + e.size)

-- 11: the digest of the type 1 or type 2 section differs
unfoldable pub altered : List ℕ → DirectoryEntry → Bool
altered file e = cond (known e.kind) (not (same_bytes (sha256 (section_of file e)) (digest_of file e))) false

-- what can be wrong with an entry: 6, 7, 8 and 11
pub data EntryFault : Type 0 where
  Critical : EntryFault
  Coded : EntryFault
  Outside : EntryFault
  Altered : EntryFault

unfoldable pub entry_faulty : List ℕ → EntryFault → DirectoryEntry → Bool
entry_faulty file Critical e = critical e
entry_faulty file Coded e = coded e
entry_faulty file Outside e = outside file e
entry_faulty file Altered e = altered file e

-- some entry has the fault
unfoldable pub some_entry : List ℕ → EntryFault → List DirectoryEntry → Bool
some_entry file fault es = some_of (λ e rest. entry_faulty file fault e) es

-- how many entries have the type
unfoldable pub occurrences : ℕ → List DirectoryEntry → ℕ
occurrences kind [] = 0
occurrences kind (e ∷ es) = cond (eqb e.kind kind) (suc (occurrences kind es)) (occurrences kind es)

-- 9: type 1 or 2 occurs more than once
unfoldable pub repeated : List ℕ → Bool
repeated file =
    any_of (ltb 1 (occurrences manifest_kind (entries file)) ∷ ltb 1 (occurrences nodes_kind (entries file)) ∷ [])

-- 10: type 1 or 2 is missing
unfoldable pub missing : List ℕ → Bool
missing file =
    any_of (eqb (occurrences manifest_kind (entries file)) 0 ∷ eqb (occurrences nodes_kind (entries file)) 0 ∷ [])

-- the first entry of a type; where there is none, one that names no bytes
abbrev pub no_entry : DirectoryEntry
no_entry = record { kind = 0; flags = 0; compression = 0; algorithm = 0; offset = 0; size = 0; digest = 0 }

unfoldable pub entry_of : ℕ → List DirectoryEntry → DirectoryEntry
entry_of kind [] = no_entry
entry_of kind (e ∷ es) = cond (eqb e.kind kind) e (entry_of kind es)

-- the bytes of its section
unfoldable pub section : List ℕ → ℕ → List ℕ
section file kind = section_of file (entry_of kind (entries file))

-- the manifest section and the nodes section
abbrev pub manifest_section : List ℕ → List ℕ
manifest_section file = section file manifest_kind

abbrev pub nodes_section : List ℕ → List ℕ
nodes_section file = section file nodes_kind
