-- The two calls on exports.
use Rattle.std.specs.Prelude.{ℕ, ◌+◌, List, [], ◌∷◌, cond, eqb, Option, Some, None, Result, Ok, Err}
use Rattle.lists.specs.Options.{on_some}
use Rattle.wire.specs.Wire.{span}
use Rattle.manifest.specs.Content.{count_at}
use Rattle.manifest.specs.Judged.{export_place, export_index}
use Rattle.wire.specs.declared.Part.{Part}
use Rattle.container.specs.Directory.{entries, entry_of, manifest_kind, manifest_section}
use Rattle.bundle.specs.Checks.{name_refusal}

abbrev pub empty_part : Part
empty_part = record { start = 0; size = 0 }

-- where the manifest section starts
abbrev pub manifest_start : List ℕ → ℕ
manifest_start file = (entry_of manifest_kind (entries file)).offset

-- the name of an export that stands at a position of the manifest section: after its length, and as long as that says
unfoldable pub name_at : List ℕ → Option ℕ → Part
name_at file p =
    on_some p
    (λ at. record { start = manifest_start file + (at + 4); size = count_at (manifest_section file) at })
    empty_part

-- export name by index: the part of the file that is the name, or the empty part if any of 1 to 14 holds or there is no such
-- index
unfoldable pub name_part : List ℕ → ℕ → Part
name_part file i = cond (eqb (name_refusal file) 0) (name_at file (export_place (manifest_section file) i)) empty_part

-- the bytes of that part
unfoldable pub name_call : List ℕ → ℕ → List ℕ
name_call file i = span file (name_part file i).start (name_part file i).size

-- the empty name means the first export
unfoldable pub index_asked : List ℕ → List ℕ → Option ℕ
index_asked m [] = Some 0
index_asked m (b ∷ bs) = export_index m (b ∷ bs)

abbrev pub index_answer : Option ℕ → Result ℕ ℕ
index_answer (Some i) = Ok i
index_answer None = Err 25

-- export index by name: with 1 to 14 it answers that refusal, else 25 or the index
unfoldable pub index_call : List ℕ → List ℕ → Result ℕ ℕ
index_call file name =
    cond (eqb (name_refusal file) 0) (index_answer (index_asked (manifest_section file) name)) (Err (name_refusal file))

-- the paper's numbers of an answer: the number, and the index
pub record IndexNumbers : Type 0 where
  pub number : ℕ
  pub index : ℕ

abbrev pub index_numbers : Result ℕ ℕ → IndexNumbers
index_numbers (Err n) = record { number = n; index = 0 }
index_numbers (Ok i) = record { number = 0; index = i }
