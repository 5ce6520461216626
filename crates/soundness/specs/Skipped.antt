-- "Any other type is skipped unread when not critical", over values: whatever its bytes are, the answers are the same. The proofs
-- are in proofs/Skipped.antt, SkippedBytes.antt.
use Rattle.std.specs.Prelude.{ℕ, ◌+◌, ◌*◌, ◌≤◌, ◌≡◌, List, ◌++◌, ◌↔◌, ◌⊎◌, length}
use Rattle.lists.specs.Among.{Among}
use Rattle.bundle.specs.Checks.{refusal}
use Rattle.bundle.specs.Exports.{name_part, name_call, index_call}
use Rattle.soundness.specs.FileGrammar.{Header, Entry, HasDirectory, IsSection, Known}

-- two files alike in all that is read: as long, with the same header and directory, and the same sections of type 1 and 2
pub record ReadAlike (file other : List ℕ) : Type 0 where
  pub long : length file ≡ length other
  pub header : Header
  pub entries : List Entry
  pub has_directory : HasDirectory header entries file
  pub has_directory' : HasDirectory header entries other
  pub sections : (e : Entry) → Among e entries → Known e → (s : List ℕ) → IsSection e s file ↔ IsSection e s other

abbrev pub SkippedUnread : Type 0
SkippedUnread =
    (file other : List ℕ) → ReadAlike file other →
    (refusal file ≡ refusal other) ×
    ((i : ℕ) → (name_part file i ≡ name_part other i) × (name_call file i ≡ name_call other i)) ×
    ((name : List ℕ) → index_call file name ≡ index_call other name)

-- So other bytes may stand in a section of another type, or anywhere, where neither the directory nor a section of type 1 or 2 has
-- one of them: `before` and `after` are the rest of the file.
abbrev pub SkippedBytes : Type 0
SkippedBytes =
    (before s t after : List ℕ) (h : Header) (es : List Entry) → HasDirectory h es (before ++ (s ++ after)) →
    length s ≡ length t → 32 + 60 * length es ≤ length before →
    ((e : Entry) → Among e es → Known e → (e.offset + e.size ≤ length before) ⊎ (length before + length s ≤ e.offset)) →
    ReadAlike (before ++ (s ++ after)) (before ++ (t ++ after))
