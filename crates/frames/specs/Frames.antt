-- Continuation frames, the paper's jobs: frame k is words 3k to 3k + 2 of its table.
use Rattle.std.specs.Prelude.{ℕ, ◌+◌, ◌*◌, ◌/◌, ◌≤◌, ◌<◌, ◌≡◌, cond, List, ◌⊎◌, eqb, length, get_or, set, replicate}
use Rattle.frames.specs.declared.Frame.{Frame}
use Rattle.frames.specs.declared.Frame.TheVariants.{Operand, Argument, Function}
use Rattle.table.specs.Limits.{max_frames, at_most}
use Rattle.table.specs.Slots.{slot}

-- the words of a frame
abbrev pub frame_width : ℕ
frame_width = 3

-- the job room: rounded down, at most 65,535
unfoldable pub frame_room : List ℕ → ℕ
frame_room j = at_most max_frames (length j / frame_width)

-- "three to a job (room rounded down, at most 65,535)"
abbrev pub JobRoomIs : Type 0
JobRoomIs =
    (j : List ℕ)
    → (3 * frame_room j ≤ length j) × (frame_room j ≤ 65535) × ((frame_room j ≡ 65535) ⊎ (length j < 3 * frame_room j + 3))

-- the three words of a frame
pub record Record : Type 0 where
  pub tag : ℕ
  pub first : ℕ
  pub second : ℕ

-- "then b to x" is (1, b, x), "then the result to v" (2, v, 0), "then w to the result" (3, w, 0)
abbrev pub record_of : Frame → Record
record_of (Operand b x) = record { tag = 1; first = b.0; second = x.0 }
record_of (Argument v) = record { tag = 2; first = v.0; second = 0 }
record_of (Function w) = record { tag = 3; first = w.0; second = 0 }

-- no frame
abbrev pub none : Record
none = record { tag = 0; first = 0; second = 0 }

-- the frame of three words; no sound frame has another tag than 1, 2 and 3
abbrev pub frame_of : ℕ → ℕ → ℕ → Frame
frame_of tag a b =
    cond (eqb tag 1) (Operand (slot a) (slot b))
    (cond (eqb tag 2) (Argument (slot a)) (Function (slot a)))

unfoldable pub job_words_at : List ℕ → ℕ → Record
job_words_at j k =
    record {
      tag = get_or j (frame_width * k) 0;
      first = get_or j (frame_width * k + 1) 0;
      second = get_or j (frame_width * k + 2) 0;
    }

-- place k is words 3k, 3k + 1 and 3k + 2
abbrev pub JobWords : Type 0
JobWords =
    (j : List ℕ) (k : ℕ)
    → job_words_at j k ≡ record { tag = get_or j (3 * k) 0; first = get_or j (3 * k + 1) 0; second = get_or j (3 * k + 2) 0 }

unfoldable pub put_record : List ℕ → ℕ → Record → List ℕ
put_record j k v =
    set (set (set j (frame_width * k) v.tag) (frame_width * k + 1) v.first) (frame_width * k + 2) v.second

-- the frame at place k
unfoldable pub frame_at : List ℕ → ℕ → Frame
frame_at j k = frame_of (job_words_at j k).tag (job_words_at j k).first (job_words_at j k).second

-- the table with a frame written at place k, and with the frame at place k gone
unfoldable pub put_frame : List ℕ → ℕ → Frame → List ℕ
put_frame j k f = put_record j k (record_of f)

unfoldable pub drop_frame : List ℕ → ℕ → List ℕ
drop_frame j k = put_record j k none

-- the table with no frame: every word is 0
unfoldable pub cleared : List ℕ → List ℕ
cleared j = replicate (length j) 0

-- the slots that the frame names are used
abbrev pub FrameNames : ℕ → Frame → Type 0
FrameNames used (Operand b x) = (b.0 < used) × (x.0 < used)
FrameNames used (Argument v) = v.0 < used
FrameNames used (Function w) = w.0 < used
