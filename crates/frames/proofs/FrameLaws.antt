-- Laws of frames: what a place says after a frame was written or dropped, and which words stay 0.
use Prim.Native.Nat.{ℕ, zero, suc, ◌+◌, ◌*◌, ◌/◌, ◌≤◌, ◌<◌}
use mathlib.Core.Path.{◌≡◌, refl, ap, ◌∙◌}
use mathlib.Core.List.{List, [], ◌∷◌}
use mathlib.Core.Logic.{inl, inr}
use native.Mathlib.Omega.{arith}
use native.Mathlib.Decide.{dec_lt, ℕ_discrete}
use lib.ListN.{length, get_or, replicate, length-set, length-replicate}
use lib.Seq.{get_or-set_same, get_or-set_other}
use Rattle.calculus.specs.Rules.{TreeFrame as Job}
use Rattle.frames.specs.declared.Frame.{Frame}
use Rattle.frames.specs.declared.Frame.TheVariants.{Operand, Argument, Function}
use Rattle.table.specs.Limits.{max_frames, at_most}
use Rattle.frames.specs.Frames.{frame_width, frame_room, JobRoomIs, Record, record_of, none, job_words_at, JobWords, put_record}
use Rattle.frames.specs.Frames.{frame_at, put_frame, drop_frame, cleared}
use Rattle.table.specs.Holds.{Kept}
use Rattle.frames.specs.Stand.{Stands, stands_operand, stands_argument, stands_function, StandFrom, ZeroFrom}

-- a frame table's room depends on its length alone
pub frame_room_long : (j k : List ℕ) → length k ≡ length j → frame_room k ≡ frame_room j
unfolding frame_room
frame_room_long j k e = ap (λ (l : ℕ). at_most max_frames (l / frame_width)) e

-- it is at most the limit
pub frame_room_most : (j : List ℕ) → frame_room j ≤ max_frames
unfolding frame_room
frame_room_most j = omega arith

-- Three words to a job, rounded down, and at most the limit.
pub job_room_is : JobRoomIs
unfolding frame_room
job_room_is j = (
  omega arith,
  omega arith,
  elim (dec_lt (length j) (3 * frame_room j + 3)) [
    | yes h ↦ inr h
    | no h ↦ inl (omega (arith, h))
  ],
)

-- Place k is words 3k, 3k + 1 and 3k + 2.
pub job_words : JobWords
unfolding job_words_at
job_words j k = refl

-- all words of a place in the room are words of the table
pub in_frame_room : (j : List ℕ) (k : ℕ) → k < frame_room j → frame_width * k + 2 < length j
unfolding frame_room
in_frame_room j k h = omega arith

same_words : {a b c a' b' c' : ℕ} → a ≡ a' → b ≡ b' → c ≡ c' →
    ◌≡◌ {A = Record} (record { tag = a; first = b; second = c }) (record { tag = a'; first = b'; second = c' })
same_words p q r = λ i. record { tag = p i; first = q i; second = r i }

-- three words are written at place i
module _ (j : List ℕ) (i : ℕ) (v : Record) where
  length_record : length (put_record j i v) ≡ length j
  unfolding put_record
  length_record = simp length-set

  -- every word but the place's three stays
  outside : (k : ℕ) → (k ≡ frame_width * i → ⊥) → (k ≡ frame_width * i + 1 → ⊥) → (k ≡ frame_width * i + 2 → ⊥) →
      get_or (put_record j i v) k 0 ≡ get_or j k 0
  unfolding put_record
  outside k h₀ h₁ h₂ = simp (get_or-set_other, h₀, h₁, h₂)

  put_record_other : (k : ℕ) → (k ≡ i → ⊥) → job_words_at (put_record j i v) k ≡ job_words_at j k
  unfolding job_words_at
  put_record_other k h =
      same_words
      (outside (frame_width * k) (omega (arith, h)) (omega arith) (omega arith))
      (outside (frame_width * k + 1) (omega arith) (omega (arith, h)) (omega arith))
      (outside (frame_width * k + 2) (omega arith) (omega arith) (omega (arith, h)))

  module _ (h : i < frame_room j) where
    put_tag : get_or (put_record j i v) (frame_width * i) 0 ≡ v.tag
    unfolding put_record
    put_tag =
        let l : frame_width * i < length j = omega (arith, in_frame_room j i h) in
        let one : frame_width * i ≡ frame_width * i + 1 → ⊥ = omega arith in
        let two : frame_width * i ≡ frame_width * i + 2 → ⊥ = omega arith in
        search (get_or-set_other, get_or-set_same)

    put_first : get_or (put_record j i v) (frame_width * i + 1) 0 ≡ v.first
    unfolding put_record
    put_first =
        let l : frame_width * i + 1 < length j = omega (arith, in_frame_room j i h) in
        let two : frame_width * i + 1 ≡ frame_width * i + 2 → ⊥ = omega arith in
        search (get_or-set_other, get_or-set_same, length-set)

    put_second : get_or (put_record j i v) (frame_width * i + 2) 0 ≡ v.second
    unfolding put_record
    put_second = let l = in_frame_room j i h in search (get_or-set_same, length-set)

    put_record_here : job_words_at (put_record j i v) i ≡ v
    unfolding job_words_at
    put_record_here = same_words put_tag put_first put_second

  -- words that were 0 after the place are 0
  zero_behind : ZeroFrom j (suc i) → ZeroFrom (put_record j i v) (suc i)
  zero_behind z k h = outside k (omega arith) (omega arith) (omega arith) ∙ z k h

-- a place that has the words of a frame holds that frame
pub frame_is : (j : List ℕ) (k : ℕ) (f : Frame) → job_words_at j k ≡ record_of f → frame_at j k ≡ f
unfolding frame_at
frame_is j k (Operand b x) e = rw e
frame_is j k (Argument v) e = rw e
frame_is j k (Function w) e = rw e

-- places with the same words hold the same frame
frame_same : (j k : List ℕ) (i l : ℕ) → job_words_at j i ≡ job_words_at k l → frame_at j i ≡ frame_at k l
unfolding frame_at
frame_same j k i l e = rw e

-- a frame is written at place i
module _ (j : List ℕ) (i : ℕ) (f : Frame) where
  -- the table is as long
  pub length_put_frame : length (put_frame j i f) ≡ length j
  unfolding put_frame
  length_put_frame = length_record j i (record_of f)

  -- the place has the frame's words, and each other place those that it had
  pub record_here : i < frame_room j → job_words_at (put_frame j i f) i ≡ record_of f
  unfolding put_frame
  record_here h = put_record_here j i (record_of f) h

  pub record_other : (k : ℕ) → (k ≡ i → ⊥) → job_words_at (put_frame j i f) k ≡ job_words_at j k
  unfolding put_frame
  record_other k h = put_record_other j i (record_of f) k h

  -- the place holds the frame, and each other place what it held
  pub frame_here : i < frame_room j → frame_at (put_frame j i f) i ≡ f
  frame_here h = frame_is (put_frame j i f) i f (record_here h)

  pub frame_other : (k : ℕ) → (k ≡ i → ⊥) → frame_at (put_frame j i f) k ≡ frame_at j k
  frame_other k h = frame_same (put_frame j i f) j k k (record_other k h)

  -- written over the last frame, or after it, a frame is the last: every word after it is 0
  pub zero_over : ZeroFrom j (suc i) → ZeroFrom (put_frame j i f) (suc i)
  unfolding put_frame
  zero_over z = zero_behind j i (record_of f) z

  pub zero_put : ZeroFrom j i → ZeroFrom (put_frame j i f) (suc i)
  zero_put z = zero_over (λ k h. z k (omega arith))

  -- the words below the place stay
  pub frame_under : (k : ℕ) → k < frame_width * i → get_or (put_frame j i f) k 0 ≡ get_or j k 0
  unfolding put_frame
  frame_under k h = outside j i (record_of f) k (omega arith) (omega arith) (omega arith)

-- the frame at place i goes
module _ (j : List ℕ) (i : ℕ) where
  -- the table is as long
  pub length_drop : length (drop_frame j i) ≡ length j
  unfolding drop_frame
  length_drop = length_record j i none

  -- the words below the place stay
  pub drop_under : (k : ℕ) → k < frame_width * i → get_or (drop_frame j i) k 0 ≡ get_or j k 0
  unfolding drop_frame
  drop_under k h = outside j i none k (omega arith) (omega arith) (omega arith)

  -- each other place has the words that it had, and holds what it held
  pub record_dropped : (k : ℕ) → (k ≡ i → ⊥) → job_words_at (drop_frame j i) k ≡ job_words_at j k
  unfolding drop_frame
  record_dropped k h = put_record_other j i none k h

  pub frame_dropped : (k : ℕ) → (k ≡ i → ⊥) → frame_at (drop_frame j i) k ≡ frame_at j k
  frame_dropped k h = frame_same (drop_frame j i) j k k (record_dropped k h)

  -- once the last frame is gone, every word from its place on is 0
  pub zero_drop : i < frame_room j → ZeroFrom j (suc i) → ZeroFrom (drop_frame j i) i
  unfolding drop_frame
  zero_drop l z k h =
      elim (ℕ_discrete k (frame_width * i)) [
        | yes e ↦ rw e (put_tag j i none l)
        | no n₀ ↦ elim (ℕ_discrete k (frame_width * i + 1)) [
          | yes e ↦ rw e (put_first j i none l)
          | no n₁ ↦ elim (ℕ_discrete k (frame_width * i + 2)) [
            | yes e ↦ rw e (put_second j i none l)
            | no n₂ ↦ zero_behind j i none z k (omega (arith, n₀, n₁, n₂))
          ]
        ]
      ]

zeros_at : (n i : ℕ) → ◌≡◌ {A = ℕ} (get_or (replicate n 0) i 0) 0
zeros_at zero i = refl
zeros_at (suc n) zero = refl
zeros_at (suc n) (suc i) = zeros_at n i

-- the cleared table is as long, and has no word but 0
pub length_cleared : (j : List ℕ) → length (cleared j) ≡ length j
unfolding cleared
length_cleared j = length-replicate {A = ℕ} (length j) 0

pub zero_cleared : (j : List ℕ) → ZeroFrom (cleared j) 0
unfolding cleared
zero_cleared j i h = zeros_at (length j) i

-- words stand for the same frame wherever the trees are kept
module _ {w v : List ℕ} {n m : ℕ} (kept : Kept w n v m) where
  pub stands_kept : (words : Record) (f : Job) → Stands w n words f → Stands v m words f
  stands_kept words _ (stands_operand {a = a} {b = b} {t = t} {u = u} e h g) =
      stands_operand {a = a} {b = b} e (kept a t h) (kept b u g)
  stands_kept words _ (stands_argument {a = a} {t = t} e h) = stands_argument {a = a} e (kept a t h)
  stands_kept words _ (stands_function {a = a} {t = t} e h) = stands_function {a = a} e (kept a t h)

  -- and so do the places of a frame table
  pub stand_kept : (j : List ℕ) (k : ℕ) (fs : List Job) → StandFrom w n j k fs → StandFrom v m j k fs
  stand_kept j k [] h = tt
  stand_kept j k (f ∷ fs) h = (stands_kept (job_words_at j k) f h.0, stand_kept j (suc k) fs h.1)
