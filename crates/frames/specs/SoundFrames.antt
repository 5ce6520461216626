-- Whether waiting frames, the paper's waiting jobs, are sound.
use Rattle.std.specs.Prelude.{ℕ, zero, suc, ◌*◌, ◌≤◌, ◌<◌, ◌≡◌, Bool, true, ◌&&◌, ◌||◌, List, [], ◌∷◌, ◌⊎◌, ◌↔◌, leb, ltb, eqb, length, drop}
use Rattle.calculus.specs.Rules.{TreeFrame}
use Rattle.table.specs.Sound.{SoundSlots}
use Rattle.frames.specs.Frames.{frame_width, frame_room, Record, job_words_at}
use Rattle.frames.specs.Stand.{StandFrom, ZeroFrom}

-- ---- the test

-- of three words
unfoldable pub frame_sound : ℕ → Record → Bool
frame_sound used r =
    ltb r.first used
    && ((eqb r.tag 1 && ltb r.second used) || ((eqb r.tag 2 || eqb r.tag 3) && eqb r.second 0))

-- so are the first k frames
unfoldable pub each_sound : ℕ → List ℕ → ℕ → Bool
each_sound used j zero = true
each_sound used j (suc k) = each_sound used j k && frame_sound used (job_words_at j k)

unfoldable pub all_zero : List ℕ → Bool
all_zero [] = true
all_zero (x ∷ xs) = eqb x 0 && all_zero xs

-- of all waiting frames, and of the words above them
unfoldable pub frames_sound : ℕ → List ℕ → ℕ → Bool
frames_sound used j waiting =
    leb waiting (frame_room j) && (each_sound used j waiting && all_zero (drop (frame_width * waiting) j))

-- ---- what it says

-- the three words of a sound job: "each tag is 1 to 3, every slot they name is used, the third word is 0 under tags 2 and 3"
pub record SoundJob (used : ℕ) (r : Record) : Type 0 where
  pub tag : (1 ≤ r.tag) × (r.tag ≤ 3)
  pub first : r.first < used
  pub second : r.tag ≡ 1 → r.second < used
  pub third : (r.tag ≡ 2) ⊎ (r.tag ≡ 3) → r.second ≡ 0

-- "waiting jobs are sound when they are no more than the job room", each is, "and all words above them are 0"
pub record SoundJobs (used : ℕ) (j : List ℕ) (waiting : ℕ) : Type 0 where
  pub fits : waiting ≤ frame_room j
  pub each : (k : ℕ) → k < waiting → SoundJob used (job_words_at j k)
  pub above : ZeroFrom j waiting

-- The test says just that.
abbrev pub FramesSoundExactly : Type 0
FramesSoundExactly = (used : ℕ) (j : List ℕ) (waiting : ℕ) → (frames_sound used j waiting ≡ true) ↔ SoundJobs used j waiting

-- Sound waiting jobs, over sound used slots, stand for just one list of frames.
abbrev pub OneFrameList : Type 0
OneFrameList =
    (w : List ℕ) (used : ℕ) (j : List ℕ) → SoundSlots w used → (waiting : ℕ) → SoundJobs used j waiting
    → (fs : List TreeFrame) × (length fs ≡ waiting) × StandFrom w used j 0 fs
    × ((other : List TreeFrame) → length other ≡ waiting → StandFrom w used j 0 other → other ≡ fs)
