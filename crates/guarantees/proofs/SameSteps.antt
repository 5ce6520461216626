-- A step that does not stop is the same on tables with the same used slots and waiting frames, and at least the room.
use Prim.Native.Nat.{ℕ, zero, suc, ◌+◌, ◌≤◌, ◌<◌}
use mathlib.Core.Path.{◌≡◌, refl, sym, ap, ◌∙◌}
use mathlib.Core.Bool.{cond}
use mathlib.Core.List.{List}
use native.Mathlib.Omega.{arith}
use native.Mathlib.Numerals.{add-one}
use native.Mathlib.Decide.{dec_lt}
use lib.Dec.{ltb}
use lib.ListN.{length}
use borrow.Author.Tests.{lt-ltb, ltb-true}
use Rattle.table.specs.declared.slots.Slot.{Slot}
use Rattle.table.specs.declared.slots.Node.{Node}
use Rattle.table.specs.declared.slots.Node.TheVariants.{Leaf, Stem, Fork}
use Rattle.frames.specs.declared.Frame.{Frame}
use Rattle.frames.specs.declared.Frame.TheVariants.{Operand, Argument, Function}
use Rattle.table.specs.Slots.{slot, room, node_at, put_node, Below, SameSlots}
use Rattle.table.specs.Sound.{SlotsPass}
use Rattle.frames.specs.Frames.{frame_room, frame_at, put_frame, drop_frame, cleared}
use Rattle.table.proofs.Tests.{by_test}
use Rattle.table.proofs.SlotLaws.{room_put, same_node, same_put}
use Rattle.table.proofs.SoundLaws.{slot_bounds}
use Rattle.frames.proofs.FrameLaws.{frame_room_long, length_put_frame, length_drop, length_cleared}
use Rattle.frames.proofs.FrameLaws.{frame_here, frame_other, frame_dropped}
use Rattle.stepping.specs.declared.State.{State}
use Rattle.stepping.specs.declared.Turn.{Turn}
use Rattle.stepping.specs.declared.Turn.TheVariants.{Going, Done, Stopped}
use Rattle.stepping.specs.Rules.{SlotAction, Make, Give, Go, Push, on_argument, on_fork, on_function, slot_rule}
use Rattle.stepping.specs.Step.{Stepped, at, beside, meet_frame, meet, carry, step}
use Rattle.stepping.specs.Ready.{Runnable, Waits}

-- the same used slots, and at least the room
pub record SameWords (w w' : List ℕ) (used : ℕ) : Type 0 where
  pub slots : SameSlots used w w'
  pub rooms : room w ≤ room w'

-- the same waiting frames, and at least the room
pub record SameFrames (j j' : List ℕ) (waiting : ℕ) : Type 0 where
  pub frames : (k : ℕ) → k < waiting → frame_at j k ≡ frame_at j' k
  pub rooms : frame_room j ≤ frame_room j'

-- the same turn, and tables that have the same used slots and waiting frames; a step of the first that stopped says nothing of
-- the second's
abbrev pub StaysAs : List ℕ → List ℕ → Turn → Stepped → Type 0
StaysAs w j (Going s) (at w' j' t) = (t ≡ Going s) × SameWords w w' s.used × SameFrames j j' s.waiting
StaysAs w j (Done a used) (at w' j' t) = (t ≡ Done a used) × SameWords w w' used
StaysAs w j (Stopped why) c = Unit {0}

abbrev pub Stays : Stepped → Stepped → Type 0
Stays (at w j t) c = StaysAs w j t c

-- ---- the rules

module _ (w w' : List ℕ) (used : ℕ) (good : SlotsPass w used) (same : SameWords w w' used) where
  module _ (x : Slot) (below : x.0 < used) where
    fork_same : (n : Node) (c : Slot) → on_fork w n c x ≡ on_fork w' n c x
    unfolding on_fork
    fork_same Leaf c = refl
    fork_same (Stem a) c = refl
    fork_same (Fork a b) c = ap (on_argument a b c) (same_node w w' same.slots x.0 below)

    function_same : (i : ℕ) (n : Node) → i < used → Below i n → on_function w n x ≡ on_function w' n x
    unfolding on_function
    function_same i Leaf h b = refl
    function_same i (Stem a) h b = refl
    function_same i (Fork g c) h b =
        rw (← same_node w w' same.slots g.0 (omega arith)) (fork_same (node_at w g.0) c)

    -- a rule looks at used slots only
    rule_same : (f : Slot) → f.0 < used → slot_rule w f x ≡ slot_rule w' f x
    unfolding slot_rule
    rule_same f h =
        rw (← same_node w w' same.slots f.0 h)
        (function_same f.0 (node_at w f.0) h (slot_bounds w used good.sound f.0 h))

-- ---- the tables

-- the next slot is written
words_put : (w w' : List ℕ) (used : ℕ) (n : Node) → SameWords w w' used → used < room w
    → SameWords (put_node w used n) (put_node w' used n) (used + 1)
words_put w w' used n same h =
    let l : used < room w' = omega (arith, same.rooms) in
    record {
      slots = same_put w w' same.slots n h l;
      rooms = rw (room_put w used n, room_put w' used n) same.rooms;
    }

module _ (j j' : List ℕ) where
  rooms_long : (k k' : List ℕ) → length k ≡ length j → length k' ≡ length j' → frame_room j ≤ frame_room j'
      → frame_room k ≤ frame_room k'
  rooms_long k k' e e' h = rw (frame_room_long j k e, frame_room_long j' k' e') h

  -- no frame waits
  pub frames_cleared : frame_room j ≤ frame_room j' → SameFrames (cleared j) (cleared j') 0
  frames_cleared h =
      record {
        frames = λ k l. absurd (omega arith);
        rooms = rooms_long (cleared j) (cleared j') (length_cleared j) (length_cleared j') h;
      }

  module _ (k : ℕ) where
    -- a frame is written at place k, and is the newest
    frames_put : (f : Frame) → SameFrames j j' k → k < frame_room j
        → SameFrames (put_frame j k f) (put_frame j' k f) (suc k)
    frames_put f same h =
        let l : k < frame_room j' = omega (arith, same.rooms) in
        record {
          frames = λ i b.
              elim (dec_lt i k) [
                | yes g ↦
                    let o : i ≡ k → ⊥ = omega arith in
                    frame_other j k f i o ∙ same.frames i g ∙ sym (frame_other j' k f i o)
                | no g ↦
                    let e : i ≡ k = omega (arith, g) in
                    rw e (frame_here j k f h ∙ sym (frame_here j' k f l))
              ];
          rooms =
              rooms_long (put_frame j k f) (put_frame j' k f) (length_put_frame j k f) (length_put_frame j' k f)
              same.rooms;
        }

    -- the newest frame goes
    frames_drop : SameFrames j j' (suc k) → SameFrames (drop_frame j k) (drop_frame j' k) k
    frames_drop same =
        record {
          frames = λ i b.
              let o : i ≡ k → ⊥ = omega arith in
              frame_dropped j k i o ∙ same.frames i (omega arith) ∙ sym (frame_dropped j' k i o);
          rooms = rooms_long (drop_frame j k) (drop_frame j' k) (length_drop j k) (length_drop j' k) same.rooms;
        }

    frames_less : SameFrames j j' (suc k) → SameFrames j j' k
    frames_less same = record { frames = λ i b. same.frames i (omega arith); rooms = same.rooms }

-- ---- the step

module _ (j j' w w' : List ℕ) (t : Slot) (used : ℕ) (words : SameWords w w' used) where
  frame_meets : (k : ℕ) (f : Frame) → SameFrames j j' (suc k) → k < frame_room j
      → Stays (beside w (meet_frame j t used k f)) (beside w' (meet_frame j' t used k f))
  unfolding meet_frame
  frame_meets k (Operand b x) same h =
      (refl, words, frames_put j j' k (Function t) (frames_less j j' k same) h)
  frame_meets k (Argument v) same h = (refl, words, frames_drop j j' k same)
  frame_meets k (Function f) same h = (refl, words, frames_drop j j' k same)

  meets : (waiting : ℕ) → SameFrames j j' waiting → waiting ≤ frame_room j
      → Stays (beside w (meet j t used waiting)) (beside w' (meet j' t used waiting))
  unfolding meet
  meets zero same h = (refl, words)
  meets (suc k) same h =
      rw (← same.frames k (omega arith)) (frame_meets k (frame_at j k) same (omega arith))

-- where there is room in the first, there is in the second
tested : (m l l' : ℕ) (r r' z z' : Stepped) → l ≤ l' → ((c : Stepped) → Stays z c) → (m < l → Stays r r')
    → Stays (cond (ltb m l) r z) (cond (ltb m l') r' z')
tested m l l' r r' z z' h o k =
    by_test (λ (c : Stepped). Stays c (cond (ltb m l') r' z')) (ltb m l)
    (λ e. let g : m < l = ltb-true m l e in rw (lt-ltb m l' (omega arith)) (k g))
    (λ _. o (cond (ltb m l') r' z'))

module _ (w w' j j' : List ℕ) (s : State) (ready : Runnable w s) (waits : Waits j s.used s.waiting)
    (words : SameWords w w' s.used) (frames : SameFrames j j' s.waiting) where
  carry_stays : (a : SlotAction) → Stays (carry w j s a) (carry w' j' s a)
  unfolding carry
  carry_stays (Make n) =
      tested s.used (room w) (room w') _ _ _ _ words.rooms (λ c. tt)
      (λ h.
      meets j j' (put_node w s.used n) (put_node w' s.used n) (slot s.used) (s.used + 1)
      (words_put w w' s.used n words h) s.waiting frames waits.fits)
  carry_stays (Give t) = meets j j' w w' t s.used words s.waiting frames waits.fits
  carry_stays (Go f x) = (refl, words, frames)
  carry_stays (Push f x k) =
      tested s.waiting (frame_room j) (frame_room j') _ _ _ _ frames.rooms (λ c. tt)
      (λ h. (refl, words, rw add-one (frames_put j j' s.waiting k frames h)))

  -- a step that does not stop is the same, and leaves the same
  pub step_stays : Stays (step w j s) (step w' j' s)
  unfolding step
  step_stays =
      rw (← rule_same w w' s.used ready.slots words s.x ready.x s.f ready.f)
      (carry_stays (slot_rule w s.f s.x))
