-- A step keeps what the next one works on: sound used slots, an f and an x among them, and frames that name only those.
use Prim.Native.Nat.{ℕ, zero, suc, ◌+◌, ◌≤◌, ◌<◌}
use mathlib.Core.Path.{◌≡◌, sym, subst}
use mathlib.Core.Bool.{true}
use mathlib.Core.List.{List}
use native.Mathlib.Omega.{arith}
use native.Mathlib.Numerals.{add-one}
use native.Mathlib.Decide.{dec_lt}
use lib.Dec.{ltb}
use borrow.Author.Tests.{ltb-true}
use Rattle.table.specs.declared.slots.Slot.{Slot}
use Rattle.table.specs.declared.slots.Node.{Node}
use Rattle.table.specs.declared.slots.Node.TheVariants.{Leaf, Stem, Fork}
use Rattle.frames.specs.declared.Frame.{Frame}
use Rattle.frames.specs.declared.Frame.TheVariants.{Operand, Argument, Function}
use Rattle.table.specs.Limits.{max_slots}
use Rattle.table.specs.Slots.{slot, room, node_at, put_node, Below}
use Rattle.table.specs.Sound.{SlotsPass, sound}
use Rattle.frames.specs.Frames.{frame_room, frame_at, put_frame, drop_frame, FrameNames}
use Rattle.table.proofs.Tests.{by_test}
use Rattle.table.proofs.SlotLaws.{room_most}
use Rattle.table.proofs.SoundLaws.{slot_bounds, sound_next}
use Rattle.frames.proofs.FrameLaws.{frame_room_long, length_put_frame, frame_here, frame_other}
use Rattle.frames.proofs.FrameLaws.{length_drop, frame_dropped}
use Rattle.stepping.specs.declared.State.{State}
use Rattle.stepping.specs.declared.Turn.{Turn}
use Rattle.stepping.specs.declared.Turn.TheVariants.{Going, Done, Stopped}
use Rattle.stepping.specs.Rules.{SlotAction, Make, Give, Go, Push, on_argument, on_fork, on_function, slot_rule}
use Rattle.stepping.specs.Step.{meet_frame, meet, Stepped, at, beside, carry, step}
use Rattle.stepping.specs.Ready.{Runnable, Waits, Asks, Carries}

-- ---- a bound may grow

pub below_more : (n m : ℕ) → n ≤ m → (node : Node) → Below n node → Below m node
below_more n m h Leaf b = tt
below_more n m h (Stem a) b = omega arith
below_more n m h (Fork a c) b = (omega arith, omega arith)

pub names_more : (n m : ℕ) → n ≤ m → (f : Frame) → FrameNames n f → FrameNames m f
names_more n m h (Operand b x) k = (omega arith, omega arith)
names_more n m h (Argument v) k = omega arith
names_more n m h (Function w) k = omega arith

-- frames that wait go on waiting when more slots are used
pub waits_more : (j : List ℕ) (n m waiting : ℕ) → n ≤ m → Waits j n waiting → Waits j m waiting
waits_more j n m waiting h g =
    record { fits = g.fits; names = λ k l. names_more n m h (frame_at j k) (g.names k l) }

-- no frame waits
pub waits_none : (j : List ℕ) (used : ℕ) → Waits j used 0
waits_none j used = record { fits = omega arith; names = λ k l. absurd (omega arith) }

-- the slots of a state that is ready are numbers that the calls have
pub slots_below : (w : List ℕ) (s : State) → Runnable w s → (s.f.0 < max_slots) × (s.x.0 < max_slots)
slots_below w s r =
    let m = room_most w in
    (omega (arith, r.f, r.slots.fits), omega (arith, r.x, r.slots.fits))

-- ---- what a rule asks for

odd : ◌≡◌ {A = ℕ} 0 1 → ⊥
odd e = absurd (omega arith)

module _ (w : List ℕ) (used : ℕ) (good : sound w used ≡ true) where
  -- the children of a used slot's node are used slots
  pub children : (i : ℕ) → i < used → Below used (node_at w i)
  children i h = below_more i used (omega arith) (node_at w i) (slot_bounds w used good i h)

  module _ (x : Slot) (hx : x.0 < used) where
    argument_asks : (a b c : Slot) → a.0 < used → b.0 < used → c.0 < used →
        (n : Node) → Below used n → Asks used (on_argument a b c n)
    unfolding on_argument
    argument_asks a b c ha hb hc Leaf h = ha
    argument_asks a b c ha hb hc (Stem u) h = (hb, h)
    argument_asks a b c ha hb hc (Fork u v) h = (hc, h.0, h.1)

    fork_asks : (g : Node) (c : Slot) → Below used g → c.0 < used → Asks used (on_fork w g c x)
    unfolding on_fork
    fork_asks Leaf c h hc = hc
    fork_asks (Stem a) c h hc = (h, hx, (hc, hx))
    fork_asks (Fork a b) c h hc =
        argument_asks a b c h.0 h.1 hc (node_at w x.0) (children x.0 hx)

    function_asks : (n : Node) → Below used n → Asks used (on_function w n x)
    unfolding on_function
    function_asks Leaf h = (hx, λ e. odd (cc))
    function_asks (Stem a) h = ((h, hx), λ e. odd (cc))
    function_asks (Fork g c) h = fork_asks (node_at w g.0) c (children g.0 h.0) h.1

-- a rule on used slots asks for nothing but used slots
pub rule_asks : (w : List ℕ) (s : State) → Runnable w s → Asks s.used (slot_rule w s.f s.x)
unfolding slot_rule
rule_asks w s r =
    let good = r.slots.sound in
    function_asks w s.used good s.x r.x (node_at w s.f.0) (children w s.used good s.f.0 r.f)

-- and may be carried out, as whatever is told to be the rule's
pub rule_carries : (w j : List ℕ) (s : State) → Runnable w s → Waits j s.used s.waiting →
    (a : SlotAction) → a ≡ slot_rule w s.f s.x → Carries j s a
rule_carries w j s r waits a e =
    record {
      most = omega (arith, r.slots.fits, room_most w);
      waits = waits;
      asks = subst (Asks s.used) (sym e) (rule_asks w s r);
    }

-- ---- the frames

module _ (j : List ℕ) (used k : ℕ) where
  -- a frame that is written at place k, after k frames, waits with them
  pub waits_put : (f : Frame) → k < frame_room j → ((i : ℕ) → i < k → FrameNames used (frame_at j i)) → FrameNames used f →
      Waits (put_frame j k f) used (k + 1)
  waits_put f l each n =
      record {
        fits = rw (frame_room_long j (put_frame j k f) (length_put_frame j k f)) (omega arith);
        names = λ i h.
            elim (dec_lt i k) [
              | yes g ↦ rw (frame_other j k f i (omega (arith, g))) (each i g)
              | no g ↦ let e : i ≡ k = omega (arith, g) in rw (e, frame_here j k f l) n
            ];
      }

  -- when the newest frame goes, the others wait on
  pub waits_drop : Waits j used (suc k) → Waits (drop_frame j k) used k
  waits_drop h =
      record {
        fits = rw (frame_room_long j (drop_frame j k) (length_drop j k)) (omega (arith, h.fits));
        names = λ i l. rw (frame_dropped j k i (omega (arith, l))) (h.names i (omega (arith, l)));
      }

-- ---- a step

-- the tables and the state that a step leaves are ready for another one; or its slots are sound, with the result among them
abbrev pub LeftBy : List ℕ → List ℕ → Turn → Type 0
LeftBy w j (Going s) = Runnable w s × Waits j s.used s.waiting
LeftBy w j (Done t used) = SlotsPass w used × (t.0 < used)
LeftBy w j (Stopped why) = Unit {0}

abbrev pub Left : Stepped → Type 0
Left (at w j t) = LeftBy w j t

module _ (w j : List ℕ) (t : Slot) (used : ℕ) (slots : SlotsPass w used) (ht : t.0 < used) where
  frame_keeps : (k : ℕ) (f : Frame) → Waits j used (suc k) → FrameNames used f → Left (beside w (meet_frame j t used k f))
  unfolding meet_frame
  frame_keeps k (Operand b x) h n = (
    record { slots = slots; f = n.0; x = n.1 },
    rw (← add-one k) (waits_put j used k (Function t) h.fits (λ i l. h.names i (omega arith)) ht),
  )
  frame_keeps k (Argument v) h n = (record { slots = slots; f = ht; x = n }, waits_drop j used k h)
  frame_keeps k (Function v) h n = (record { slots = slots; f = n; x = ht }, waits_drop j used k h)

  -- so are those that the meeting of a used slot with the newest frame leaves,
  pub meet_keeps : (waiting : ℕ) → Waits j used waiting → Left (beside w (meet j t used waiting))
  unfolding meet
  meet_keeps zero h = (slots, ht)
  meet_keeps (suc k) h = frame_keeps k (frame_at j k) h (h.names k (omega arith))

module _ (w j : List ℕ) (s : State) (r : Runnable w s) (waits : Waits j s.used s.waiting) where
  carry_keeps : (a : SlotAction) → Asks s.used a → Left (carry w j s a)
  unfolding carry
  carry_keeps (Make n) h =
      by_test Left (ltb s.used (room w))
      (λ e.
      let l : s.used < room w = ltb-true s.used (room w) e in
      meet_keeps (put_node w s.used n) j (slot s.used) (s.used + 1)
      (sound_next w s.used n r.slots l h.0 h.1) (omega arith)
      s.waiting (waits_more j s.used (s.used + 1) s.waiting (omega arith) waits))
      (λ _. tt)
  carry_keeps (Give t) h = meet_keeps w j t s.used r.slots h s.waiting waits
  carry_keeps (Go f x) h = (record { slots = r.slots; f = h.0; x = h.1 }, waits)
  carry_keeps (Push f x k) h =
      by_test Left (ltb s.waiting (frame_room j))
      (λ e.
      let l : s.waiting < frame_room j = ltb-true s.waiting (frame_room j) e in (
        record { slots = r.slots; f = h.0; x = h.1 },
        waits_put j s.used s.waiting k l waits.names h.2,
      ))
      (λ _. tt)

  -- those that a step leaves,
  pub step_keeps : Left (step w j s)
  unfolding step
  step_keeps = carry_keeps (slot_rule w s.f s.x) (rule_asks w s r)

  -- and whatever is told to be a step's
  pub step_left : (w' j' : List ℕ) (t : Turn) → at w' j' t ≡ step w j s → Left (at w' j' t)
  step_left w' j' t e = subst Left (sym e) step_keeps
