-- A call with no reason to be refused: its used slots are sound, and its f and x hold trees; from there on it is the reference
-- machine's.
use Prim.Native.Nat.{ℕ, ◌-◌, ◌≤◌, ◌<◌}
use mathlib.Core.Path.{◌≡◌, refl, sym, ap, ◌∙◌}
use mathlib.Core.Bool.{Bool, true, false, false≢true}
use mathlib.Core.List.{List, [], ◌++◌, reverse}
use mathlib.Core.Logic.{◌⊎◌, inl, inr}
use native.Mathlib.Omega.{arith}
use native.Mathlib.Decide.{dec_lt}
use lib.ListN.{length, take, drop, take-append-drop}
use lib.Seq.{drop_at, length-take-le}
use lib.IntN.{ℤ, pos, negsuc}
use Rattle.std.specs.Prelude.{Err}
use Rattle.calculus.specs.Tree.{Tree}
use Rattle.calculus.specs.Rules.{TreeFrame}
use Rattle.calculus.specs.Machine.{Outcome}
use Rattle.calculus.specs.Machine as machine
use Rattle.table.specs.Slots.{slot, room}
use Rattle.table.specs.Sound.{sound, SoundSlots}
use Rattle.frames.specs.Frames.{frame_room}
use Rattle.table.specs.Holds.{Holds}
use Rattle.table.proofs.SoundLaws.{each_sound_lem, sound_breaks, slots_sound as slots-sound-test}
use Rattle.table.proofs.HoldsLaws.{sound_holds}
use Rattle.frames.proofs.SoundFrames.{one_list}
use Rattle.stepping.specs.declared.State.{State}
use Rattle.engine.specs.Run.{Ran, ran, drive, jobs_from, state_from, ran_with, run_from}
use Rattle.engine.specs.declared.From.{From}
use Rattle.engine.specs.declared.From.TheVariants.{Scratch, Stop}
use Rattle.engine.specs.Answer.{RunAnswer, run_numbers}
use Rattle.guarantees.specs.Agrees.{Agrees}
use Rattle.guarantees.specs.Run.{RunCall, steps_before, TooMany, Waiting, later, SimulatesFrom, started as let-start}
use Rattle.guarantees.specs.Run.{OutOfTable, base_negative, base_past, above_room, Misplaced, negative, not_used, Damaged, JobsDamaged}
use Rattle.guarantees.proofs.Calls.{jobs_are_sound, run_behind}
use Rattle.guarantees.proofs.Simulates.{Sim}
use Rattle.guarantees.proofs.RunSimulates.{starts, first_stands, run_simulates}
use Rattle.guarantees.proofs.Verdict.{out, misplaced, damaged, at_last, started, Judged, verdict}

-- what such a call works on
pub record Begins (from : From) (w j : List ℕ) (base f x : ℤ) (used fuel : ℕ) : Type 0 where
  pub at : ℕ
  pub base_is : base ≡ pos at
  pub inside : at ≤ length w
  pub slots : SoundSlots (drop at w) used
  pub f_slot : ℕ
  pub f_is : f ≡ pos f_slot
  pub f_tree : Tree
  pub f_holds : Holds (drop at w) used f_slot f_tree
  pub x_slot : ℕ
  pub x_is : x ≡ pos x_slot
  pub x_tree : Tree
  pub x_holds : Holds (drop at w) used x_slot x_tree
  pub frames : List TreeFrame
  pub waits : Waiting from (drop at w) used j frames
  pub few : TooMany from fuel → ⊥

-- a slot that is not misplaced
placed_at : (z : ℤ) (used : ℕ) → (Misplaced used z → ⊥) → (i : ℕ) × (z ≡ pos i) × (i < used)
placed_at (negsuc i) used h = absurd (h negative)
placed_at (pos i) used h =
    elim (dec_lt i used) [
      | yes l ↦ (i, refl, l)
      | no l ↦ absurd (h (not_used {i = i} (omega (arith, l))))
    ]

module _ (w : List ℕ) (b used : ℕ) (out : OutOfTable w (pos b) used → ⊥) (whole : Damaged w (pos b) used → ⊥) where
  inside_it : b ≤ length w
  inside_it =
      elim (dec_lt (length w) b) [
        | yes l ↦ absurd (out (base_past l))
        | no l ↦ omega (arith, l)
      ]

  slots_sound : SoundSlots (drop b w) used
  slots_sound =
      record {
        fits =
            elim (dec_lt (room (drop b w)) used) [
              | yes l ↦ absurd (out (above_room l))
              | no l ↦ omega (arith, l)
            ];
        each = (each_sound_lem (drop b w) used).0 (go (sound (drop b w) used) refl);
      }
    where
      go : (t : Bool) → sound (drop b w) used ≡ t → sound (drop b w) used ≡ true
      go true e = e
      go false e = absurd (whole (sound_breaks (drop b w) used e))

-- the frames that wait
waiting_frames : (from : From) (w j : List ℕ) (used : ℕ) → SoundSlots w used → (JobsDamaged from used j → ⊥)
    → (frames : List TreeFrame) × Waiting from w used j frames
waiting_frames Scratch w j used good h = ([], refl)
waiting_frames (Stop waiting steps) w j used good h =
    let jobs = jobs_are_sound used j waiting h in
    let (fs, long, stand, _) = one_list w used j good waiting jobs in
    (fs, (jobs, long, stand))

pub begins : (from : From) (w j : List ℕ) (base f x : ℤ) (used fuel : ℕ) → (OutOfTable w base used → ⊥)
    → (Misplaced used f ⊎ Misplaced used x → ⊥) → (Damaged w base used ⊎ JobsDamaged from used j → ⊥) → (TooMany from fuel → ⊥)
    → Begins from w j base f x used fuel
begins from w j (negsuc b) f x used fuel o m d n = absurd (o base_negative)
begins from w j (pos b) f x used fuel o m d n =
    let slots = slots_sound w b used o (λ h. d (inl h)) in
    let (i, p, li) = placed_at f used (λ h. m (inl h)) in
    let (k, q, lk) = placed_at x used (λ h. m (inr h)) in
    let (ft, hf) = sound_holds (drop b w) used slots i li in
    let (xt, hx) = sound_holds (drop b w) used slots k lk in
    let (fs, hs) = waiting_frames from (drop b w) j used slots (λ h. d (inr h)) in
    record {
      at = b;
      base_is = refl;
      inside = inside_it w b used o (λ h. d (inl h));
      slots = slots;
      f_slot = i;
      f_is = p;
      f_tree = ft;
      f_holds = hf;
      x_slot = k;
      x_is = q;
      x_tree = xt;
      x_holds = hx;
      frames = fs;
      waits = hs;
      few = n;
    }

module _ {from : From} {w j : List ℕ} {base f x : ℤ} {used fuel : ℕ} (s : Begins from w j base f x used fuel) where
  -- what the machine comes to
  abbrev pub outcome : Outcome
  outcome =
      later (steps_before from)
      (machine.run fuel (room (drop s.at w) - used) (frame_room j)
      (record { f = s.f_tree; x = s.x_tree; frames = reverse s.frames }))

  -- so does any call that simulates it
  pub comes : (call : RunCall) → SimulatesFrom from call
      → (v : List ℕ) × (k : List ℕ) × (a : RunAnswer) × (call w base f x used fuel j ≡ ran (take s.at w ++ v) k a)
      × Agrees (drop s.at w) used j v k (run_numbers a) outcome
  comes call simulates =
      let b = s.at in
      let (v, k, a, e, agrees)
      = simulates (take b w) (drop b w) j used s.f_slot s.x_slot fuel s.f_tree s.x_tree s.frames s.slots
      s.f_holds s.x_holds s.waits s.few
      in
      (v, k, a, rw (s.base_is, s.f_is, s.x_is) (rw (length-take-le b w s.inside, take-append-drop b w) at e), agrees)

  -- our own call is the loop from there on, and so with any other fuel that is not too much
  abbrev pub first : State
  first = state_from from (slot s.f_slot) (slot s.x_slot) used

  pub drives : (m : ℕ) → (TooMany from m → ⊥)
      → run_from from w base f x used m j ≡ ran_with (take s.at w) (drive m (steps_before from) (drop s.at w) (jobs_from from j) first)
  drives m few =
      let b = s.at in
      let good = (slots-sound-test (drop b w) used).1 s.slots in
      let e
      = run_behind from (take b w) (drop b w) j (pos s.f_slot) (pos s.x_slot) used m
      ∙ ap (ran_with (take b w))
      (starts from (drop b w) j used s.f_slot s.x_slot m s.f_tree s.x_tree s.frames good s.f_holds s.x_holds
      s.waits few)
      in
      rw (s.base_is, s.f_is, s.x_is) (rw (length-take-le b w s.inside, take-append-drop b w) at e)

  pub stands : Sim (drop s.at w) (jobs_from from j) first
      (record { f = s.f_tree; x = s.x_tree; frames = reverse s.frames })
  stands =
      first_stands (drop s.at w) j used s.f_slot s.x_slot s.f_tree s.x_tree s.frames
      ((slots-sound-test (drop s.at w) used).1 s.slots) s.f_holds s.x_holds from s.waits

-- a run that was let start
module _ (from : From) (w v j k : List ℕ) (base f x : ℤ) (used fuel : ℕ) (a : RunAnswer) (goes : let-start (run_numbers a).number ≡ true) where
  abbrev Begun : Type 0
  Begun =
      (s : Begins from w j base f x used fuel) × Agrees (drop s.at w) used j (drop s.at v) k (run_numbers a) (outcome s)

  -- is no refusal
  not_refused : (n : ℕ) → let-start n ≡ false → ran w j (Err n) ≡ ran v k a → Begun
  not_refused n z e =
      let y : Err n ≡ a = cc in
      absurd (false≢true (sym z ∙ ap (λ (x : RunAnswer). let-start (run_numbers x).number) y ∙ goes))

  judged : (r : Ran) → Judged from w j base f x used fuel r → run_from from w base f x used fuel j ≡ r → r ≡ ran v k a → Begun
  judged r (out o) q e = not_refused 21 refl e
  judged r (misplaced o m) q e = not_refused 23 refl e
  judged r (damaged o m d) q e = not_refused 24 refl e
  judged r (at_last o m d n) q e = not_refused 40 refl e
  judged r (started o m d n u) q e =
      let s = begins from w j base f x used fuel o m d n in
      let (v', k', a', c, h) = comes s (run_from from) (run_simulates from) in
      let y : ran (take s.at w ++ v') k' a' ≡ ran v k a = sym c ∙ q ∙ e in
      let p : take s.at w ++ v' ≡ v = cc in
      let z : v' ≡ drop s.at v
      = sym (drop_at (take s.at w) v' s.at (length-take-le s.at w s.inside)) ∙ ap (drop s.at) p
      in
      let k-is : k' ≡ k = cc in
      let a-is : a' ≡ a = cc in
      (s, rw (← z, ← k-is, ← a-is) h)

  pub begun : run_from from w base f x used fuel j ≡ ran v k a → Begun
  begun e = judged (run_from from w base f x used fuel j) (verdict from w j base f x used fuel) refl e
