-- A run on the two tables is the reference machine's: a step by the rule that applies, a run by its fuel.
use Prim.Native.Nat.{ℕ, zero, suc, ◌+◌, ◌-◌, ◌≤◌, ◌<◌}
use mathlib.Core.Path.{◌≡◌, refl, sym, ap, subst}
use mathlib.Core.List.{List, [], ◌∷◌, ◌++◌, reverse, reverse-cons}
use native.Mathlib.Omega.{arith}
use native.Mathlib.Nat.{le_refl, add-zero}
use native.Mathlib.Numerals.{add-one}
use native.Mathlib.Decide.{dec_lt}
use borrow.Author.Tests.{lt-ltb, le-ltb}
use lib.ListN.{length, length-append, length-reverse}
use Rattle.std.specs.Prelude.{Ok}
use Rattle.calculus.specs.Tree.{Tree, leaf, stem, fork}
use Rattle.calculus.specs.Rules.{TreeFrame, operand, argument, function, TreeAction as Asked, make, give, go, push}
use Rattle.calculus.specs.Rules as trees
use Rattle.calculus.specs.Machine.{Stop, out_of_fuel, out_of_slots, out_of_places, stop_number, ended, stopped, Outcome}
use Rattle.calculus.specs.Machine as machine
use Rattle.table.specs.declared.slots.Slot.{Slot}
use Rattle.table.specs.declared.slots.Node.{Node}
use Rattle.table.specs.declared.slots.Node.TheVariants.{Leaf, Stem, Fork}
use Rattle.frames.specs.declared.Frame.{Frame as Job}
use Rattle.frames.specs.declared.Frame.TheVariants.{Operand, Argument, Function}
use Rattle.table.specs.Slots.{slot, room, first_word, put_node, Below}
use Rattle.table.specs.Sound.{SlotsPass}
use Rattle.frames.specs.Frames.{frame_room, Record, record_of, job_words_at, put_frame, drop_frame}
use Rattle.table.specs.Holds.{Holds, HoldsFrom, Kept, Untouched}
use Rattle.frames.specs.Stand.{StandFrom, ZeroFrom}
use Rattle.frames.specs.Stand.{Stands, stands_operand, stands_argument, stands_function}
use Rattle.table.proofs.SlotLaws.{room_long}
use Rattle.table.proofs.SoundLaws.{slots_sound, sound_next}
use Rattle.frames.proofs.FrameLaws.{frame_room_long, frame_is, length_put_frame, record_here, record_other, zero_over}
use Rattle.frames.proofs.FrameLaws.{length_drop, record_dropped, zero_drop, stands_kept}
use Rattle.table.proofs.HoldsLaws.{held_below, leaf_view, stem_view, fork_view, put_stem, put_fork}
use Rattle.table.proofs.HoldsLaws.{zero_leaf, from_kept, from_append, untouched_refl, untouched_put, untouched_trans}
use Rattle.table.proofs.HoldsLaws.{untouched_kept}
use Rattle.stepping.specs.declared.State.{State}
use Rattle.stepping.specs.declared.Turn.TheVariants.{Going, Done as IsDone, Stopped as IsStopped}
use Rattle.stepping.specs.declared.stops.Stop.TheVariants.{OutOfSlots, OutOfPlaces}
use Rattle.stepping.specs.Rules.{SlotAction, Make, Give, Go, Push, slot_rule, on_function, on_fork, on_argument}
use Rattle.stepping.specs.Step.{Stepped, at, beside, meet_frame, meet, carry, step}
use Rattle.engine.specs.Run.{Ran, ran, resume, drive}
use Rattle.engine.specs.Run as engine
use Rattle.engine.specs.Answer.{RunNumbers, run_numbers}
use Rattle.guarantees.specs.Agrees.{Leaves, done_with, stopped_with, Agrees, agrees_done, agrees_stop}
use Rattle.guarantees.specs.Run.{later}

-- ---- the waiting frames

-- the places below k stand for these frames, newest first
abbrev pub FramesHold : List ℕ → ℕ → List ℕ → ℕ → List TreeFrame → Type 0
FramesHold w n j zero [] = Unit {0}
FramesHold w n j zero (f ∷ fs) = ⊥
FramesHold w n j (suc k) [] = ⊥
FramesHold w n j (suc k) (f ∷ fs) = Stands w n (job_words_at j k) f × FramesHold w n j k fs

module _ (w : List ℕ) (n : ℕ) (j : List ℕ) where
  pub frames_count : (k : ℕ) (fs : List TreeFrame) → FramesHold w n j k fs → length fs ≡ k
  frames_count zero [] h = refl
  frames_count zero (f ∷ fs) h = absurd h
  frames_count (suc k) [] h = absurd h
  frames_count (suc k) (f ∷ fs) h = ap suc (frames_count k fs h.1)

  -- they stay where the trees are kept
  frames_kept : {v : List ℕ} {m : ℕ} → Kept w n v m →
      (k : ℕ) (fs : List TreeFrame) → FramesHold w n j k fs → FramesHold v m j k fs
  frames_kept kept zero [] h = tt
  frames_kept kept zero (f ∷ fs) h = absurd h
  frames_kept kept (suc k) [] h = absurd h
  frames_kept kept (suc k) (f ∷ fs) h = (stands_kept kept (job_words_at j k) f h.0, frames_kept kept k fs h.1)

  -- they stay where the places below k keep their words
  frames_same : (i : List ℕ) (k : ℕ) (fs : List TreeFrame) → ((l : ℕ) → l < k → job_words_at i l ≡ job_words_at j l) →
      FramesHold w n j k fs → FramesHold w n i k fs
  frames_same i zero [] e h = tt
  frames_same i zero (f ∷ fs) e h = absurd h
  frames_same i (suc k) [] e h = absurd h
  frames_same i (suc k) (f ∷ fs) e h = (
    subst (λ (u : Record). Stands w n u f) (sym (e k (le_refl _))) h.0,
    frames_same i k fs (λ l b. e l (omega arith)) h.1,
  )

  stand_snoc : (k : ℕ) (fs : List TreeFrame) (f : TreeFrame) → StandFrom w n j k fs → Stands w n (job_words_at j (k + length fs)) f →
      StandFrom w n j k (fs ++ (f ∷ []))
  stand_snoc k [] f h g = let e : k + 0 ≡ k = omega arith in (rw e at g, tt)
  stand_snoc k (a ∷ fs) f h g =
      let e : k + suc (length fs) ≡ suc k + length fs = omega arith in
      (h.0, stand_snoc (suc k) fs f h.1 (rw e at g))

  -- the same frames, oldest first
  pub frames_turned : (k : ℕ) (fs : List TreeFrame) → FramesHold w n j k fs → StandFrom w n j 0 (reverse fs)
  frames_turned zero [] h = tt
  frames_turned zero (f ∷ fs) h = absurd h
  frames_turned (suc k) [] h = absurd h
  frames_turned (suc k) (f ∷ fs) h =
      let e : 0 + length (reverse fs) ≡ k = omega (arith, length-reverse fs, frames_count k fs h.1) in
      rw (reverse-cons f fs) (stand_snoc 0 (reverse fs) f (frames_turned k fs h.1) (rw e h.0))

  stand_unsnoc : (k : ℕ) (fs : List TreeFrame) (f : TreeFrame) → StandFrom w n j k (fs ++ (f ∷ [])) →
      StandFrom w n j k fs × Stands w n (job_words_at j (k + length fs)) f
  stand_unsnoc k [] f h = let e : k + 0 ≡ k = omega arith in (tt, rw e h.0)
  stand_unsnoc k (a ∷ fs) f h =
      let e : k + suc (length fs) ≡ suc k + length fs = omega arith in
      let (hs, g) = stand_unsnoc (suc k) fs f h.1 in
      ((h.0, hs), rw e g)

  -- and back: frames that stand oldest first, newest first
  pub frames_back : (fs : List TreeFrame) → StandFrom w n j 0 (reverse fs) → FramesHold w n j (length fs) fs
  frames_back [] h = tt
  frames_back (f ∷ fs) h =
      let (hs, g) = stand_unsnoc 0 (reverse fs) f (rw (reverse-cons f fs) at h) in
      let e : 0 + length (reverse fs) ≡ length fs = omega (arith, length-reverse fs) in
      (rw e at g, frames_back fs hs)

-- ---- what stands for what

-- the tables and the state stand for a state of the machine
pub record Sim (w j : List ℕ) (s : State) (p : machine.MachineState) : Type 0 where
  pub slots : SlotsPass w s.used
  pub f : Holds w s.used s.f.0 p.f
  pub x : Holds w s.used s.x.0 p.x
  pub frames : FramesHold w s.used j s.waiting p.frames
  pub fits : s.waiting ≤ frame_room j
  pub above : ZeroFrom j s.waiting

-- v is w, of which n slots were used, with these nodes in the slots from n up to m
pub record Grown (w : List ℕ) (n : ℕ) (v : List ℕ) (m : ℕ) (made : List Tree) : Type 0 where
  count : m ≡ n + length made
  new : HoldsFrom v m n made
  untouched : Untouched w n v m

grown_none : (w : List ℕ) (n : ℕ) → Grown w n w n []
grown_none w n = record { count = omega arith; new = tt; untouched = untouched_refl w n }

grown_one : (w : List ℕ) (n : ℕ) (node : Node) (t : Tree) → Holds (put_node w n node) (n + 1) n t →
    Grown w n (put_node w n node) (n + 1) (t ∷ [])
grown_one w n node t h =
    record { count = omega arith; new = (h, tt); untouched = untouched_put w n node }

-- a table that has grown, sound, with no frame written or dropped
leaves_here : {w v : List ℕ} {n m : ℕ} {made : List Tree} (j : List ℕ) {waiting : ℕ} → Grown w n v m made → SlotsPass v m →
    0 < m → waiting ≤ frame_room j → ZeroFrom j waiting → Leaves w n j v m j made waiting
leaves_here {v = v} {m = m} j grown good some places above =
    let slots = (slots_sound v m).0 good in
    record {
      new = grown.new;
      untouched = grown.untouched;
      slots = slots;
      zero = zero_leaf v m slots some;
      long = omega arith;
      places = places;
      above = λ i h. above i (omega arith);
    }

-- ---- a rule

-- what slots ask for stands for what trees ask for
data Asks (w : List ℕ) (n : ℕ) : SlotAction → Asked → Type 0 where
  asks_make : {node : Node} {t : Tree} → Below n node → (node ≡ Leaf → ⊥)
      → (n < room w → Holds (put_node w n node) (n + 1) n t)
      → Asks w n (Make node) (make t)
  asks_give : {i : ℕ} {t : Tree} → Holds w n i t → Asks w n (Give (slot i)) (give t)
  asks_go : {i k : ℕ} {f x : Tree} → Holds w n i f → Holds w n k x → Asks w n (Go (slot i) (slot k)) (go f x)
  asks_push : {i k : ℕ} {f x : Tree} {job : Job} {j : TreeFrame} → Holds w n i f → Holds w n k x
      → Stands w n (record_of job) j → Asks w n (Push (slot i) (slot k) job) (push f x j)

module _ (w : List ℕ) (n : ℕ) where
  asks : (f x : Tree) (i k : ℕ) → Holds w n i f → Holds w n k x → Asks w n (slot_rule w (slot i) (slot k)) (trees.tree_rule f x)
  unfolding slot_rule on_function on_fork on_argument trees.tree_rule
  asks leaf x i k hf hx =
      rw (leaf_view hf)
      (asks_make {node = Stem (slot k)} (held_below hx)
      (λ e. omega (arith, ap first_word e)) (λ l. put_stem w n k x l hx))
  asks (stem a) x i k hf hx =
      let v = stem_view hf in
      rw v.1
      (asks_make {node = Fork (slot v.0) (slot k)} (held_below v.2, held_below hx)
      (λ e. omega (arith, ap first_word e)) (λ l. put_fork w n v.0 k a x l v.2 hx))
  asks (fork leaf a) x i k hf hx =
      let v = fork_view hf in
      rw (v.2, leaf_view v.3) (asks_give v.4)
  asks (fork (stem a) b) x i k hf hx =
      let v = fork_view hf in
      let u = stem_view v.3 in
      rw (v.2, u.1) (asks_push u.2 hx (stands_operand refl v.4 hx))
  asks (fork (fork a b) c) leaf i k hf hx =
      let v = fork_view hf in
      let u = fork_view v.3 in
      rw (v.2, u.2, leaf_view hx) (asks_give u.3)
  asks (fork (fork a b) c) (stem y) i k hf hx =
      let v = fork_view hf in
      let u = fork_view v.3 in
      let z = stem_view hx in
      rw (v.2, u.2, z.1) (asks_go u.4 z.2)
  asks (fork (fork a b) c) (fork y y') i k hf hx =
      let v = fork_view hf in
      let u = fork_view v.3 in
      let z = fork_view hx in
      rw (v.2, u.2, z.2) (asks_push v.4 z.3 (stands_argument refl z.4))

-- ---- a step

-- what a step from s leaves stands for what the machine's step leaves
pub data Turns (w j : List ℕ) (s : State) : Stepped → machine.MachineTurn → Type 0 where
  turns_going : {v k : List ℕ} {next : State} {made : List Tree} {p : machine.MachineState}
      → Grown w s.used v next.used made → length k ≡ length j → Sim v k next p
      → Turns w j s (at v k (Going next)) (machine.going made p)
  turns_done : {v k : List ℕ} {a : Slot} {used : ℕ} {made : List Tree} {t : Tree}
      → used ≡ s.used + length made → Leaves w s.used j v used k made 0 → Holds v used a.0 t
      → Turns w j s (at v k (IsDone a used)) (machine.done made t)
  turns_no_slot : Turns w j s (at w j (IsStopped OutOfSlots)) (machine.stop out_of_slots)
  turns_no_place : Turns w j s (at w j (IsStopped OutOfPlaces)) (machine.stop out_of_places)

-- a frame at place k, the last, is written or goes, and slot f is to be applied to slot x
module _ {w : List ℕ} {n f x : ℕ} {ft xt : Tree} (good : SlotsPass w n) (hf : Holds w n f ft) (hx : Holds w n x xt)
    (j : List ℕ) (k : ℕ) (fs : List TreeFrame) (h : FramesHold w n j k fs) (l : k < frame_room j)
    (z : ZeroFrom j (suc k)) where
  written : (job : Job) (a : TreeFrame) → Stands w n (record_of job) a →
      Sim w (put_frame j k job) (record { f = slot f; x = slot x; used = n; waiting = suc k })
      (record { f = ft; x = xt; frames = a ∷ fs })
  written job a stands =
      record {
        slots = good;
        f = hf;
        x = hx;
        frames = (
          rw (record_here j k job l) stands,
          frames_same w n j (put_frame j k job) k fs (λ i b. record_other j k job i (omega arith)) h,
        );
        fits = omega (arith, frame_room_long j (put_frame j k job) (length_put_frame j k job));
        above = zero_over j k job z;
      }

  dropped : Sim w (drop_frame j k) (record { f = slot f; x = slot x; used = n; waiting = k })
      (record { f = ft; x = xt; frames = fs })
  dropped =
      record {
        slots = good;
        f = hf;
        x = hx;
        frames = frames_same w n j (drop_frame j k) k fs (λ i b. record_dropped j k i (omega arith)) h;
        fits = omega (arith, frame_room_long j (drop_frame j k) (length_drop j k));
        above = zero_drop j k l z;
      }

-- the tree of slot i, in a table that has grown, meets the newest frame
module _ (w j : List ℕ) (s : State) (v : List ℕ) (m : ℕ) (made : List Tree) (grown : Grown w s.used v m made)
    (good : SlotsPass v m) (i : ℕ) (t : Tree) (held : Holds v m i t) where
  meets : (k : ℕ) (fs : List TreeFrame) → FramesHold v m j k fs → k ≤ frame_room j → ZeroFrom j k →
      Turns w j s (beside v (meet j (slot i) m k)) (machine.machine_meet made t fs)
  unfolding meet meet_frame machine.machine_meet
  meets zero [] h l z =
      turns_done grown.count (leaves_here j grown good (omega (arith, held_below held)) l z) held
  meets zero (f ∷ fs) h l z = absurd h
  meets (suc k) [] h l z = absurd h
  meets (suc k) (operand b x ∷ fs) (stands_operand {a = a} {b = c} e ha hc, hs) l z =
      rw (frame_is j k (Operand (slot a) (slot c)) e)
      (turns_going grown (length_put_frame j k (Function (slot i)))
      (written good ha hc j k fs hs l z (Function (slot i)) (function t) (stands_function refl held)))
  meets (suc k) (argument y ∷ fs) (stands_argument {a = a} e ha, hs) l z =
      rw (frame_is j k (Argument (slot a)) e) (turns_going grown (length_drop j k) (dropped good held ha j k fs hs l z))
  meets (suc k) (function y ∷ fs) (stands_function {a = a} e ha, hs) l z =
      rw (frame_is j k (Function (slot a)) e) (turns_going grown (length_drop j k) (dropped good ha held j k fs hs l z))

module _ (w j : List ℕ) (s : State) (p : machine.MachineState) (sim : Sim w j s p) where
  carries : (a : SlotAction) (b : Asked) → Asks w s.used a b →
      Turns w j s (carry w j s a) (machine.machine_carry (room w - s.used) (frame_room j) p.frames b)
  unfolding carry machine.machine_carry
  carries a b (asks_make {node = node} {t = t} below inner put) =
      let n = s.used in
      elim (dec_lt n (room w)) [
        | no g ↦
            rw (le-ltb n (room w) (omega (arith, g)), le-ltb 0 (room w - n) (omega (arith, g))) turns_no_slot
        | yes g ↦
            let v = put_node w n node in
            let grown = grown_one w n node t (put g) in
            let good = sound_next w n node sim.slots g below inner in
            rw (lt-ltb n (room w) g, lt-ltb 0 (room w - n) (omega arith))
            (meets w j s v (n + 1) (t ∷ []) grown good n t (put g) s.waiting p.frames
            (frames_kept w n j (untouched_kept (omega (arith, grown.count)) grown.untouched) s.waiting p.frames sim.frames) sim.fits sim.above)
      ]
  carries a b (asks_give {i = i} {t = t} h) =
      meets w j s w s.used [] (grown_none w s.used) sim.slots i t h
      s.waiting p.frames sim.frames sim.fits sim.above
  carries a b (asks_go hf hx) =
      turns_going (grown_none w s.used) refl
      (record {
        slots = sim.slots;
        f = hf;
        x = hx;
        frames = sim.frames;
        fits = sim.fits;
        above = sim.above;
      })
  carries a b (asks_push {job = job} {j = frame} hf hx stands) =
      let k = s.waiting in
      let c = frames_count w s.used j k p.frames sim.frames in
      elim (dec_lt k (frame_room j)) [
        | no g ↦
            rw (
              le-ltb k (frame_room j) (omega (arith, g)),
              le-ltb (length p.frames) (frame_room j) (omega (arith, g)),
            ) turns_no_place
        | yes g ↦
            rw (lt-ltb k (frame_room j) g, lt-ltb (length p.frames) (frame_room j) (omega arith), add-one)
            (turns_going (grown_none w s.used) (length_put_frame j k job)
            (written sim.slots hf hx j k p.frames sim.frames g (λ i h. sim.above i (omega arith))
            job frame stands))
      ]

  -- a step
  pub steps : Turns w j s (step w j s) (machine.machine_step (room w - s.used) (frame_room j) p)
  unfolding step machine.machine_step
  steps =
      carries (slot_rule w s.f s.x) (trees.tree_rule p.f p.x)
      (asks w s.used p.f p.x s.f.0 s.x.0 sim.f sim.x)

-- ---- a run

-- what a run leaves and answers agrees with an outcome
abbrev pub Comes : List ℕ → ℕ → List ℕ → Ran → Outcome → Type 0
Comes w n j (ran v k a) o = Agrees w n j v k (run_numbers a) o

-- the two ways to agree, for a used count and a number of frames that are known to be the right ones
module _ {w j v k : List ℕ} {n m steps : ℕ} {made : List Tree} (e : m ≡ n + length made) where
  done_agrees : {slot : ℕ} {t : Tree} → Holds v m slot t → Leaves w n j v m k made 0 →
      Agrees w n j v k (done_with slot steps m) (record { ending = ended t; steps = steps; made = made })
  done_agrees h l = rw e (agrees_done (rw e at h) (rw e at l))

  stop_agrees : {f x waiting : ℕ} {why : Stop} {ft xt : Tree} {frames : List TreeFrame} → waiting ≡ length frames →
      Holds v m f ft → Holds v m x xt → StandFrom v m k 0 frames → Leaves w n j v m k made waiting →
      Agrees w n j v k (stopped_with (stop_number why) f x steps m waiting)
      (record { ending = stopped why ft xt frames; steps = steps; made = made })
  stop_agrees d hf hx stand l = rw (e, d) (agrees_stop (rw e at hf) (rw e at hx) (rw e at stand) (rw (e, d) at l))

-- a run that stops here, with the number of the machine's stop
stops_here : (w j : List ℕ) (s : State) (p : machine.MachineState) → Sim w j s p → (n : ℕ) (why : Stop) → n ≡ stop_number why → (k : ℕ) →
    Comes w s.used j (ran w j (Ok (engine.stopped n s k))) (later k (machine.halted why p))
stops_here w j s p sim n why e k =
    let d : s.waiting ≡ length (reverse p.frames)
    = omega (arith, length-reverse p.frames, frames_count w s.used j s.waiting p.frames sim.frames)
    in
    rw (add-zero k, e)
    (stop_agrees (omega arith) d sim.f sim.x (frames_turned w s.used j s.waiting p.frames sim.frames)
    (leaves_here j (grown_none w s.used) sim.slots (omega (arith, held_below sim.f)) sim.fits sim.above))

-- a step that has made these nodes, and what the run after it leaves and comes to
module _ (w j v k : List ℕ) (n m : ℕ) (made : List Tree) (grown : Grown w n v m made) (long : length k ≡ length j) where
  leaves_on : (u i : List ℕ) (q waiting : ℕ) (more : List Tree) → m ≤ q → Leaves v m k u q i more waiting →
      Leaves w n j u q i (made ++ more) waiting
  leaves_on u i q waiting more h l =
      record {
        new = from_append u q n m made more (sym grown.count) (from_kept (untouched_kept h l.untouched) n made grown.new) l.new;
        untouched = untouched_trans (omega (arith, grown.count)) h grown.untouched l.untouched;
        slots = l.slots;
        zero = l.zero;
        long = omega (arith, l.long, long);
        places = l.places;
        above = l.above;
      }

  agrees_on : (u i : List ℕ) (a : RunNumbers) (o : Outcome) → Agrees v m k u i a o →
      Agrees w n j u i a (record { ending = o.ending; steps = o.steps; made = made ++ o.made })
  agrees_on u i a o (agrees_done {made = more} h l) =
      let e : m + length more ≡ n + length (made ++ more) = simp length-append (omega (arith, grown.count)) in
      done_agrees e h (leaves_on u i (m + length more) 0 more (omega arith) l)
  agrees_on u i a o (agrees_stop {frames = frames} {made = more} hf hx stand l) =
      let e : m + length more ≡ n + length (made ++ more) = simp length-append (omega (arith, grown.count)) in
      stop_agrees e refl hf hx stand (leaves_on u i (m + length more) (length frames) more (omega arith) l)

  comes_on : (r : Ran) (o : Outcome) → Comes v m k r o →
      Comes w n j r (record { ending = o.ending; steps = o.steps; made = made ++ o.made })
  comes_on (ran u i a) o h = agrees_on u i (run_numbers a) o h

-- of a frame table only the length counts
pub comes_long : (w j k : List ℕ) (n : ℕ) → length k ≡ length j → (r : Ran) (o : Outcome) →
    Comes w n k r o → Comes w n j r o
comes_long w j k n long r o h = comes_on w j w k n n [] (grown_none w n) long r o h

-- what a run with this much fuel comes to, k steps on, from any state that stands for one of the machine's: waiting
-- frames and all
abbrev pub DriveSimulates : ℕ → Type 0
DriveSimulates fuel =
    (k : ℕ) (w j : List ℕ) (s : State) (p : machine.MachineState) → Sim w j s p →
    Comes w s.used j (drive fuel k w j s) (later k (machine.run fuel (room w - s.used) (frame_room j) p))

module _ (fuel : ℕ) (drives : DriveSimulates fuel) (k : ℕ) (w j : List ℕ) (s : State) (p : machine.MachineState)
    (sim : Sim w j s p) where
  resumes : (c : Stepped) (t : machine.MachineTurn) → Turns w j s c t →
      Comes w s.used j (resume (drive fuel) k s c)
      (later k (machine.proceed (machine.run fuel) (room w - s.used) (frame_room j) p t))
  resumes c t (turns_going {v = v} {k = i} {next = next} {made = made} {p = q} grown long sim') =
      let free : room v - next.used ≡ room w - s.used - length made
      = omega (arith, grown.count, room_long w v grown.untouched.long)
      in
      let o = machine.run fuel (room v - next.used) (frame_room i) q in
      let e : suc k + o.steps ≡ k + suc o.steps = omega arith in
      rw (← free, ← frame_room_long j i long, ← e)
      (comes_on w j v i s.used next.used made grown long (drive fuel (suc k) v i next) (later (suc k) o)
      (drives (suc k) v i next q sim'))
  resumes c t (turns_done e l h) = rw (← add-one k) (done_agrees e h l)
  resumes c t turns_no_slot = stops_here w j s p sim 32 out_of_slots refl k
  resumes c t turns_no_place = stops_here w j s p sim 33 out_of_places refl k

-- a run on the two tables is the machine's
pub drive_simulates : (fuel : ℕ) → DriveSimulates fuel
unfolding drive machine.run
drive_simulates zero k w j s p sim = stops_here w j s p sim 31 out_of_fuel refl k
drive_simulates (suc fuel) k w j s p sim =
    resumes fuel (drive_simulates fuel) k w j s p sim (step w j s)
    (machine.machine_step (room w - s.used) (frame_room j) p) (steps w j s p sim)
