-- The plain engine comes to what the run's loop comes to, whatever frames wait.
use Prim.Native.Nat.{ℕ, zero, suc, ◌+◌, ◌-◌, ◌*◌, ◌≤◌, ◌<◌}
use mathlib.Core.Path.{◌≡◌, refl, sym, ◌∙◌}
use mathlib.Core.Bool.{cond}
use mathlib.Core.List.{List}
use native.Mathlib.Omega.{arith}
use native.Mathlib.Numerals.{add-one}
use native.Mathlib.Decide.{dec_lt}
use lib.Dec.{ltb}
use lib.ListN.{length, get_or}
use lib.Seq.{ext_get_or}
use borrow.Author.Tests.{lt-ltb, le-ltb}
use Rattle.table.specs.declared.slots.Slot.{Slot}
use Rattle.table.specs.declared.slots.Node.{Node}
use Rattle.frames.specs.declared.Frame.{Frame}
use Rattle.frames.specs.declared.Frame.TheVariants.{Operand, Argument, Function}
use Rattle.table.specs.Slots.{slot, room, put_node}
use Rattle.table.specs.Sound.{SlotsPass}
use Rattle.frames.specs.Stand.{ZeroFrom}
use Rattle.frames.specs.Frames.{frame_width, frame_room, frame_at, put_frame, drop_frame}
use Rattle.frames.specs.Frames as frames
use Rattle.table.proofs.SoundLaws.{sound_next}
use Rattle.frames.proofs.FrameLaws.{frame_room_long, length_put_frame, frame_here, length_drop}
use Rattle.frames.proofs.FrameLaws.{zero_put, zero_over, zero_drop, frame_under, drop_under}
use Rattle.stepping.specs.declared.State.{State}
use Rattle.stepping.specs.declared.stops.Stop.TheVariants as stop
use Rattle.stepping.specs.declared.Turn.{Turn}
use Rattle.stepping.specs.declared.Turn.TheVariants.{Going, Done as IsDone, Stopped as IsStopped}
use Rattle.engine.specs.declared.Ending.TheVariants as run
use Rattle.stepping.specs.Rules.{Push}
use Rattle.stepping.specs.Step.{Stepped, Met, met, beside, meet_frame, meet, carry, step}
use Rattle.stepping.specs.Ready.{Waits}
use Rattle.engine.specs.Run.{Ran, ran, finished, resume, drive}
use Rattle.stepping.proofs.Keeps.{waits_more, waits_put}
use Rattle.applying.specs.declared.Progress.{Progress}
use Rattle.applying.specs.declared.Task.{Task}
use Rattle.applying.specs.declared.Task.TheVariants.{Make, Give, Go, Both, Then}
use Rattle.applying.specs.Rules.{rule}
use Rattle.applying.specs.Apply.{stopped_at, Came, came, applied_then, spend, grow, make, carry_out, apply}
use Rattle.applying.specs.Fit.{TaskNames}
use Rattle.applying.proofs.RuleLaws.{action, same_rule, rule_names}
use Rattle.applying.proofs.Depth.{apply_none, apply_some}
use Rattle.std.specs.Prelude.{Ok, Err}
use Rattle.plain.specs.declared.PlainEnding.TheVariants.{Done, Stopped}
use Rattle.plain.specs.Run.{Played, played, answered}

-- what a plain run tells of what a run leaves and answers
abbrev pub plain_of : Ran → Played
plain_of (ran w j (Err n)) = played w (Err n)
plain_of (ran w j (Ok (run.Done slot steps used))) = played w (Ok (Done slot steps used))
plain_of (ran w j (Ok (run.Stopped why f x steps used waiting))) = played w (Ok (Stopped why steps used))

-- ---- frames that come and go

-- the table m is j with a frame at place i, and no frame above it
record Topped (j : List ℕ) (i : ℕ) (m : List ℕ) : Type 0 where
  pub long : length m ≡ length j
  pub above : ZeroFrom m (suc i)
  pub under : (k : ℕ) → k < frame_width * i → get_or m k 0 ≡ get_or j k 0

module _ (j : List ℕ) (i : ℕ) where
  topped_put : (k : Frame) → ZeroFrom j i → Topped j i (put_frame j i k)
  topped_put k z =
      record {
        long = length_put_frame j i k;
        above = zero_put j i k z;
        under = frame_under j i k;
      }

  module _ (m : List ℕ) (t : Topped j i m) where
    -- another frame over it
    topped_over : (k : Frame) → Topped j i (put_frame m i k)
    topped_over k =
        record {
          long = length_put_frame m i k ∙ t.long;
          above = zero_over m i k t.above;
          under = λ l b. frame_under m i k l b ∙ t.under l b;
        }

    -- the frame that goes leaves the table as it was before it came
    topped_gone : i < frame_room j → ZeroFrom j i → drop_frame m i ≡ j
    topped_gone h z =
        let h' : i < frame_room m = omega (arith, frame_room_long j m t.long) in
        ext_get_or 0 (drop_frame m i) j (length_drop m i ∙ t.long) (λ k b.
        elim (dec_lt k (frame_width * i)) [
          | yes g ↦ drop_under m i k g ∙ t.under k g
          | no g ↦ zero_drop m i h' t.above k (omega (arith, g)) ∙ sym (z k (omega (arith, g)))
        ])

-- ---- a step that gives or makes a tree

-- slot t met the newest frame, which stops no run, and the run goes on with fuel n, k steps on
abbrev settled_as : ℕ → ℕ → List ℕ → List ℕ → Turn → Ran
settled_as n k w j (Going s) = drive n k w j s
settled_as n k w j (IsDone t used) = ran w j (Ok (finished t k used))
settled_as n k w j (IsStopped why) = ran w j (Err 0)

abbrev settled : ℕ → ℕ → List ℕ → Met → Ran
settled n k w (met j t) = settled_as n k w j t

module _ (n k : ℕ) (w j : List ℕ) (t : Slot) (used : ℕ) (s : State) where
  frame_settles : (i : ℕ) (f : Frame) →
      resume (drive n) k s (beside w (meet_frame j t used i f)) ≡ settled n (suc k) w (meet_frame j t used i f)
  unfolding meet_frame
  frame_settles i (Operand b x) = refl
  frame_settles i (Argument v) = refl
  frame_settles i (Function v) = refl

  settles : (waiting : ℕ) →
      resume (drive n) k s (beside w (meet j t used waiting)) ≡ settled n (suc k) w (meet j t used waiting)
  unfolding meet
  settles zero = refl
  settles (suc i) = frame_settles i (frame_at j i)

-- ---- what an application comes to

abbrev pub state : ℕ → Slot → Slot → Progress → State
state waiting f x p = record { f = f; x = x; used = p.used; waiting = waiting }

-- later on, no slot is lost and no fuel won
pub record Later (p : Progress) (w : List ℕ) (q : Progress) : Type 0 where
  pub slots : SlotsPass w q.used
  pub more : p.used ≤ q.used
  pub less : q.left ≤ p.left

later_on : (p q r : Progress) (w v : List ℕ) → Later p w q → Later q v r → Later p v r
later_on p q r w v l m =
    record { slots = m.slots; more = omega (arith, l.more, m.more); less = omega (arith, l.less, m.less) }

-- a run that began with so much fuel, on frame tables with so many places
module _ (fuel places : ℕ) where
  -- the run goes on with f and x,
  abbrev pub runs : ℕ → List ℕ → List ℕ → Slot → Slot → Progress → Ran
  runs waiting w j f x p = drive p.left (fuel - p.left) w j (state waiting f x p)

  -- or after slot t met the newest frame
  abbrev pub settle : ℕ → List ℕ → List ℕ → Slot → Progress → Ran
  settle waiting w j t p = settled p.left (fuel - p.left) w (meet j t p.used waiting)

  -- what an application works on, while so many frames wait
  pub record Set (waiting : ℕ) (w j : List ℕ) (p : Progress) : Type 0 where
    pub slots : SlotsPass w p.used
    pub waits : Waits j p.used waiting
    pub above : ZeroFrom j waiting
    pub rooms : frame_room j ≡ places
    pub low : p.left ≤ fuel

  -- slot t is given, and the run comes to meet the newest frame with it
  pub record Gives (waiting : ℕ) (j : List ℕ) (p : Progress) (w : List ℕ) (t : Slot) (q : Progress) (r : Ran) : Type 0 where
    pub same : r ≡ settle waiting w j t q
    pub slot : t.0 < q.used
    pub later : Later p w q

  -- what an application comes to, and what the run comes to
  abbrev pub Matches : ℕ → List ℕ → Progress → Came → Ran → Type 0
  Matches waiting j p (came w (Ok (t, q))) r = Gives waiting j p w t q r
  Matches waiting j p (came w (Err h)) r = answered fuel (came w (Err h)) ≡ plain_of r

  abbrev pub Simulates : ℕ → Type 0
  Simulates d =
      (waiting : ℕ) (w j : List ℕ) (f x : Slot) (p : Progress) → Set waiting w j p → f.0 < p.used → x.0 < p.used →
      p.left ≤ d → Matches waiting j p (apply d places waiting w f x p) (runs waiting w j f x p)

  -- later on, the same frames wait
  set_later : (i : ℕ) (w j v : List ℕ) (p q : Progress) → Set i w j p → Later p v q → Set i v j q
  set_later i w j v p q set l =
      record {
        slots = l.slots;
        waits = waits_more j p.used q.used i l.more set.waits;
        above = set.above;
        rooms = set.rooms;
        low = omega (arith, l.less, set.low);
      }

  -- a frame waits at place i, after those below it, or over the newest
  set_put : (n i : ℕ) (w j : List ℕ) (p : Progress) (k : Frame) → Set n w j p → i ≤ n → n ≤ i + 1 → i < places →
      frames.FrameNames p.used k → Set (i + 1) w (put_frame j i k) p
  set_put n i w j p k set l m h names =
      record {
        slots = set.slots;
        waits = waits_put j p.used i k (omega (arith, set.rooms)) (λ a b. set.waits.names a (omega arith)) names;
        above = rw add-one (zero_over j i k (λ a b. set.above a (omega arith)));
        rooms = frame_room_long j (put_frame j i k) (length_put_frame j i k) ∙ set.rooms;
        low = set.low;
      }

  -- what matches later on matches from here
  later_matches : (i : ℕ) (w j : List ℕ) (p q : Progress) (c : Came) (r : Ran) → Later p w q → Matches i j q c r →
      Matches i j p c r
  later_matches i w j p q (came v (Ok (t, s))) r l m =
      record { same = m.same; slot = m.slot; later = later_on p q s w v l m.later }
  later_matches i w j p q (came v (Err h)) r l m = m

  -- a stop is passed on; what is given goes on
  bind : (i i' : ℕ) (j j' : List ℕ) (p p' : Progress) (c : Came) (next : List ℕ → Slot → Progress → Came) (r : Ran) →
      Matches i' j' p' c r → ((w : List ℕ) (t : Slot) (q : Progress) → Gives i' j' p' w t q r → Matches i j p (next w t q) r) →
      Matches i j p (applied_then c next) r
  bind i i' j j' p p' (came w (Ok (t, q))) next r m k = k w t q m
  bind i i' j j' p p' (came w (Err h)) next r m k = m

  -- a frame that stands at place i is met
  module _ (i : ℕ) (j m : List ℕ) (t : Topped j i m) (h : i < frame_room j) (z : ZeroFrom j i) (w : List ℕ) (u : Slot)
      (q : Progress) where
    met_operand : (b x : Slot) → frame_at m i ≡ Operand b x →
        settle (i + 1) w m u q ≡ runs (i + 1) w (put_frame m i (Function u)) b x q
    unfolding meet meet_frame
    met_operand b x e = rw (add-one i, e)

    met_argument : (v : Slot) → frame_at m i ≡ Argument v → settle (i + 1) w m u q ≡ runs i w j u v q
    unfolding meet meet_frame
    met_argument v e = rw (add-one i, e, topped_gone j i m t h z)

    met_function : (v : Slot) → frame_at m i ≡ Function v → settle (i + 1) w m u q ≡ runs i w j v u q
    unfolding meet meet_frame
    met_function v e = rw (add-one i, e, topped_gone j i m t h z)

  -- ---- carrying out a task, where applications of less depth match

  module _ (d : ℕ) (sim : Simulates d) (i : ℕ) (w j : List ℕ) (p : Progress) (set : Set i w j p) where
    -- later, f is applied to x, and the same frames wait
    goes : (v : List ℕ) (q : Progress) (f x : Slot) (r : Ran) → Later p v q → q.left ≤ d → f.0 < q.used → x.0 < q.used →
        r ≡ runs i v j f x q → Matches i j p (apply d places i v f x q) r
    goes v q f x r l b hf hx e =
        later_matches i v j p q (apply d places i v f x q) r l
        (rw e (sim i v j f x q (set_later i w j v p q set l) hf hx b))

    module _ (some : 0 < p.left) (low : p.left ≤ suc d) where
      -- a step on
      spent : Later p w (spend p)
      spent = record { slots = set.slots; more = omega arith; less = omega arith }

      counted : suc (fuel - p.left) ≡ fuel - (p.left - 1)
      counted = omega (arith, set.low)

      set_spent : Set i w j (spend p)
      set_spent = set_later i w j w p (spend p) set spent

      -- a place is left, and a frame waits in it
      module _ (here : i < places) (h : i < frame_room j) (k : Frame) (n : frames.FrameNames p.used k) where
        abbrev j₁ : List ℕ
        j₁ = put_frame j i k

        set₁ : Set (i + 1) w j₁ (spend p)
        set₁ = set_put i i w j (spend p) k set_spent (omega arith) (omega arith) here n

        on₁ : Topped j i j₁
        on₁ = topped_put j i k set.above

        -- f is applied to x, and next follows
        first : (f x : Slot) → f.0 < p.used → x.0 < p.used → (next : List ℕ → Slot → Progress → Came) →
            ((v : List ℕ) (t : Slot) (q : Progress) → Gives (i + 1) j₁ (spend p) v t q (runs (i + 1) w j₁ f x (spend p)) →
            Matches i j p (next v t q) (runs (i + 1) w j₁ f x (spend p))) →
            Matches i j p (applied_then (apply d places (i + 1) w f x (spend p)) next) (runs (i + 1) w j₁ f x (spend p))
        first f x hf hx next then =
            bind i (i + 1) j j₁ p (spend p) (apply d places (i + 1) w f x (spend p)) next (runs (i + 1) w j₁ f x (spend p))
            (sim (i + 1) w j₁ f x (spend p) set₁ hf hx (omega arith)) then

        module _ (v : List ℕ) (u : Slot) (q : Progress) (r : Ran) (g : Gives (i + 1) j₁ (spend p) v u q r) where
          later₁ : Later p v q
          later₁ = later_on p (spend p) q w v spent g.later

          -- "then the result to y"
          argument_goes : (y : Slot) → k ≡ Argument y → y.0 < p.used → Matches i j p (apply d places i v u y q) r
          argument_goes y e hy =
              goes v q u y r later₁ (omega (arith, g.later.less)) g.slot (omega (arith, g.later.more))
              (g.same ∙ met_argument i j j₁ on₁ h set.above v u q y (frame_here j i k h ∙ e))

          -- "then b to x", and then the one result to the other
          module _ (b x : Slot) (e : k ≡ Operand b x) (hb : b.0 < p.used) (hx : x.0 < p.used) where
            abbrev j₂ : List ℕ
            j₂ = put_frame j₁ i (Function u)

            h₁ : i < frame_room j₁
            h₁ = omega (arith, frame_room_long j j₁ (length_put_frame j i k))

            second : r ≡ runs (i + 1) v j₂ b x q
            second = g.same ∙ met_operand i j j₁ on₁ h set.above v u q b x (frame_here j i k h ∙ e)

            set₂ : Set (i + 1) v j₂ q
            set₂ =
                set_put (i + 1) i v j₁ q (Function u) (set_later (i + 1) w j₁ v (spend p) q set₁ g.later) (omega arith) (omega arith) here
                g.slot

            operand-goes :
                Matches i j p (applied_then (apply d places (i + 1) v b x q) (λ v₂ y q₂. apply d places i v₂ u y q₂)) r
            operand-goes =
                bind i (i + 1) j j₂ p q (apply d places (i + 1) v b x q) (λ v₂ y q₂. apply d places i v₂ u y q₂) r
                (rw second
                (sim (i + 1) v j₂ b x q set₂ (omega (arith, g.later.more)) (omega (arith, g.later.more))
                (omega (arith, g.later.less))))
                (λ v₂ y q₂ g₂.
                goes v₂ q₂ u y r (later_on p q q₂ v v₂ later₁ g₂.later) (omega (arith, g.later.less, g₂.later.less))
                (omega (arith, g.slot, g₂.later.more)) g₂.slot
                (g₂.same
                ∙ met_function i j j₂ (topped_over j i j₁ on₁ (Function u)) h set.above v₂ y q₂ u
                (frame_here j₁ i (Function u) h₁)))

      module _ (f x : Slot) where
        abbrev s : State
        s = state i f x p

        -- the run takes a step, and goes on
        abbrev turn : Stepped → Ran
        turn = resume (drive (p.left - 1)) (fuel - p.left) s

        given : (v : List ℕ) (t : Slot) (q : Progress) → q.left ≡ p.left - 1 → t.0 < q.used → Later p v q →
            Gives i j p v t q (turn (beside v (meet j t q.used i)))
        given v t q e ht l =
            record {
              same = rw e (settles (p.left - 1) (fuel - p.left) v j t q.used s i ∙ (rw counted));
              slot = ht;
              later = l;
            }

        makes : (n : Node) → TaskNames p.used (Make n) → Matches i j p (make w p n) (turn (carry w j s (action (Make n))))
        unfolding make carry
        makes n h =
            elim (dec_lt p.used (room w)) [
              | yes g ↦
                  rw (lt-ltb p.used (room w) g)
                  (given (put_node w p.used n) (slot p.used) (grow (spend p)) refl (omega arith)
                  (record {
                    slots = sound_next w p.used n set.slots g h.0 h.1;
                    more = omega arith;
                    less = omega arith;
                  }))
              | no g ↦ rw (le-ltb p.used (room w) (omega (arith, g)))
            ]

        -- a frame waits, or there is no place left for it
        waits : (k : Frame) (g y : Slot) (c : Came) →
            (i < places → i < frame_room j → Matches i j p c (runs (i + 1) w (put_frame j i k) g y (spend p))) →
            Matches i j p (cond (ltb i places) c (came w (stopped_at stop.OutOfPlaces p))) (turn (carry w j s (Push g y k)))
        unfolding carry
        waits k g y c m =
            elim (dec_lt i places) [
              | yes l ↦ rw (set.rooms, lt-ltb i places l, counted) (m l (omega (arith, set.rooms)))
              | no l ↦ let e : places ≤ i = omega (arith, l) in rw (set.rooms, le-ltb i places e)
            ]

        carries : (task : Task) → TaskNames p.used task →
            Matches i j p (carry_out (apply d places) places i w p task) (turn (carry w j s (action task)))
        unfolding carry_out carry
        carries (Make n) h = makes n h
        carries (Give t) h = given w t (spend p) refl h spent
        carries (Go g y) h = goes w (spend p) g y _ spent (omega arith) h.0 h.1 (rw counted)
        carries (Both a b y) h =
            waits (Operand b y) a y _
            (λ here l.
            first here l (Operand b y) (h.1, h.2) a y h.0 h.2 _
            (λ v u q g. operand-goes here l (Operand b y) (h.1, h.2) v u q _ g b y refl h.1 h.2))
        carries (Then c u v) h =
            waits (Argument v) c u _
            (λ here l.
            first here l (Argument v) h.2 c u h.0 h.1 _
            (λ v₁ t q g. argument_goes here l (Argument v) h.2 v₁ t q _ g v refl h.2))

  -- ---- an application

  -- with fuel, the run takes a step
  drive_some : (n k : ℕ) (w j : List ℕ) (s : State) → 0 < n → drive n k w j s ≡ resume (drive (n - 1)) k s (step w j s)
  unfolding drive
  drive_some zero k w j s h = absurd (omega arith)
  drive_some (suc n) k w j s h = let e : suc n - 1 ≡ n = omega arith in rw e

  none_matches : (d waiting : ℕ) (w j : List ℕ) (f x : Slot) (p : Progress) → p.left ≡ 0 →
      Matches waiting j p (apply d places waiting w f x p) (runs waiting w j f x p)
  unfolding drive
  none_matches d waiting w j f x p e = rw (apply_none d places waiting w f x p e, e)

  some_matches : (d : ℕ) → Simulates d → (waiting : ℕ) (w j : List ℕ) (f x : Slot) (p : Progress) → Set waiting w j p →
      f.0 < p.used → x.0 < p.used → p.left ≤ suc d → 0 < p.left →
      Matches waiting j p (apply (suc d) places waiting w f x p) (runs waiting w j f x p)
  unfolding step
  some_matches d sim i w j f x p set hf hx l h =
      rw (apply_some d places i w f x p (omega arith), drive_some p.left (fuel - p.left) w j (state i f x p) h, ← same_rule w f x)
      (carries d sim i w j p set h l f x (rule w f x) (rule_names w f x p.used set.slots hf hx))

  -- An application comes to what the run comes to, up to where its result meets the newest frame.
  pub simulates : (d : ℕ) → Simulates d
  simulates zero i w j f x p set hf hx l = none_matches zero i w j f x p (omega arith)
  simulates (suc d) i w j f x p set hf hx l =
      elim (dec_lt 0 p.left) [
        | yes h ↦ some_matches d (simulates d) i w j f x p set hf hx l h
        | no h ↦ none_matches (suc d) i w j f x p (omega (arith, h))
      ]
