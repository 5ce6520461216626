-- One request goes alike and leaves used slots that hold the grown store; a list of them by induction.
use Prim.Native.Nat.{ℕ, ◌+◌, ◌-◌, ◌<◌}
use mathlib.Core.Path.{◌≡◌, refl, sym, ap, ◌∙◌}
use mathlib.Core.Bool.{true, false, false≢true}
use mathlib.Core.Logic.{◌⊎◌, inl, inr, ⊎_elim}
use mathlib.Core.List.{List, [], ◌∷◌, ◌++◌}
use native.Mathlib.Omega.{arith}
use lib.ListN.{length, drop, length-append}
use lib.Seq.{drop-append_seam}
use lib.IntN.{ℤ, pos}
use borrow.Author.Tests.{ltb-true, ltb-false}
use Rattle.calculus.specs.Tree.{Tree}
use Rattle.calculus.specs.Rules.{TreeFrame}
use Rattle.calculus.specs.Machine.{Stop as Reason, out_of_fuel, out_of_slots, out_of_places, stop_number, Outcome}
use Rattle.table.specs.Slots.{room}
use Rattle.table.specs.Holds.{Holds}
use Rattle.table.proofs.Tests.{by_test}
use Rattle.table.proofs.SlotLaws.{room_long}
use Rattle.table.proofs.HoldsLaws.{held_below, from_kept, from_append, untouched_kept}
use Rattle.engine.specs.Run.{Ran, ran}
use Rattle.engine.specs.declared.From.{From}
use Rattle.engine.specs.declared.From.TheVariants.{Scratch, Stop}
use Rattle.engine.specs.Answer.{RunAnswer, RunNumbers, run_numbers}
use Rattle.guarantees.specs.Agrees.{Leaves, Agrees, agrees_done, agrees_stop}
use Rattle.guarantees.specs.Run.{RunCall, Calls, TooMany, SimulatesFrom, RunSimulates, RefusedFrom, RefusedExactly, RefusedWith, started}
use Rattle.guarantees.specs.Run.{OutOfTable, base_past, none_used, above_room, Misplaced, Damaged}
use Rattle.guarantees.specs.Session.{ToRun, Request, to_run, Bring, Lookup, found, Reply, refused, answered}
use Rattle.guarantees.specs.Session.{frames_in, too_many, reply_to, reply, store_after, Table, called, table_after}
use Rattle.guarantees.specs.Session.{Alike, alike_refused, alike_answered, Holding, AllAlike, SessionSimulates}
use Rattle.guarantees.proofs.RunSimulates.{unharmed}
use Rattle.guarantees.proofs.Verdict.{used_placed}
use Rattle.guarantees.proofs.JobsIn.{PlaceSeen, held, unplaced, place_seen, FramesSeen, waits, harmed, frames_seen}

module _ {w j v k : List ℕ} {n : ℕ} where
  -- a run that agrees answers a used count that grows by the nodes made, and leaves the tables so
  pub used_grows : {a : RunNumbers} {o : Outcome} → Agrees w n j v k a o → a.used ≡ n + length o.made
  used_grows (agrees_done h l) = refl
  used_grows (agrees_stop f x s l) = refl

  leaves : {a : RunNumbers} {o : Outcome} → Agrees w n j v k a o
      → (waiting : ℕ) × Leaves w n j v (n + length o.made) k o.made waiting
  leaves (agrees_done h l) = (0, l)
  leaves (agrees_stop {frames = frames} f x s l) = (length frames, l)

  -- the slots left hold the store with the nodes made
  grows : {waiting : ℕ} {store made : List Tree} → Holding w n store
      → Leaves w n j v (n + length made) k made waiting → Holding v (n + length made) (store ++ made)
  grows {store = store} {made = made} good l =
      record {
        slots = l.slots;
        some = let s = good.some in omega arith;
        long = simp length-append (omega (arith, good.long));
        each =
            from_append v (n + length made) 0 n store made (omega (arith, good.long))
            (from_kept (untouched_kept (omega arith) l.untouched) 0 store good.each) l.new;
        zero = l.zero;
      }

-- a run that agrees was let start
stop_starts : (why : Reason) → started (stop_number why) ≡ true
stop_starts out_of_fuel = refl
stop_starts out_of_slots = refl
stop_starts out_of_places = refl

pub agrees_starts : {w j v k : List ℕ} {n : ℕ} {a : RunNumbers} {o : Outcome} → Agrees w n j v k a o → started a.number ≡ true
agrees_starts (agrees_done h l) = refl
agrees_starts (agrees_stop {why = why} f x s l) = stop_starts why

-- the test of the steps
too_many_lem : (from : From) (fuel : ℕ) → too_many from fuel ≡ true → TooMany from fuel
too_many_lem Scratch fuel e = absurd (false≢true e)
too_many_lem (Stop waiting steps) fuel e = ltb-true 4294967295 (steps + fuel) e

not_too_many : (from : From) (fuel : ℕ) → too_many from fuel ≡ false → TooMany from fuel → ⊥
not_too_many Scratch fuel e h = h
not_too_many (Stop waiting steps) fuel e h = omega (arith, ltb-false 4294967295 (steps + fuel) e)

module _ (w : List ℕ) (n : ℕ) (store : List Tree) (good : Holding w n store) where
  -- the used slots are no reason against it
  whole : (before : List ℕ) → Damaged (before ++ w) (pos (length before)) n → ⊥
  whole before (i, l, e) = e (rw (drop-append_seam before w) (good.slots.each i l))

  in_table : (before : List ℕ) → OutOfTable (before ++ w) (pos (length before)) n → ⊥
  in_table before (base_past h) = omega (arith, length-append before w)
  in_table before (none_used h) = omega (arith, good.some)
  in_table before (above_room h) =
      let g : room w < n = rw (drop-append_seam before w) at h in
      omega (arith, good.slots.fits)

  abbrev table : Table
  table = record { words = w; used = n }

  -- both go alike, the slots left hold the grown store, and the room is the same
  record Goes (b : ℕ) (c : Request) (r : Ran) (p : Reply) : Type 0 where
    alike : Alike table c r p
    holding : Holding (table_after b table r).words (table_after b table r).used (store_after store p)
    same_room : room (table_after b table r).words ≡ room w

  module _ (c : ToRun) where
    abbrev b : ℕ
    b = length c.before

    goes_refused : (m : ℕ) → started m ≡ false → (r : Ran) → RefusedWith m (c.before ++ w) c.jobs r
        → Goes b (to_run c) r (refused m)
    goes_refused m z (ran v k a) (e, p, q) =
        let d : drop b v ≡ w = ap (drop b) p ∙ drop-append_seam c.before w in
        record {
          alike = rw (p, q) (alike_refused {a = a} {n = m} e z);
          holding = rw (d, e, z) good;
          same_room = ap room d;
        }

    goes_answered : (v k : List ℕ) (a : RunAnswer) (o : Outcome) → Agrees w n c.jobs v k (run_numbers a) o
        → Goes b (to_run c) (ran (c.before ++ v) k a) (answered o)
    goes_answered v k a o h =
        let l = (leaves h).1 in
        let d = drop-append_seam c.before v in
        let m : (table_after b table (ran (c.before ++ v) k a)).used ≡ n + length o.made
        = rw (agrees_starts h) (used_grows h)
        in
        record {
          alike = alike_answered {w = v} {j = k} {a = a} {o = o} h;
          holding = rw (d, m) (grows good l);
          same_room = ap room d ∙ room_long w v l.untouched.long;
        }

    module _ (call : RunCall) (refuses : RefusedFrom c.from call) (simulates : SimulatesFrom c.from call) where
      abbrev left : ℤ → ℤ → Ran
      left z y = call (c.before ++ w) (pos b) z y n c.fuel c.jobs

      goes_misplaced : (z y : ℤ) → Misplaced n z ⊎ Misplaced n y → Goes b (to_run c) (left z y) (refused 23)
      goes_misplaced z y m =
          let x = refuses (c.before ++ w) c.jobs (pos b) z y n c.fuel in
          goes_refused 23 refl (left z y) (x.1.1 (in_table c.before, m))

      -- f and x are places of the store
      module _ {i m : ℕ} {ft xt : Tree} (hf : Holds w n i ft) (hx : Holds w n m xt) where
        well : Misplaced n (pos i) ⊎ Misplaced n (pos m) → ⊥
        well = ⊎_elim (used_placed refl (held_below hf)) (used_placed refl (held_below hx))

        goes_placed : (p : Lookup (List TreeFrame)) → FramesSeen w n store good c.from c.jobs p
            → Goes b (to_run c) (left (pos i) (pos m)) (reply_to c (room w - length store) (found ft) (found xt) p)
        goes_placed p (harmed h) =
            let x = refuses (c.before ++ w) c.jobs (pos b) (pos i) (pos m) n c.fuel in
            goes_refused 24 refl (left (pos i) (pos m)) (x.2.1 (in_table c.before, well, inr h))
        goes_placed p (waits {fs = fs} h) =
            let x = refuses (c.before ++ w) c.jobs (pos b) (pos i) (pos m) n c.fuel in
            let fine = ⊎_elim (whole c.before) (unharmed c.from w c.jobs n fs h) in
            by_test (Goes b (to_run c) (left (pos i) (pos m))) (too_many c.from c.fuel)
            (λ t. goes_refused 40 refl (left (pos i) (pos m))
            (x.3.1 (in_table c.before, well, fine, too_many_lem c.from c.fuel t)))
            (λ t.
            let s
            = simulates c.before w c.jobs n i m c.fuel ft xt fs good.slots hf hx h
            (not_too_many c.from c.fuel t)
            in
            rw (good.long, s.3) (goes_answered s.0 s.1 s.2 _ s.4))

      -- whatever f and x are
      goes_at : {z y : ℤ} {p q : Lookup Tree} → PlaceSeen w n store good z p → PlaceSeen w n store good y q
          → (r : Lookup (List TreeFrame)) → FramesSeen w n store good c.from c.jobs r
          → Goes b (to_run c) (left z y) (reply_to c (room w - length store) p q r)
      goes_at (held hf) (held hx) r h = goes_placed hf hx r h
      goes_at {z} {y} (held hf) (unplaced m) r h = goes_misplaced z y (inr m)
      goes_at {z} {y} (unplaced m) s r h = goes_misplaced z y (inl m)

      goes : Goes b (to_run c) (left c.f c.x) (reply (room w) store (to_run c))
      goes =
          goes_at (place_seen w n store good c.f) (place_seen w n store good c.x) (frames_in store c.from c.jobs)
          (frames_seen w n store good c.from c.jobs)

module _ (call : Calls) (refuses : RefusedExactly call) (simulates : RunSimulates call) (b : ℕ) where
  all_alike : (cs : List Request) (w : List ℕ) (n most : ℕ) (store : List Tree)
      → Holding w n store → most ≡ room w → Bring b cs
      → AllAlike call b most (record { words = w; used = n }) store cs
  all_alike [] w n most store good e bring = (good, sym e)
  all_alike (to_run c ∷ cs) w n most store good e bring =
      let long : length c.before ≡ b = bring.0 in
      let g = rw long at (goes w n store good c (call c.from) (refuses c.from) (simulates c.from)) in
      let t : Table = record { words = w; used = n } in
      let t' = table_after b t (called call b t (to_run c)) in
      rw e (
        g.alike,
        all_alike cs t'.words t'.used most (store_after store (reply (room w) store (to_run c))) g.holding
            (e ∙ sym g.same_room) bring.1,
      )

pub session_simulates : SessionSimulates
session_simulates call refuses simulates w used store good b requests =
    all_alike call refuses simulates b requests w used (room w) store good refl
