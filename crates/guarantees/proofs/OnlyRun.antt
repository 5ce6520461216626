-- A call that keeps the promises of the run call or of the carry-on call does what it does: what refuses the one refuses the other, and what both let
-- start comes to one outcome of the machine.
use Prim.Native.Nat.{ℕ, ◌+◌, ◌*◌, ◌<◌}
use mathlib.Core.Path.{◌≡◌, refl, sym, ◌∙◌, subst}
use mathlib.Core.List.{List, [], ◌++◌}
use native.Mathlib.Omega.{arith}
use lib.ListN.{length, drop, length-append}
use lib.IntN.{ℤ}
use Rattle.std.specs.Prelude.{Err}
use Rattle.calculus.specs.Tree.{Tree}
use Rattle.calculus.specs.Rules.{TreeFrame}
use Rattle.calculus.specs.Machine.{Outcome}
use Rattle.frames.specs.Stand.{StandFrom}
use Rattle.table.proofs.HoldsLaws.{from_kept, from_append, untouched_refl, untouched_kept}
use Rattle.frames.proofs.SoundFrames.{standing_sound}
use Rattle.engine.specs.Run.{Ran, ran, run_from}
use Rattle.engine.specs.declared.From.{From}
use Rattle.engine.specs.Answer.{RunNumbers}
use Rattle.guarantees.specs.Agrees.{Leaves, Agrees, agrees_done, agrees_stop}
use Rattle.guarantees.specs.Run.{RunCall, SimulatesFrom, RefusedFrom, RefusedWith}
use Rattle.guarantees.specs.OnlyRun.{SameSince, SameTables, SameEnd, same_done, same_stop}
use Rattle.guarantees.specs.OnlyRun.{SameCall, both_refused, both_ended, OnlyRun}
use Rattle.guarantees.proofs.RunSimulates.{run_simulates}
use Rattle.guarantees.proofs.Verdict.{out, misplaced, damaged, at_last, started, Judged, verdict}
use Rattle.guarantees.proofs.Begins.{Begins, begins, comes}

-- ---- both end

-- from one table
pub since_start : (n : ℕ) (w : List ℕ) → SameSince n n w w
since_start n w = record { outside = untouched_refl w n; made = []; count = omega arith; new = tt; new' = tt }

-- from two tables w and w' on the way, with q used slots each
module _ {w w' j v k v' k' : List ℕ} {n q : ℕ} (s : SameSince n q w w') where
  -- two runs that make the same nodes
  pub since_grows : {made : List Tree} {waiting : ℕ} → Leaves w q j v (q + length made) k made waiting
      → Leaves w' q j v' (q + length made) k' made waiting → SameSince n (q + length made) v v'
  since_grows {made} l l' =
      let m = q + length made in
      let a = l.untouched in
      let b = l'.untouched in
      let o = s.outside in
      record {
        outside = record {
          long = b.long ∙ o.long ∙ sym a.long;
          under = λ i h.
              let g : i < 2 * q = omega (arith, s.count) in
              b.under i g ∙ o.under i h ∙ sym (a.under i g);
          over = λ i h. b.over i h ∙ o.over i (omega arith) ∙ sym (a.over i h);
        };
        made = s.made ++ made;
        count = simp length-append (omega (arith, s.count));
        new = from_append v m n q s.made made s.count (from_kept (untouched_kept (omega arith) a) n s.made s.new) l.new;
        new' = from_append v' m n q s.made made s.count (from_kept (untouched_kept (omega arith) b) n s.made s.new') l'.new;
      }

  same_tables : {made : List Tree} (frames : List TreeFrame)
      → StandFrom v (q + length made) k 0 frames → Leaves w q j v (q + length made) k made (length frames)
      → StandFrom v' (q + length made) k' 0 frames → Leaves w' q j v' (q + length made) k' made (length frames)
      → SameTables n (q + length made) v k v' k' frames
  same_tables {made} frames h l h' l' =
      let m = q + length made in
      record {
        slots = since_grows l l';
        long = omega (arith, l.long, l'.long);
        jobs = standing_sound v m k frames l.places h l.above;
        jobs' = standing_sound v' m k' frames l'.places h' l'.above;
        stand = h;
        stand' = h';
      }

  -- two answers that agree with one outcome
  pub same_end : {a a' : RunNumbers} {o : Outcome} → Agrees w q j v k a o → Agrees w' q j v' k' a' o
      → SameEnd n v k v' k' a a'
  same_end (agrees_done h l) (agrees_done h' l') = same_done h h' (same_tables [] tt l tt l')
  same_end (agrees_stop {frames = frames} f x s l) (agrees_stop f' x' s' l') =
      same_stop f f' x x' (same_tables frames s l s' l')

-- ---- a call against ours

module _ (from : From) (call : RunCall) (refuses : RefusedFrom from call) (simulates : SimulatesFrom from call) (w j : List ℕ)
    (base f x : ℤ) (used fuel : ℕ) where
  abbrev other : Ran
  other = call w base f x used fuel j

  -- both are refused
  alike : (n : ℕ) (r : Ran) → RefusedWith n w j r → SameCall w j used base r (ran w j (Err n))
  alike n (ran v k a) (e, p, q) = rw (p, q) (both_refused {a = a} {a' = Err n} e refl)

  -- both are let start
  begun : Begins from w j base f x used fuel → SameCall w j used base other (run_from from w base f x used fuel j)
  begun s =
      let (v, k, a, e, agrees) = comes s call simulates in
      let (v', k', a', e', agrees') = comes s (run_from from) (run_simulates from) in
      rw (e, e') (both_ended {b = s.at} {a = a} {a' = a'} s.base_is
      (same_end (since_start used (drop s.at w)) agrees agrees'))

  judged : (r : Ran) → run_from from w base f x used fuel j ≡ r → Judged from w j base f x used fuel r
      → SameCall w j used base other r
  judged r e (out o) = alike 21 other ((refuses w j base f x used fuel).0.1 o)
  judged r e (misplaced o m) = alike 23 other ((refuses w j base f x used fuel).1.1 (o, m))
  judged r e (damaged o m d) = alike 24 other ((refuses w j base f x used fuel).2.1 (o, m, d))
  judged r e (at_last o m d n) = alike 40 other ((refuses w j base f x used fuel).3.1 (o, m, d, n))
  judged r e (started o m d n h) =
      subst (SameCall w j used base other) e (begun (begins from w j base f x used fuel o m d n))

pub only_run : OnlyRun
only_run from call refuses simulates w j base f x used fuel =
    judged from call refuses simulates w j base f x used fuel (run_from from w base f x used fuel j) refl
    (verdict from w j base f x used fuel)
