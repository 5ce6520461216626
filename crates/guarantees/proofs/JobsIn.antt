-- The jobs that are read out of the store are those that stand in the frame table; where none are read, they are not sound.
use Prim.Native.Nat.{ℕ, zero, suc, ◌+◌, ◌*◌, ◌≤◌, ◌<◌}
use mathlib.Core.Path.{◌≡◌, refl, sym, ap, ◌∙◌}
use mathlib.Core.Bool.{true, false, false≢true, ◌&&◌}
use mathlib.Core.Logic.{inl, inr}
use mathlib.Core.List.{List, [], ◌∷◌}
use native.Mathlib.Omega.{arith}
use native.Mathlib.Decide.{dec_lt}
use lib.ListN.{length}
use lib.Dec.{eqb, leb}
use lib.IntN.{ℤ, pos, negsuc}
use borrow.Author.Tests.{lt-ltb, le-ltb, eq-eqb, eqb-true, eqb-false, leb-true, leb-false}
use Rattle.calculus.specs.Tree.{Tree}
use Rattle.calculus.specs.Rules.{TreeFrame, operand, argument, function}
use Rattle.frames.specs.Frames.{Record, job_words_at, frame_room}
use Rattle.table.specs.Holds.{Holds}
use Rattle.frames.specs.Stand.{Stands, stands_operand, stands_argument, stands_function, StandFrom, ZeroFrom}
use Rattle.frames.specs.SoundFrames.{SoundJob}
use Rattle.table.proofs.Tests.{by_test}
use Rattle.frames.proofs.FrameLaws.{job_room_is}
use Rattle.table.proofs.HoldsLaws.{from_at}
use Rattle.std.proofs.lemmas.Bool.{and_parts}
use Rattle.frames.proofs.SoundFrames.{stand_sound}
use Rattle.engine.specs.declared.From.{From}
use Rattle.engine.specs.declared.From.TheVariants.{Scratch, Stop}
use Rattle.guarantees.specs.Run.{Waiting, JobsDamaged, Misplaced, negative, not_used}
use Rattle.guarantees.proofs.Verdict.{used_placed}
use Rattle.guarantees.specs.Session.{Lookup, found, nowhere, lookup_then, look_up, job_in, jobs_in, frames_in, Holding}

-- ---- the frame table without its first place

module _ (t a b : ℕ) (j : List ℕ) where
  record_first : job_words_at (t ∷ a ∷ b ∷ j) 0 ≡ record { tag = t; first = a; second = b }
  unfolding job_words_at
  record_first = refl

  record_past : (k : ℕ) → job_words_at (t ∷ a ∷ b ∷ j) (suc k) ≡ job_words_at j k
  unfolding job_words_at
  record_past k =
      let e : 3 * suc k ≡ suc (suc (suc (3 * k))) = omega arith in
      let e1 : 3 * suc k + 1 ≡ suc (suc (suc (3 * k + 1))) = omega arith in
      let e2 : 3 * suc k + 2 ≡ suc (suc (suc (3 * k + 2))) = omega arith in
      rw (e1, e2, e)

  zero_past : (m : ℕ) → ZeroFrom (t ∷ a ∷ b ∷ j) (suc m) → ZeroFrom j m
  zero_past m h i l = h (suc (suc (suc i))) (omega arith)

  zero_onto : (m : ℕ) → ZeroFrom j m → ZeroFrom (t ∷ a ∷ b ∷ j) (suc m)
  zero_onto m h zero l = absurd (omega arith)
  zero_onto m h (suc zero) l = absurd (omega arith)
  zero_onto m h (suc (suc zero)) l = absurd (omega arith)
  zero_onto m h (suc (suc (suc i))) l = h i (omega arith)

  stand_onto : (w : List ℕ) (n k : ℕ) (fs : List TreeFrame) → StandFrom w n j k fs → StandFrom w n (t ∷ a ∷ b ∷ j) (suc k) fs
  stand_onto w n k [] h = tt
  stand_onto w n k (f ∷ fs) h = (rw (record_past k) h.0, stand_onto w n (suc k) fs h.1)

zero_none : ZeroFrom [] 0
zero_none i l = refl

zero_word : (x : ℕ) (j : List ℕ) → x ≡ 0 → ZeroFrom j 0 → ZeroFrom (x ∷ j) 0
zero_word x j e h zero l = e
zero_word x j e h (suc i) l = h i (omega arith)

-- ---- by a table whose used slots hold the store

module _ (w : List ℕ) (n : ℕ) (store : List Tree) (good : Holding w n store) where
  -- a place of the store, and a used slot that holds its tree; or neither
  pub data PlaceSeen : ℤ → Lookup Tree → Type 0 where
    held : {i : ℕ} {t : Tree} → Holds w n i t → PlaceSeen (pos i) (found t)
    unplaced : {z : ℤ} → Misplaced n z → PlaceSeen z nowhere

  pub place_seen : (z : ℤ) → PlaceSeen z (look_up store z)
  place_seen (negsuc i) = unplaced negative
  place_seen (pos i) =
      elim (dec_lt i (length store)) [
        | yes l ↦ rw (lt-ltb i (length store) l) (held (from_at w n 0 i i store (omega arith) l good.each))
        | no l ↦
            rw (le-ltb i (length store) (omega (arith, l)))
            (unplaced {z = pos i} (not_used {i = i} (omega (arith, l, good.long))))
      ]

  -- three words, and the frame that they stand for; or no sound job
  data JobSeen (r : Record) : Lookup TreeFrame → Type 0 where
    stands : {f : TreeFrame} → Stands w n r f → JobSeen r (found f)
    unsound : (SoundJob n r → ⊥) → JobSeen r nowhere

  module _ (t a b : ℕ) where
    abbrev words : Record
    words = record { tag = t; first = a; second = b }

    operand_seen : t ≡ 1 → {p q : Lookup Tree} → PlaceSeen (pos a) p → PlaceSeen (pos b) q
        → JobSeen words (lookup_then p (λ u. lookup_then q (λ v. found (operand u v))))
    operand_seen e (held h) (held g) =
        stands (stands_operand {a = a} {b = b} (λ i. record { tag = e i; first = a; second = b }) h g)
    operand_seen e (held h) (unplaced m) = unsound (λ s. used_placed refl (s.second e) m)
    operand_seen e (unplaced m) q = unsound (λ s. used_placed refl s.first m)

    argument_seen : t ≡ 2 → b ≡ 0 → {p : Lookup Tree} → PlaceSeen (pos a) p → JobSeen words (lookup_then p (λ u. found (argument u)))
    argument_seen e z (held h) = stands (stands_argument {a = a} (λ i. record { tag = e i; first = a; second = z i }) h)
    argument_seen e z (unplaced m) = unsound (λ s. used_placed refl s.first m)

    function_seen : t ≡ 3 → b ≡ 0 → {p : Lookup Tree} → PlaceSeen (pos a) p → JobSeen words (lookup_then p (λ u. found (function u)))
    function_seen e z (held h) = stands (stands_function {a = a} (λ i. record { tag = e i; first = a; second = z i }) h)
    function_seen e z (unplaced m) = unsound (λ s. used_placed refl s.first m)

    -- no sound job has other words
    no_other : SoundJob n words → (t ≡ 1 → ⊥) → eqb t 2 && eqb b 0 ≡ false → eqb t 3 && eqb b 0 ≡ false → ⊥
    no_other s p q r =
        elim (dec_lt t 3) [
          | yes l ↦
              let e : t ≡ 2 = omega (arith, s.tag.0, p, l) in
              let y : eqb t 2 && eqb b 0 ≡ true = rw (eq-eqb t 2 e, eq-eqb b 0 (s.third (inl e))) in
              false≢true (sym q ∙ y)
          | no l ↦
              let e : t ≡ 3 = omega (arith, s.tag.1, l) in
              let y : eqb t 3 && eqb b 0 ≡ true = rw (eq-eqb t 3 e, eq-eqb b 0 (s.third (inr e))) in
              false≢true (sym r ∙ y)
        ]

    job_seen : JobSeen words (job_in store t a b)
    job_seen =
        by_test (JobSeen words) (eqb t 1) (λ e. operand_seen (eqb-true t 1 e) (place_seen (pos a)) (place_seen (pos b)))
        (λ p. by_test (JobSeen words) (eqb t 2 && eqb b 0)
        (λ e. let (d, z) = and_parts (eqb t 2) (eqb b 0) e in
        argument_seen (eqb-true t 2 d) (eqb-true b 0 z) (place_seen (pos a)))
        (λ q. by_test (JobSeen words) (eqb t 3 && eqb b 0)
        (λ e. let (d, z) = and_parts (eqb t 3) (eqb b 0) e in
        function_seen (eqb-true t 3 d) (eqb-true b 0 z) (place_seen (pos a)))
        (λ r. unsound (λ s. no_other s (eqb-false t 1 p) q r))))

  -- so many jobs, and the frames that they stand for, with zeros above; or no sound jobs, where there is room for so many
  data JobsSeen (m : ℕ) (j : List ℕ) : Lookup (List TreeFrame) → Type 0 where
    stand : {fs : List TreeFrame} → length fs ≡ m → StandFrom w n j 0 fs → ZeroFrom j m → JobsSeen m j (found fs)
    broken : (3 * m ≤ length j → ((k : ℕ) → k < m → SoundJob n (job_words_at j k)) → ZeroFrom j m → ⊥) → JobsSeen m j nowhere

  one_more : (t a b m : ℕ) (j : List ℕ) {p : Lookup TreeFrame} {q : Lookup (List TreeFrame)} → JobSeen (words t a b) p → JobsSeen m j q
      → JobsSeen (suc m) (t ∷ a ∷ b ∷ j) (lookup_then p (λ f. lookup_then q (λ fs. found (f ∷ fs))))
  one_more t a b m j (stands {f = f} h) (stand {fs = fs} long hs zs) =
      stand {fs = f ∷ fs} (ap suc long) (rw (record_first t a b j) h, stand_onto t a b j w n 0 fs hs) (zero_onto t a b j m zs)
  one_more t a b m j (stands h) (broken g) =
      broken (λ l each zs.
      g (omega arith) (λ k d. rw (record_past t a b j k) at (each (suc k) (omega arith))) (zero_past t a b j m zs))
  one_more t a b m j (unsound h) q = broken (λ l each zs. h (rw (record_first t a b j) at (each 0 (omega arith))))

  zero_more : (x : ℕ) (j : List ℕ) → x ≡ 0 → {p : Lookup (List TreeFrame)} → JobsSeen 0 j p → JobsSeen 0 (x ∷ j) p
  zero_more x j e (stand {fs = []} long hs zs) = stand refl tt (zero_word x j e zs)
  zero_more x j e (stand {fs = f ∷ fs} long hs zs) = absurd (omega (arith, long))
  zero_more x j e (broken h) =
      broken (λ l each zs. h (omega arith) (λ k d. absurd (omega arith)) (λ i g. zs (suc i) (omega arith)))

  jobs_seen : (m : ℕ) (j : List ℕ) → JobsSeen m j (jobs_in store m j)
  jobs_seen zero [] = stand refl tt zero_none
  jobs_seen zero (x ∷ j) =
      by_test (JobsSeen zero (x ∷ j)) (eqb x 0) (λ e. zero_more x j (eqb-true x 0 e) (jobs_seen zero j))
      (λ e. broken (λ l each zs. eqb-false x 0 e (zs 0 (omega arith))))
  jobs_seen (suc m) [] = broken (λ l. absurd (omega arith))
  jobs_seen (suc m) (t ∷ []) = broken (λ l. absurd (omega arith))
  jobs_seen (suc m) (t ∷ a ∷ []) = broken (λ l. absurd (omega arith))
  jobs_seen (suc m) (t ∷ a ∷ b ∷ j) = one_more t a b m j (job_seen t a b) (jobs_seen m j)

  -- what a run begins with, on both sides; or jobs that are not sound
  pub data FramesSeen (from : From) (j : List ℕ) : Lookup (List TreeFrame) → Type 0 where
    waits : {fs : List TreeFrame} → Waiting from w n j fs → FramesSeen from j (found fs)
    harmed : JobsDamaged from n j → FramesSeen from j nowhere

  within : (waiting steps : ℕ) (j : List ℕ) {p : Lookup (List TreeFrame)} → waiting ≤ frame_room j → JobsSeen waiting j p
      → FramesSeen (Stop waiting steps) j p
  within waiting steps j l (stand {fs = fs} long hs zs) =
      waits (
        record { fits = l; each = λ k d. stand_sound w n j 0 fs hs k (omega arith) (omega (arith, long)); above = zs },
        long,
        hs,
      )
  within waiting steps j l (broken h) = harmed (λ s. h (omega (arith, (job_room_is j).0)) s.each s.above)

  pub frames_seen : (from : From) (j : List ℕ) → FramesSeen from j (frames_in store from j)
  frames_seen Scratch j = waits refl
  frames_seen (Stop waiting steps) j =
      by_test (FramesSeen (Stop waiting steps) j) (leb waiting (frame_room j))
      (λ e. within waiting steps j (leb-true waiting (frame_room j) e) (jobs_seen waiting j))
      (λ e. harmed (λ s. omega (arith, leb-false waiting (frame_room j) e, s.fits)))
