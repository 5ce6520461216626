-- Waiting frames are sound just when their test says so; and sound ones stand for one list of frames.
use Prim.Native.Nat.{ℕ, zero, suc, ◌+◌, ◌-◌, ◌*◌, ◌≤◌, ◌<◌}
use mathlib.Core.Path.{◌≡◌, refl, sym, ap, ◌∙◌}
use mathlib.Core.Bool.{true, ◌&&◌, ◌||◌, or-true}
use mathlib.Core.List.{List, [], ◌∷◌}
use mathlib.Core.Logic.{◌⊎◌, inl, inr, ⊎_elim, ◌↔◌}
use native.Mathlib.Omega.{arith}
use native.Mathlib.Decide.{dec_lt, ℕ_discrete}
use lib.Dec.{leb, ltb, eqb}
use lib.ListN.{length, get_or, drop}
use lib.Seq.{get_or-drop}
use borrow.Author.Tests.{lt-ltb, ltb-true, le-leb, leb-true, eq-eqb, ne_eqb, eqb-true}
use Rattle.std.proofs.lemmas.Bool.{and_parts, or_cases}
use Rattle.calculus.specs.Tree.{Tree}
use Rattle.calculus.specs.Rules.{TreeFrame, operand, argument, function}
use Rattle.table.specs.Sound.{SoundSlots}
use Rattle.frames.specs.Frames.{frame_width, frame_room, Record, job_words_at}
use Rattle.table.specs.Holds.{Holds}
use Rattle.frames.specs.Stand.{Stands, stands_operand, stands_argument, stands_function, StandFrom, ZeroFrom}
use Rattle.frames.specs.SoundFrames.{frame_sound, each_sound, all_zero, frames_sound, SoundJob, SoundJobs, FramesSoundExactly, OneFrameList}
use Rattle.table.proofs.HoldsLaws.{held_below, one_tree, sound_holds}

-- ---- one frame

-- the two kinds of sound words: with two slots, or with one
data Kinds (used : ℕ) (r : Record) : Type 0 where
  two : r.tag ≡ 1 → r.second < used → Kinds used r
  one : (r.tag ≡ 2) ⊎ (r.tag ≡ 3) → r.second ≡ 0 → Kinds used r

module _ (used : ℕ) (r : Record) where
  kinds : SoundJob used r → Kinds used r
  kinds s =
      elim (ℕ_discrete r.tag 1) [
        | yes e ↦ two e (s.second e)
        | no n ↦ elim (ℕ_discrete r.tag 2) [
          | yes e ↦ one (inl e) (s.third (inl e))
          | no m ↦ let e : r.tag ≡ 3 = omega (arith, n, m, s.tag.0, s.tag.1) in one (inr e) (s.third (inr e))
        ]
      ]

  of_kind : r.first < used → Kinds used r → SoundJob used r
  of_kind f (two e l) =
      record {
        tag = (omega arith, omega arith);
        first = f;
        second = λ _. l;
        third = λ h. absurd (⊎_elim {A = r.tag ≡ 2} (λ d. omega arith) (λ d. omega arith) h);
      }
  of_kind f (one t z) =
      record {
        tag = ⊎_elim (λ e. (omega arith, omega arith)) (λ e. (omega arith, omega arith)) t;
        first = f;
        second = λ e. absurd (⊎_elim (λ d. omega arith) (λ d. omega arith) t);
        third = λ _. z;
      }

  said_kind : Kinds used r → (eqb r.tag 1 && ltb r.second used) || ((eqb r.tag 2 || eqb r.tag 3) && eqb r.second 0) ≡ true
  said_kind (two e l) = rw (eq-eqb r.tag 1 e, lt-ltb r.second used l)
  said_kind (one t z) =
      rw (ne_eqb r.tag 1 (⊎_elim (λ d. omega arith) (λ d. omega arith) t), eq-eqb r.second 0 z)
      (⊎_elim (λ d. rw (eq-eqb r.tag 2 d)) (λ d. rw (eq-eqb r.tag 3 d) (rw or-true)) t)

  frame_sound_lem : (frame_sound used r ≡ true) ↔ SoundJob used r
  unfolding frame_sound
  frame_sound_lem = (
    λ e.
        let (f, k) = and_parts (ltb r.first used) _ e in
        of_kind (ltb-true r.first used f)
        (⊎_elim
        (λ h. let (t, l) = and_parts (eqb r.tag 1) (ltb r.second used) h in
        two (eqb-true r.tag 1 t) (ltb-true r.second used l))
        (λ h. let (t, l) = and_parts (eqb r.tag 2 || eqb r.tag 3) (eqb r.second 0) h in
        one (⊎_elim (λ d. inl (eqb-true r.tag 2 d)) (λ d. inr (eqb-true r.tag 3 d))
        (or_cases (eqb r.tag 2) (eqb r.tag 3) t)) (eqb-true r.second 0 l))
        (or_cases (eqb r.tag 1 && ltb r.second used) _ k)),
    λ s. rw (lt-ltb r.first used s.first) (said_kind (kinds s)),
  )

-- ---- all of them

module _ (used : ℕ) (j : List ℕ) where
  each_sound_lem : (n : ℕ) → (each_sound used j n ≡ true) ↔ ((k : ℕ) → k < n → SoundJob used (job_words_at j k))
  unfolding each_sound
  each_sound_lem zero = (λ e k l. absurd (omega arith), λ h. refl)
  each_sound_lem (suc n) = (
    λ e k l.
        let (p, q) = and_parts (each_sound used j n) (frame_sound used (job_words_at j n)) e in
        elim (dec_lt k n) [
          | yes g ↦ (each_sound_lem n).0 p k g
          | no g ↦ let s : n ≡ k = omega (arith, g) in rw s at ((frame_sound_lem used (job_words_at j n)).0 q)
        ],
    λ h. rw ((each_sound_lem n).1 (λ k l. h k (omega arith)), (frame_sound_lem used (job_words_at j n)).1 (h n (omega arith))),
  )

zeros_are : (xs : List ℕ) → all_zero xs ≡ true → (i : ℕ) → get_or xs i 0 ≡ 0
unfolding all_zero
zeros_are [] e i = refl
zeros_are (x ∷ xs) e zero = eqb-true x 0 (and_parts (eqb x 0) (all_zero xs) e).0
zeros_are (x ∷ xs) e (suc i) = zeros_are xs (and_parts (eqb x 0) (all_zero xs) e).1 i

are_zeros : (xs : List ℕ) → ((i : ℕ) → get_or xs i 0 ≡ 0) → all_zero xs ≡ true
unfolding all_zero
are_zeros [] h = refl
are_zeros (x ∷ xs) h = rw (eq-eqb x 0 (h 0), are_zeros xs (λ i. h (suc i)))

zero_from : (j : List ℕ) (n : ℕ) → (all_zero (drop (frame_width * n) j) ≡ true) ↔ ZeroFrom j n
zero_from j n =
    let d = frame_width * n in (
      λ e i l.
          let z : d + (i - d) ≡ i = omega arith in
          rw z at (sym (get_or-drop d j (i - d) 0) ∙ zeros_are (drop d j) e (i - d)),
      λ h. are_zeros (drop d j) (λ i. get_or-drop d j i 0 ∙ h (d + i) (omega arith)),
    )

pub frames_sound_lem : FramesSoundExactly
unfolding frames_sound
frames_sound_lem used j n = (
  λ e.
      let (f, r) = and_parts (leb n (frame_room j)) _ e in
      let (s, z) = and_parts (each_sound used j n) (all_zero (drop (frame_width * n) j)) r in
      record {
        fits = leb-true n (frame_room j) f;
        each = (each_sound_lem used j n).0 s;
        above = (zero_from j n).0 z;
      },
  λ s. rw (le-leb n (frame_room j) s.fits, (each_sound_lem used j n).1 s.each, (zero_from j n).1 s.above),
)

-- ---- what they stand for

apart : {r s : Record} → r ≡ s → (r.tag ≡ s.tag → ⊥) → ⊥
apart e h = h (ap (λ (x : Record). x.tag) e)

module _ (w : List ℕ) (used : ℕ) where
  -- words that stand for a frame are sound
  pub stands_sound : (r : Record) (f : TreeFrame) → Stands w used r f → SoundJob used r
  stands_sound r _ (stands_operand e h g) =
      rw e (of_kind used _ (held_below h) (two refl (held_below g)))
  stands_sound r _ (stands_argument e h) =
      rw e (of_kind used _ (held_below h) (one (inl refl) refl))
  stands_sound r _ (stands_function e h) =
      rw e (of_kind used _ (held_below h) (one (inr refl) refl))

  pub stand_sound : (j : List ℕ) (k : ℕ) (fs : List TreeFrame) → StandFrom w used j k fs
      → (i : ℕ) → k ≤ i → i < k + length fs → SoundJob used (job_words_at j i)
  stand_sound j k [] h i l g = absurd (omega arith)
  stand_sound j k (f ∷ fs) h i l g =
      elim (dec_lt k i) [
        | yes m ↦ stand_sound j (suc k) fs h.1 i m (omega arith)
        | no m ↦ let e : k ≡ i = omega (arith, m) in rw e at (stands_sound (job_words_at j k) f h.0)
      ]

  -- sound words stand for a frame
  sound_stands : SoundSlots w used → (r : Record) → SoundJob used r → (f : TreeFrame) × Stands w used r f
  sound_stands good r s =
      let (t, h) = sound_holds w used good r.first s.first in
      go t h (kinds used r s)
    where
      go : (t : Tree) → Holds w used r.first t → Kinds used r → (f : TreeFrame) × Stands w used r f
      go t h (two e l) =
          let (u, g) = sound_holds w used good r.second l in (
            operand t u,
            stands_operand {a = r.first} {b = r.second}
                (λ i. record { tag = e i; first = r.first; second = r.second }) h g,
          )
      go t h (one k z) =
          ⊎_elim
          (λ e. (argument t, stands_argument {a = r.first} (λ i. record { tag = e i; first = r.first; second = z i }) h))
          (λ e. (function t, stands_function {a = r.first} (λ i. record { tag = e i; first = r.first; second = z i }) h))
          k

  -- and for one alone
  one_frame : (r : Record) (f g : TreeFrame) → Stands w used r f → Stands w used r g → f ≡ g
  one_frame r _ _ (stands_operand {a = a} {b = b} {t = t} {u = u} e h k) (stands_operand {a = a'} {b = b'} {t = t'} {u = u'} d l m) =
      let p : a ≡ a' = ap (λ (x : Record). x.first) (sym e ∙ d) in
      let q : b ≡ b' = ap (λ (x : Record). x.second) (sym e ∙ d) in
      cc (one_tree w used a' t t' (rw p at h) l, one_tree w used b' u u' (rw q at k) m)
  one_frame r _ _ (stands_argument {a = a} {t = t} e h) (stands_argument {a = a'} {t = t'} d l) =
      let p : a ≡ a' = ap (λ (x : Record). x.first) (sym e ∙ d) in
      cc (one_tree w used a' t t' (rw p at h) l)
  one_frame r _ _ (stands_function {a = a} {t = t} e h) (stands_function {a = a'} {t = t'} d l) =
      let p : a ≡ a' = ap (λ (x : Record). x.first) (sym e ∙ d) in
      cc (one_tree w used a' t t' (rw p at h) l)
  one_frame r _ _ (stands_operand e h k) (stands_argument d l) = absurd (apart (sym e ∙ d) (omega arith))
  one_frame r _ _ (stands_operand e h k) (stands_function d l) = absurd (apart (sym e ∙ d) (omega arith))
  one_frame r _ _ (stands_argument e h) (stands_operand d l m) = absurd (apart (sym e ∙ d) (omega arith))
  one_frame r _ _ (stands_argument e h) (stands_function d l) = absurd (apart (sym e ∙ d) (omega arith))
  one_frame r _ _ (stands_function e h) (stands_operand d l m) = absurd (apart (sym e ∙ d) (omega arith))
  one_frame r _ _ (stands_function e h) (stands_argument d l) = absurd (apart (sym e ∙ d) (omega arith))

  module _ (j : List ℕ) where
    -- frames that stand in the table, with 0 above them, are sound waiting jobs
    pub standing_sound : (fs : List TreeFrame) → length fs ≤ frame_room j → StandFrom w used j 0 fs → ZeroFrom j (length fs)
        → SoundJobs used j (length fs)
    standing_sound fs l h z =
        record { fits = l; each = λ k g. stand_sound j 0 fs h k (omega arith) (omega arith); above = z }

    frames_from : SoundSlots w used → (m k : ℕ) → ((i : ℕ) → k ≤ i → i < k + m → SoundJob used (job_words_at j i))
        → (fs : List TreeFrame) × (length fs ≡ m) × StandFrom w used j k fs
    frames_from good zero k each = ([], refl, tt)
    frames_from good (suc m) k each =
        let (f, h) = sound_stands good (job_words_at j k) (each k (omega arith) (omega arith)) in
        let (fs, l, hs) = frames_from good m (suc k) (λ i a b. each i (omega arith) (omega arith)) in
        (f ∷ fs, ap suc l, (h, hs))

    pub same_frames : (k : ℕ) (fs gs : List TreeFrame) → length fs ≡ length gs
        → StandFrom w used j k fs → StandFrom w used j k gs → fs ≡ gs
    same_frames k [] [] e h g = refl
    same_frames k [] (b ∷ gs) e h g = absurd (omega arith)
    same_frames k (a ∷ fs) [] e h g = absurd (omega arith)
    same_frames k (a ∷ fs) (b ∷ gs) e h g =
        cc (one_frame (job_words_at j k) a b h.0 g.0, same_frames (suc k) fs gs (omega arith) h.1 g.1)

    -- Sound waiting jobs, over sound used slots, stand for just one list of frames.
    pub one_list : SoundSlots w used → (waiting : ℕ) → SoundJobs used j waiting
        → (fs : List TreeFrame) × (length fs ≡ waiting) × StandFrom w used j 0 fs
        × ((other : List TreeFrame) → length other ≡ waiting → StandFrom w used j 0 other → other ≡ fs)
    one_list good n s =
        let (fs, l, h) = frames_from good n 0 (λ i a b. s.each i (omega arith)) in
        (fs, l, h, λ other m g. same_frames 0 other fs (m ∙ sym l) g h)

pub one_frame_list : OneFrameList
one_frame_list = one_list
