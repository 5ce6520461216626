-- The test of the waiting frames: the ways through it, from frame to frame and from word to word.
use Prim.Native.Nat.{ℕ, zero, suc, ◌+◌, ◌<◌}
use mathlib.Core.Path.{◌≡◌, refl, sym, ap, ◌∙◌}
use mathlib.Core.Bool.{Bool, true, false, ◌&&◌, and-true, and-false, and_assoc}
use mathlib.Core.List.{List, [], ◌∷◌, ◌++◌}
use native.Mathlib.Omega.{arith}
use native.Mathlib.Numerals.{add-one}
use native.Mathlib.Decide.{dec_lt}
use lib.Dec.{eqb}
use lib.Bits.{bit_or, or_add_and, and_le_r}
use lib.ListN.{length}
use borrow.Author.Tests.{ne_eqb}
use Rattle.std.specs.List.{fold}
use Rattle.frames.specs.Frames.{job_words_at}
use Rattle.frames.specs.SoundFrames.{frame_sound, each_sound, all_zero}

-- ---- from frame to frame

module _ (used : ℕ) (j : List ℕ) where
  pub each_none : each_sound used j 0 ≡ true
  unfolding each_sound
  each_none = refl

  module _ (k : ℕ) where
    pub each_more : each_sound used j k ≡ true → frame_sound used (job_words_at j k) ≡ true → each_sound used j (k + 1) ≡ true
    unfolding each_sound
    each_more h g = rw (add-one, each_sound, h, g)

    pub each_broken : (n : ℕ) → k < n → frame_sound used (job_words_at j k) ≡ false → each_sound used j n ≡ false
    unfolding each_sound
    each_broken zero h e = absurd (omega arith)
    each_broken (suc n) h e =
        elim (dec_lt k n) [
          | yes g ↦ ap (λ (b : Bool). b && frame_sound used (job_words_at j n)) (each_broken n g e)
          | no g ↦ let s : k ≡ n = omega (arith, g) in rw (← s, e, and-false)
        ]

-- ---- from word to word

-- no bit is set in two words together
none_set : (a b : ℕ) → eqb (bit_or a b) 0 ≡ eqb a 0 && eqb b 0
none_set a b =
    elim (dec_lt 0 a) [
      | yes l ↦ rw (ne_eqb (bit_or a b) 0 (omega (arith, l, or_add_and a b, and_le_r a b)), ne_eqb a 0 (omega (arith, l)))
      | no l ↦ let z : a ≡ 0 = omega (arith, l) in rw z
    ]

-- nor in all of them, with the bits that were found before
pub none_set_in : (xs : List ℕ) (bits : ℕ) → eqb (fold bit_or bits xs) 0 ≡ eqb bits 0 && all_zero xs
unfolding all_zero
none_set_in [] bits = sym (and-true (eqb bits 0))
none_set_in (x ∷ xs) bits =
    none_set_in xs (bit_or bits x) ∙ (rw (none_set bits x) (and_assoc (eqb bits 0) (eqb x 0) (all_zero xs)))

-- ---- from block to block

pub zero_empty : (xs : List ℕ) → length xs ≡ 0 → all_zero xs ≡ true
unfolding all_zero
zero_empty [] e = refl
zero_empty (x ∷ xs) e = absurd (omega arith)

pub zero_append : (xs ys : List ℕ) → all_zero (xs ++ ys) ≡ all_zero xs && all_zero ys
unfolding all_zero
zero_append [] ys = refl
zero_append (x ∷ xs) ys = rw (zero_append xs ys) (sym (and_assoc (eqb x 0) (all_zero xs) (all_zero ys)))
