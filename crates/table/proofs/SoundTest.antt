-- The test of the used slots: the ways through it, and how it goes from slot to slot.
use Prim.Native.Nat.{ℕ, zero, suc, ◌+◌, ◌<◌}
use mathlib.Core.Path.{◌≡◌, refl, ap}
use mathlib.Core.Bool.{Bool, true, false, ◌&&◌, ◌||◌, and-false}
use mathlib.Core.List.{List}
use native.Mathlib.Omega.{arith}
use native.Mathlib.Numerals.{add-one}
use native.Mathlib.Decide.{dec_lt}
use lib.Dec.{ltb, leb, eqb}
use Rattle.table.specs.Slots.{first_at, second_at}
use Rattle.table.specs.Sound.{slot_sound, sound}

-- no word of a sound slot is above it, and from slot 1 on the first is above 0
pub slot_tested : (i p q : ℕ) → slot_sound i p q ≡ leb p i && leb q i && (eqb i 0 || ltb 0 p)
unfolding slot_sound
slot_tested zero p q = grind arith
slot_tested (suc i) p q = grind arith

module _ (w : List ℕ) where
  -- the first 0 slots are sound, and with one more sound slot they stay so
  pub sound_none : sound w 0 ≡ true
  unfolding sound
  sound_none = refl

  module _ (i : ℕ) where
    abbrev test : Bool
    test = slot_sound i (first_at w i) (second_at w i)

    pub sound_more : sound w i ≡ true → test ≡ true → sound w (i + 1) ≡ true
    unfolding sound
    sound_more h k = rw (add-one, sound, h, k)

    -- one slot that is not sound is enough
    pub sound_broken : (n : ℕ) → i < n → test ≡ false → sound w n ≡ false
    unfolding sound
    sound_broken zero h e = absurd (omega arith)
    sound_broken (suc n) h e =
        elim (dec_lt i n) [
          | yes g ↦ ap (λ (b : Bool). b && slot_sound n (first_at w n) (second_at w n)) (sound_broken n g e)
          | no g ↦ let s : i ≡ n = omega (arith, g) in rw (← s, e, and-false)
        ]
