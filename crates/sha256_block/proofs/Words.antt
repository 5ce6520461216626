-- The message schedule, word by word.
use Rattle.std.proofs.Common.{◌≡◌, ℕ, ◌+◌, ◌-◌, ◌<◌, ◌≤◌, List, [], ◌∷◌, ◌++◌, length, get_or, take, set, sym, refl, ◌∙◌, add-one, arith, length-set, get_or-set_other, get_or-take, le-ltb, lt-ltb}
use Rattle.std.proofs.lemmas.List.{take_more_set}
use Rattle.sha256_block.specs.Fips180.{word_at, mixed, next_word, schedule}

pub schedule_none : (m : List ℕ) → schedule m 0 ≡ []
unfolding schedule
schedule_none m = refl

schedule_suc : (m : List ℕ) (t : ℕ) → schedule m (t + 1) ≡ schedule m t ++ (next_word m t (schedule m t) ∷ [])
unfolding schedule
schedule_suc m t = rw add-one

-- the first 16 words are the block's
pub schedule_first : (m : List ℕ) (t : ℕ) → t < 16 → schedule m (t + 1) ≡ schedule m t ++ (word_at m t ∷ [])
unfolding next_word
schedule_first m t h = schedule_suc m t ∙ simp (lt-ltb _ _ h)

-- each later one is mixed from four before it; p is the one two places before
schedule_mixed : (m w : List ℕ) (t p x : ℕ) → 16 ≤ t → t < length w → p ≡ get_or w (t - 2) 0
    → x ≡ mixed p (get_or w (t - 7) 0) (get_or w (t - 15) 0) (get_or w (t - 16) 0)
    → take t w ≡ schedule m t → take (t + 1) (set w t x) ≡ schedule m (t + 1)
unfolding next_word
schedule_mixed m w t p x h l e d i =
    take_more_set w t x l ∙ rw schedule_suc (simp (le-ltb _ _ h) (cc (
      i,
      get_or-take t w (t - 2) 0 (omega arith),
      get_or-take t w (t - 7) 0 (omega arith),
      get_or-take t w (t - 15) 0 (omega arith),
      get_or-take t w (t - 16) 0 (omega arith),
    )))

back : (t n : ℕ) → t + 1 - (n + 1) ≡ t - n
back t n = omega arith

-- two words at once: p and q are the two before them
pub schedule_two : (m w : List ℕ) (t p q x y : ℕ) → 16 ≤ t → t + 1 < length w
    → p ≡ get_or w (t - 2) 0 → q ≡ get_or w (t - 1) 0
    → x ≡ mixed p (get_or w (t - 7) 0) (get_or w (t - 15) 0) (get_or w (t - 16) 0)
    → y ≡ mixed q (get_or (set w t x) (t - 6) 0) (get_or (set w t x) (t - 14) 0) (get_or (set w t x) (t - 15) 0)
    → take t w ≡ schedule m t
    → take (t + 2) (set (set w t x) (t + 1) y) ≡ schedule m (t + 2)
schedule_two m w t p q x y h l dp dq dx dy i =
    rw two
    (schedule_mixed m (set w t x) (t + 1) q y (omega arith) (simp length-set l)
    (dq ∙ rw (back t 1) (sym (get_or-set_other w t (t - 1) x 0 (λ e. omega arith))))
    (rw (back t 6, back t 14, back t 15) dy)
    (schedule_mixed m w t p x h (omega (arith, l)) dp dx i))
  where
    two : t + 2 ≡ t + 1 + 1
    two = omega arith
