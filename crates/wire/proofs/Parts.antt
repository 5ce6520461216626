-- Laws of a part of a list of bytes: its length, and that it is bytes.
use Prim.Native.Nat.{ℕ, zero, suc, ◌+◌, ◌-◌, ◌≤◌, ◌<◌}
use mathlib.Core.Path.{◌≡◌, refl}
use mathlib.Core.List.{List, [], ◌∷◌}
use native.Mathlib.Nat.{add-sub_cancel_left}
use native.Mathlib.Omega.{arith}
use native.Mathlib.Decide.{dec_lt}
use lib.ListN.{length, get_or, take, drop, length-take, length-drop, get_or-eq_default}
use lib.Seq.{get_or-take, get_or-drop, take-take}

-- every element of a list is a byte; past its end stands 0
-- (of a slice s, λ i. c.type_inv.s i says so)
abbrev pub AreBytes : List ℕ → Type 0
AreBytes xs = (i : ℕ) → get_or xs i 0 < 256

module _ (s : List ℕ) (at n : ℕ) where
  -- what &s[at..end] lends where end is at + n
  pub part_lent : take (at + n - at) (drop at s) ≡ take n (drop at s)
  part_lent = rw add-sub_cancel_left

  pub part_length : at + n ≤ length s → length (take n (drop at s)) ≡ n
  part_length h = simp (length-take, length-drop) (omega arith)

  pub part_bytes : AreBytes s → AreBytes (take n (drop at s))
  part_bytes b i = elim (dec_lt i n) [
    | yes k ↦ rw (get_or-take, get_or-drop) (b (at + i))
    | no k ↦ rw (get_or-eq_default (take n (drop at s)) 0 {n = i} (rw length-take (omega (arith, k)))) (omega arith)
  ]

-- a part of a list's beginning is a part of the list
pub part_front : (s : List ℕ) (z at n : ℕ) → at + n ≤ z → take n (drop at (take z s)) ≡ take n (drop at s)
part_front s z zero n h = take-take n z s (omega arith)
part_front s zero (suc at) n h = absurd (omega arith)
part_front [] (suc z) (suc at) n h = refl
part_front (x ∷ s) (suc z) (suc at) n h = part_front s z at n (omega arith)
