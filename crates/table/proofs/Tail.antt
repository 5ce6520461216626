-- The part of a table from a place on: `&mut w[n..]` is lent as `drop n w`, and comes back after `take n w`.
use Prim.Native.Nat.{ℕ, ◌-◌, ◌≤◌}
use mathlib.Core.Path.{◌≡◌, ap, ◌∙◌}
use mathlib.Core.List.{List, ◌++◌, append-nil}
use native.Mathlib.Nat.{le_refl}
use lib.ListN.{length, take, drop, length-drop}
use lib.Seq.{take_all, drop-length}
use borrow.Rule.Slice.PartMut.{mid_of, put_mid, Post-is}

pub tail_lent : (n : ℕ) (w : List ℕ) → mid_of n (length w - n) w ≡ drop n w
tail_lent n w = take_all (length w - n) (drop n w) (simp length-drop (le_refl _))

pub tail_home : (n : ℕ) (w w' : List ℕ) → n ≤ length w → put_mid n (length w - n) w w' ≡ take n w ++ w'
tail_home n w w' h =
    ap (λ (l : List ℕ). take n w ++ (w' ++ l)) (Post-is n (length w) w h ∙ drop-length w)
    ∙ ap (λ (l : List ℕ). take n w ++ l) (append-nil w')
