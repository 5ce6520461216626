-- A buffer that is filled from the front: the first k items are written, the rest of the buffer stays.
use Prim.Native.Nat.{ℕ, ◌+◌, ◌≤◌, ◌<◌}
use mathlib.Core.Path.{◌≡◌, refl, sym, ap, ◌∙◌}
use mathlib.Core.List.{List, [], ◌∷◌, ◌++◌}
use native.Mathlib.Numerals.{add-one}
use native.Mathlib.Omega.{arith}
use lib.ListN.{length, set, take, drop, length-set, length-drop, take-append-drop}
use lib.Seq.{take-add, take_all, take-suc-set, drop-set-lt, drop-drop}

pub record Filled {A : Type 0} (items old out : List A) (k : ℕ) : Type 0 where
  pub below : k ≤ length items
  pub done : take k out ≡ take k items
  pub rest : drop k out ≡ drop k old
  pub long : length out ≡ length old

module _ {A : Type 0} (items : List A) (k : ℕ) {x : A} {left : List A} (e : drop k items ≡ x ∷ left) where
  -- x is the next item, so that there is one, and the others follow it
  pub next_below : k < length items
  next_below = omega (arith, ap length e, length-drop k items)

  pub next_left : drop (k + 1) items ≡ left
  next_left = sym (drop-drop 1 k items) ∙ ap (drop 1) e

-- no item is left
pub none_left : {A : Type 0} (items : List A) (k : ℕ) → drop k items ≡ [] → length items ≤ k
none_left items k e = omega (arith, ap length e, length-drop k items)

module _ {A : Type 0} {items old : List A} where
  -- nothing is written yet
  pub filled_none : Filled items old old 0
  filled_none = record { below = omega arith; done = refl; rest = refl; long = refl }

  -- the first items stand there already
  pub filled_from : (k : ℕ) → k ≤ length items → take k old ≡ take k items → Filled items old old k
  filled_from k h e = record { below = h; done = e; rest = refl; long = refl }

  module _ {out : List A} {k : ℕ} (f : Filled items old out k) where
    -- the next item is stored
    pub filled_on : {x : A} {left : List A} → drop k items ≡ x ∷ left → length items ≤ length old →
        Filled items old (set out k x) (k + 1)
    filled_on {x} e room =
        let h = next_below items k e in
        record {
          below = omega arith;
          done = (rw add-one (take-suc-set out k x (omega (arith, f.long))))
              ∙ ap (λ (l : List A). l ++ (x ∷ [])) f.done
              ∙ sym (take-add k 1 items ∙ ap (λ (l : List A). take k items ++ take 1 l) e);
          rest = drop-set-lt (k + 1) out k x (omega arith)
              ∙ sym (drop-drop 1 k out) ∙ ap (drop 1) f.rest ∙ drop-drop 1 k old;
          long = simp length-set f.long;
        }

    -- all items are written
    pub filled_all : length items ≤ k → out ≡ items ++ drop k old
    filled_all h =
        sym (take-append-drop k out)
        ∙ ap (λ (l : List A). l ++ drop k out) (f.done ∙ take_all k items h)
        ∙ ap (λ (l : List A). items ++ l) f.rest
