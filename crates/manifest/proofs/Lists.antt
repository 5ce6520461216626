-- Laws of the list of things one after the other: one thing more, the stop where a thing does not end, the end; how long it
-- is; a list of what is read of each.
use Rattle.std.specs.Prelude.{Option, Some, None}
use Rattle.lists.specs.Options.{on_some}
use Prim.Native.Nat.{ℕ, zero, suc, ◌+◌, ◌-◌, ◌≤◌, ◌<◌}
use mathlib.Core.Path.{◌≡◌, refl, sym, ap, ◌∙◌}
use mathlib.Core.List.{List, [], ◌∷◌}
use native.Mathlib.Omega.{arith}
use lib.ListN.{length}
use Rattle.manifest.specs.Content.{list_from}

module _ {A : Type 0} (end : ℕ → Option ℕ) (read : ℕ → A) where
  -- n things are m and one more
  pub list_next : (n m p q : ℕ) → m + 1 ≡ n → end p ≡ Some q → list_from end read n p ≡ read p ∷ list_from end read m q
  unfolding list_from
  list_next zero m p q h e = absurd (omega arith)
  list_next (suc n) m p q h e = let k : n ≡ m = omega arith in rw (e, k)

  pub list_stopped : (n p : ℕ) → end p ≡ None → list_from end read n p ≡ []
  unfolding list_from
  list_stopped zero p e = refl
  list_stopped (suc n) p e = rw e

  pub list_none : (n p : ℕ) → n ≤ 0 → list_from end read n p ≡ []
  unfolding list_from
  list_none zero p h = refl
  list_none (suc n) p h = absurd (omega arith)

  -- the same, where a loop asks whether the thing ends
  pub list_step : (n p : ℕ) → 0 < n → {x : Option ℕ} {q : ℕ} → x ≡ end p → x ≡ Some q →
      list_from end read n p ≡ read p ∷ list_from end read (n - 1) q
  list_step n p h {x} {q} e f = list_next n (n - 1) p q (omega arith) (sym e ∙ f)

  pub list_stop : (n p : ℕ) → 0 < n → {x : Option ℕ} → x ≡ end p → x ≡ None → list_from end read n p ≡ []
  list_stop n p h e f = list_stopped n p (sym e ∙ f)

  pub list_length : (n p : ℕ) → length (list_from end read n p) ≤ n
  unfolding list_from
  list_length zero p = omega arith
  list_length (suc n) p = ends (end p) (list_length n)
    where
      ends : (x : Option ℕ) → ((q : ℕ) → length (list_from end read n q) ≤ n) →
          length (on_some x (λ q. read p ∷ list_from end read n q) []) ≤ suc n
      ends (Some q) rest = omega (arith, rest q)
      ends None rest = omega arith

-- what a turn of a walk over them is
pub ruleset walking = (list_next, list_stopped, list_none)

-- `all xs` are what `one x` is of the things in xs
module _ {A B : Type 0} (one : A → B) (all : List A → List B) (none : [] ≡ all [])
    (more : (x : A) (xs : List A) → one x ∷ all xs ≡ all (x ∷ xs)) where
  listed_all : (end : ℕ → Option ℕ) (read : ℕ → A) (n p : ℕ) →
      list_from end (λ q. one (read q)) n p ≡ all (list_from end read n p)
  unfolding list_from
  listed_all end read zero p = none
  listed_all end read (suc n) p = ends (end p) (listed_all end read n)
    where
      ends : (x : Option ℕ) → ((q : ℕ) → list_from end (λ q. one (read q)) n q ≡ all (list_from end read n q)) →
          on_some x (λ q. one (read p) ∷ list_from end (λ q. one (read q)) n q) [] ≡
          all (on_some x (λ q. read p ∷ list_from end read n q) [])
      ends (Some q) rest = ap (λ (ys : List B). one (read p) ∷ ys) (rest q) ∙ more (read p) (list_from end read n q)
      ends None rest = none

  pub counted_all : (end : ℕ → Option ℕ) (read : ℕ → A) (x : Option ℕ) (p : ℕ) →
      on_some x (λ n. list_from end (λ q. one (read q)) n p) [] ≡ all (on_some x (λ n. list_from end read n p) [])
  counted_all end read (Some n) p = listed_all end read n p
  counted_all end read None p = none
