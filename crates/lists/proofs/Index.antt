-- Laws of a place in a list: where a byte string first stands, what stands among others, what stands once.
use Rattle.std.specs.Prelude.{Option, Some, None, is_some}
use Prim.Native.Nat.{ℕ, zero, suc, ◌+◌, ◌-◌, ◌≤◌, ◌<◌}
use mathlib.Core.Path.{◌≡◌, refl, sym, ap}
use mathlib.Core.List.{List, [], ◌∷◌}
use mathlib.Core.Bool.{Bool, true, false}
use mathlib.Core.Logic.{◌↔◌}
use native.Mathlib.Omega.{arith}
use lib.ListN.{length, get_or}
use Rattle.lists.specs.Lists.{same_bytes, index_of, repeats}
use Rattle.lists.specs.Among.{Among, here, there, Distinct}
use Rattle.lists.proofs.Same.{not_both, same_sound, same_false, same_true}

-- what was found at an index was found
pub no_index : {A : Type 0} {i : ℕ} → ◌≡◌ {A = Option ℕ} (Some i) None → A
no_index e = let z : ◌≡◌ {A = ℕ} 0 1 = cc in absurd (omega arith)

module _ {A : Type 0} (d : A) where
  -- what stands among others stands at some index, and the other way round
  pub among_index : {x : A} {xs : List A} → Among x xs → (i : ℕ) × (i < length xs) × (get_or xs i d ≡ x)
  among_index here = (0, omega arith, refl)
  among_index (there a) = let (i, h, e) = among_index a in (suc i, omega arith, e)

  pub index_among : (xs : List A) (i : ℕ) → i < length xs → Among (get_or xs i d) xs
  index_among [] i h = absurd (omega arith)
  index_among (x ∷ xs) zero h = here
  index_among (x ∷ xs) (suc i) h = there (index_among xs i (omega arith))

  -- where no element stands again, one index at most has it, and the other way round
  pub distinct_index : {xs : List A} → Distinct xs → (i j : ℕ) → i < length xs → j < length xs →
      get_or xs i d ≡ get_or xs j d → i ≡ j
  distinct_index Distinct.none i j h k e = absurd (omega arith)
  distinct_index (Distinct.more {xs = xs} n s) zero zero h k e = refl
  distinct_index (Distinct.more {xs = xs} n s) zero (suc j) h k e =
      absurd (n (rw e (index_among xs j (omega arith))))
  distinct_index (Distinct.more {xs = xs} n s) (suc i) zero h k e =
      absurd (n (rw e at (index_among xs i (omega arith))))
  distinct_index (Distinct.more {xs = xs} n s) (suc i) (suc j) h k e =
      ap suc (distinct_index s i j (omega arith) (omega arith) e)

  pub index_distinct : (xs : List A) →
      ((i j : ℕ) → i < length xs → j < length xs → get_or xs i d ≡ get_or xs j d → i ≡ j) → Distinct xs
  index_distinct [] f = Distinct.none
  index_distinct (x ∷ xs) f =
      let fresh : Among x xs → ⊥ =
      λ a. let (i, h, e) = among_index a in omega (arith, f (suc i) 0 (omega arith) (omega arith) e) in
      Distinct.more fresh (index_distinct xs (λ i j h k e. omega (arith, f (suc i) (suc j) (omega arith) (omega arith) e)))

-- where a byte string was found: in the list, that byte string, and none before it
pub index_is : (t : List ℕ) (i : ℕ) (xs : List (List ℕ)) (k : ℕ) → index_of t i xs ≡ Some k →
    (i ≤ k) × (k < i + length xs) × (get_or xs (k - i) [] ≡ t)
unfolding index_of
index_is t i [] k e = no_index (sym e)
index_is t i (x ∷ xs) k e = first (same_bytes x t) refl (index_is t (i + 1) xs k)
  where
    first : (b : Bool) → same_bytes x t ≡ b →
        (index_of t (i + 1) xs ≡ Some k → (i + 1 ≤ k) × (k < i + 1 + length xs) × (get_or xs (k - (i + 1)) [] ≡ t)) →
        (i ≤ k) × (k < i + length (x ∷ xs)) × (get_or (x ∷ xs) (k - i) [] ≡ t)
    first true q rest =
        let f : ◌≡◌ {A = Option ℕ} (Some i) (Some k) = rw q at e in
        let g : i ≡ k = cc in
        let z : k - i ≡ 0 = omega arith in
        (omega arith, omega arith, rw z (same_sound _ _ q))
    first false q rest =
        let (l, m, r) = rest (rw q at e) in
        let z : k - i ≡ suc (k - (i + 1)) = omega arith in
        (omega arith, omega arith, rw z r)

pub index_first : (t : List ℕ) (i : ℕ) (xs : List (List ℕ)) (k : ℕ) → index_of t i xs ≡ Some k →
    (j : ℕ) → i + j < k → get_or xs j [] ≡ t → ⊥
unfolding index_of
index_first t i [] k e j h f = no_index (sym e)
index_first t i (x ∷ xs) k e j h f = first (same_bytes x t) refl j h f (index_first t (i + 1) xs k)
  where
    first : (b : Bool) → same_bytes x t ≡ b → (j : ℕ) → i + j < k → get_or (x ∷ xs) j [] ≡ t →
        (index_of t (i + 1) xs ≡ Some k → (j : ℕ) → i + 1 + j < k → get_or xs j [] ≡ t → ⊥) → ⊥
    first true q j h f rest =
        let g : ◌≡◌ {A = Option ℕ} (Some i) (Some k) = rw q at e in
        let l : i ≡ k = cc in omega arith
    first false q zero h f rest = same_false _ _ q f
    first false q (suc j) h f rest = rest (rw q at e) j (omega arith) f

pub index_none : (t : List ℕ) (i : ℕ) (xs : List (List ℕ)) → index_of t i xs ≡ None → Among t xs → ⊥
unfolding index_of
index_none t i (x ∷ xs) e here = no_index (rw (same_true refl) at e)
index_none t i (x ∷ xs) e (there a) = first (same_bytes x t) refl (λ f. index_none t (i + 1) xs f a)
  where
    first : (b : Bool) → same_bytes x t ≡ b → (index_of t (i + 1) xs ≡ None → ⊥) → ⊥
    first true q rest = no_index (rw q at e)
    first false q rest = rest (rw q at e)
index_none t i [] e x' = elim x' [ ]

-- where an index was found, and where none
pub found_is : (f : Option ℕ) → is_some f ≡ true → (k : ℕ) × (f ≡ Some k)
found_is (Some k) e = (k, refl)
found_is None e = not_both e refl

pub found_not : (f : Option ℕ) → is_some f ≡ false → f ≡ None
found_not (Some k) e = not_both refl e
found_not None e = refl

module _ (t : List ℕ) (i : ℕ) (xs : List (List ℕ)) where
  pub found_among : is_some (index_of t i xs) ≡ true → Among t xs
  found_among e =
      let (k, f) = found_is (index_of t i xs) e in
      let (l, m, g) = index_is t i xs k f in
      rw g at (index_among [] xs (k - i) (omega arith))

  pub among_found : Among t xs → is_some (index_of t i xs) ≡ true
  among_found a = told (index_of t i xs) refl
    where
      told : (f : Option ℕ) → index_of t i xs ≡ f → is_some (index_of t i xs) ≡ true
      told (Some k) e = rw e
      told None e = absurd (index_none t i xs e a)

  pub found_exactly : (is_some (index_of t i xs) ≡ true) ↔ Among t xs
  found_exactly = (found_among, among_found)

  -- the same of what is not there
  pub unfound_apart : is_some (index_of t i xs) ≡ false → Among t xs → ⊥
  unfound_apart e a = not_both (among_found a) e

  pub apart_unfound : (Among t xs → ⊥) → is_some (index_of t i xs) ≡ false
  apart_unfound n = told (is_some (index_of t i xs)) refl
    where
      told : (b : Bool) → is_some (index_of t i xs) ≡ b → is_some (index_of t i xs) ≡ false
      told true q = absurd (n (found_among q))
      told false q = q

pub repeats_distinct : (xs : List (List ℕ)) → repeats xs ≡ false → Distinct xs
unfolding repeats
repeats_distinct [] e = Distinct.none
repeats_distinct (x ∷ xs) e = first (is_some (index_of x 0 xs)) refl (repeats_distinct xs)
  where
    first : (b : Bool) → is_some (index_of x 0 xs) ≡ b → (repeats xs ≡ false → Distinct xs) → Distinct (x ∷ xs)
    first true q rest = not_both refl (rw q at e)
    first false q rest = Distinct.more (unfound_apart x 0 xs q) (rest (rw q at e))

pub distinct_repeats : {xs : List (List ℕ)} → Distinct xs → repeats xs ≡ false
unfolding repeats
distinct_repeats Distinct.none = refl
distinct_repeats (Distinct.more {x = x} {xs = xs} n s) = rw (apart_unfound x 0 xs n) (distinct_repeats s)

pub repeats_exactly : (xs : List (List ℕ)) → (repeats xs ≡ false) ↔ Distinct xs
repeats_exactly xs = (repeats_distinct xs, distinct_repeats)
