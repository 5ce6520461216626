-- What can be decided, and what follows where it is not so that each thing of a list is as it should be: one of them is not.
use Rattle.std.specs.Prelude.{is_some}
use Prim.Native.Nat.{ℕ, ◌≤◌, ◌<◌}
use mathlib.Core.Path.{◌≡◌, refl}
use mathlib.Core.List.{List, [], ◌∷◌}
use mathlib.Core.Bool.{Bool, true, false}
use mathlib.Core.Logic.{◌↔◌, ◌⊎◌, inl, inr, ⊎_elim}
use native.Mathlib.Omega.{arith}
use native.Mathlib.Decide.{dec_le, map_dec}
use Rattle.lists.specs.Lists.{same_bytes, index_of}
use Rattle.lists.specs.Among.{Among, here, there}
use Rattle.lists.proofs.Same.{not_both, same_exactly}
use Rattle.lists.proofs.Index.{found_exactly}

-- a test decides what it means
pub dec_true : {A : Type 0} (b : Bool) → (b ≡ true) ↔ A → Dec A
dec_true true f = yes (f.0 refl)
dec_true false f = no (λ a. not_both (f.1 a) refl)

pub dec_same : (a b : List ℕ) → Dec (a ≡ b)
dec_same a b = dec_true (same_bytes a b) (same_exactly a b)

pub dec_among : (t : List ℕ) (xs : List (List ℕ)) → Dec (Among t xs)
dec_among t xs = dec_true (is_some (index_of t 0 xs)) (found_exactly t 0 xs)

pub dec_both : {A B : Type 0} → Dec A → Dec B → Dec (A × B)
dec_both (yes a) (yes b) = yes (a, b)
dec_both (yes a) (no k) = no (λ h. k h.1)
dec_both (no k) b = no (λ h. k h.0)

pub dec_either : {A B : Type 0} → Dec A → Dec B → Dec (A ⊎ B)
dec_either (yes a) b = yes (inl a)
dec_either (no k) (yes b) = yes (inr b)
dec_either (no k) (no l) = no (λ h. ⊎_elim k l h)

pub dec_where : {A B : Type 0} → Dec A → Dec B → Dec (A → B)
dec_where (yes a) (yes b) = yes (λ _. b)
dec_where (yes a) (no k) = no (λ f. k (f a))
dec_where (no k) b = yes (λ a. absurd (k a))

-- of two things that are not both so, one is not
pub not_both_so : {A B : Type 0} → Dec A → (A × B → ⊥) → (A → ⊥) ⊎ (B → ⊥)
not_both_so (yes a) n = inr (λ b. n (a, b))
not_both_so (no k) n = inl k

-- a number that is not within bounds
pub not_within : (a b n : ℕ) → ((a ≤ n) × (n ≤ b) → ⊥) → (n < a) ⊎ (b < n)
not_within a b n h = elim (dec_le a n) [
  | yes k ↦ elim (dec_le n b) [
    | yes l ↦ absurd (h (k, l))
    | no l ↦ inr (omega (arith, l))
  ]
  | no k ↦ inl (omega (arith, k))
]

-- what is asked only where something holds, and is not so
pub not_where : {A B : Type 0} → Dec A → ((A → B) → ⊥) → A × (B → ⊥)
not_where (yes a) n = (a, λ b. n (λ _. b))
not_where (no k) n = absurd (n (λ a. absurd (k a)))

module _ {A : Type 0} (P : A → Type 0) (dec : (x : A) → Dec (P x)) where
  each_more : {x : A} {xs : List A} → P x → ((y : A) → Among y xs → P y) → (y : A) → Among y (x ∷ xs) → P y
  each_more p f y here = p
  each_more p f y (there a) = f y a

  pub not_each : (xs : List A) → (((x : A) → Among x xs → P x) → ⊥) → (x : A) × Among x xs × (P x → ⊥)
  not_each [] n = absurd (n (λ x a. elim a [ ]))
  not_each (x ∷ xs) n = elim (dec x) [
    | yes p ↦ let (y, a, k) = not_each xs (λ f. n (each_more p f)) in (y, there a, k)
    | no k ↦ (x, here, k)
  ]

  pub dec_each : (xs : List A) → Dec ((x : A) → Among x xs → P x)
  dec_each [] = yes (λ x a. elim a [ ])
  dec_each (x ∷ xs) = elim (dec x) [
    | yes p ↦ map_dec (each_more p) (λ f y a. f y (there a)) (dec_each xs)
    | no k ↦ no (λ f. k (f x here))
  ]

-- a test holds exactly where something applies: the test says that all is fine, which is not so exactly where it applies
pub row_exactly : {F A : Type 0} (b : Bool) → (b ≡ false) ↔ F → ((F → ⊥) → A) → (A → F → ⊥) → (b ≡ true) ↔ A
row_exactly true f g h = (λ _. g (λ x. not_both refl (f.1 x)), λ _. refl)
row_exactly false f g h = (λ e. not_both e refl, λ a. absurd (h a (f.0 refl)))
