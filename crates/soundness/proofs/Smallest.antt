-- A table of refusals whose rows mean that their numbers apply answers the smallest number that applies.
use Prim.Native.Nat.{ℕ, ◌+◌, ◌≤◌, ◌<◌}
use mathlib.Core.Path.{◌≡◌, refl, sym, subst, ◌∙◌}
use mathlib.Core.List.{List, [], ◌∷◌, ◌++◌}
use mathlib.Core.Bool.{Bool, true, false}
use mathlib.Core.Logic.Iff
use mathlib.Core.Logic.{◌↔◌}
use native.Mathlib.Omega.{arith}
use native.Mathlib.Decide.{ℕ_discrete, dec_lt}
use lib.ListN.{length}
use Rattle.lists.specs.Among.{Among, here, there}
use Rattle.lists.proofs.Same.{not_both}
use Rattle.refusals.specs.Refusals.{Row, answer, Clear, none, more, Ascends}
use Rattle.refusals.proofs.Rows.{row_holds_lem, row_passes}
use Rattle.refusals.proofs.Laws.{above_all}
use Rattle.soundness.specs.Applies.{Smallest}

-- a row holds exactly where its number applies, where no row before it holds
abbrev pub Means : (ℕ → Type 0) → List Row → Type 0
Means A [] = Unit {0}
Means A (c ∷ cs) = ((c.holds ≡ true) ↔ A c.number) × (c.holds ≡ false → Means A cs)

-- what a row means, and what the rows after it mean where it does not hold
infixr 5 ◌else◌
abbrev pub ◌else◌ : {A B : Type 0} → A → B → A × B
a else b = (a, b)

-- where two things apply alike, the smallest number is the same
smallest_to : {A B : ℕ → Type 0} {n : ℕ} → ((m : ℕ) → A m ↔ B m) → Smallest A n → Smallest B n
smallest_to {n = n} f s = record { applies = (f n).0 s.applies; smallest = λ m l x. s.smallest m l ((f m).1 x) }

pub smallest_alike : {A B : ℕ → Type 0} → ((n : ℕ) → A n ↔ B n) → (n : ℕ) → Smallest A n ↔ Smallest B n
smallest_alike f n = (smallest_to f, smallest_to (λ m. Iff.symm (f m)))

-- two answers are one where, but for 0, they are exactly what is so
pub one_number : {S T : ℕ → Type 0} {a b : ℕ} → ((n : ℕ) → S n ↔ T n) →
    ((n : ℕ) → ((a ≡ n) × (n ≡ 0 → ⊥)) ↔ S n) → ((n : ℕ) → ((b ≡ n) × (n ≡ 0 → ⊥)) ↔ T n) → a ≡ b
one_number {a = a} {b = b} same f g = elim (ℕ_discrete a 0) [
  | no k ↦ sym ((g a).1 ((same a).0 ((f a).0 (refl, k)))).0
  | yes e ↦ elim (ℕ_discrete b 0) [
    | no k ↦ ((f b).1 ((same b).1 ((g b).0 (refl, k)))).0
    | yes q ↦ e ∙ sym q
  ]
]

-- the rows mean another thing that applies where it does
pub means_map : (A B : ℕ → Type 0) (cs : List Row) → ((c : Row) → Among c cs → A c.number ↔ B c.number) →
    Means A cs → Means B cs
means_map A B [] f m = tt
means_map A B (c ∷ cs) f m =
    (Iff.trans m.0 (f c here), λ q. means_map A B cs (λ d a. f d (there a)) (m.1 q))

module _ (A : ℕ → Type 0) where
  pub means_parts : (cs ds : List Row) → Means A cs → (Clear cs → Means A ds) → Means A (cs ++ ds)
  means_parts [] ds m f = f none
  means_parts (c ∷ cs) ds m f = (m.0, λ q. means_parts cs ds (m.1 q) (λ h. f (more q h)))

  -- no number of the table applies where it answers 0
  pub none_applies : (k : ℕ) (cs : List Row) → Ascends k cs → Means A cs → answer cs ≡ 0 →
      (c : Row) → Among c cs → A c.number → ⊥
  none_applies k (c ∷ cs) u m e d a x = test c.holds refl (none_applies c.number cs u.1)
    where
      test : (b : Bool) → c.holds ≡ b →
          (Means A cs → answer cs ≡ 0 → (d : Row) → Among d cs → A d.number → ⊥) → ⊥
      test true q rest = let z : c.number ≡ 0 = sym (row_holds_lem c cs q) ∙ e in omega (arith, u.0)
      test false q rest = go a x
        where
          go : {d : Row} → Among d (c ∷ cs) → A d.number → ⊥
          go here x = not_both (m.0.1 x) q
          go {d} (there b) x = rest (m.1 q) (sym (row_passes c cs q) ∙ e) d b x
  none_applies k [] u m e d a x = elim a [ ]

  -- the answer applies, and no smaller number of the table does
  pub answer_applies : (k : ℕ) (cs : List Row) → Ascends k cs → Means A cs → (answer cs ≡ 0 → ⊥) →
      A (answer cs) × ((c : Row) → Among c cs → c.number < answer cs → A c.number → ⊥)
  unfolding answer
  answer_applies k [] u m n = absurd (n refl)
  answer_applies k (c ∷ cs) u m n = test c.holds refl (answer_applies c.number cs u.1)
    where
      test : (b : Bool) → c.holds ≡ b →
          (Means A cs → (answer cs ≡ 0 → ⊥) →
          A (answer cs) × ((d : Row) → Among d cs → d.number < answer cs → A d.number → ⊥)) →
          A (answer (c ∷ cs)) × ((d : Row) → Among d (c ∷ cs) → d.number < answer (c ∷ cs) → A d.number → ⊥)
      test true q rest =
          let e = row_holds_lem c cs q in
          (subst A (sym e) (m.0.0 q), λ d a l x. go e a l)
        where
          go : {d : Row} → answer (c ∷ cs) ≡ c.number → Among d (c ∷ cs) → d.number < answer (c ∷ cs) → ⊥
          go e here l = omega arith
          go {d} e (there b) l = omega (arith, above_all cs c.number u.1 d b)
      test false q rest =
          let e = row_passes c cs q in
          let (x, low) = rest (m.1 q) (λ z. n (e ∙ z)) in
          (subst A (sym e) x, λ d a l y. go e low a l y)
        where
          go : {d : Row} → answer (c ∷ cs) ≡ answer cs →
              ((d : Row) → Among d cs → d.number < answer cs → A d.number → ⊥) →
              Among d (c ∷ cs) → d.number < answer (c ∷ cs) → A d.number → ⊥
          go e low here l y = not_both (m.0.1 y) q
          go {d} e low (there b) l y = low d b (omega arith) y

-- the numbers of the rows are the next one after k, the one after that, and so on
abbrev pub Consecutive : ℕ → List Row → Type 0
Consecutive k [] = Unit {0}
Consecutive k (c ∷ cs) = (c.number ≡ k + 1) × Consecutive (k + 1) cs

row_of : (k : ℕ) (cs : List Row) → Consecutive k cs → (n : ℕ) → k < n → n ≤ k + length cs →
    (c : Row) × Among c cs × (c.number ≡ n)
row_of k [] u n l h = absurd (omega arith)
row_of k (c ∷ cs) u n l h = elim (ℕ_discrete c.number n) [
  | yes e ↦ (c, here, e)
  | no d ↦ let (x, a, e) = row_of (k + 1) cs u.1 n (omega (arith, d)) (omega arith) in (x, there a, e)
]

first_bound : (k : ℕ) (cs : List Row) → Consecutive k cs → answer cs ≤ k + length cs
unfolding answer
first_bound k [] u = omega arith
first_bound k (c ∷ cs) u = test c.holds refl (first_bound (k + 1) cs u.1)
  where
    test : (b : Bool) → c.holds ≡ b → answer cs ≤ k + 1 + length cs → answer (c ∷ cs) ≤ k + length (c ∷ cs)
    test true q h = rw (row_holds_lem c cs q) (omega (arith, u.0))
    test false q h = rw (row_passes c cs q) (omega arith)

module _ (A : ℕ → Type 0) (some : (n : ℕ) → A n → 0 < n) (cs : List Row) (up : Ascends 0 cs) (all : Consecutive 0 cs)
    (means : Means A cs) where
  applies_not : answer cs ≡ 0 → (n : ℕ) → n ≤ length cs → A n → ⊥
  applies_not e n h x =
      let (c, a, q) = row_of 0 cs all n (some n x) (omega arith) in
      none_applies A 0 cs up means e c a (subst A (sym q) x)

  smaller_not : (answer cs ≡ 0 → ⊥) → (m : ℕ) → m < answer cs → A m → ⊥
  smaller_not z m l x =
      let (c, a, q) = row_of 0 cs all m (some m x) (omega (arith, first_bound 0 cs all)) in
      (answer_applies A 0 cs up means z).1 c a (omega arith) (subst A (sym q) x)

  -- the table answers a number, and not 0, exactly where it is the smallest that applies and one of the table's
  pub first_exactly : (n : ℕ) →
      ((answer cs ≡ n) × (n ≡ 0 → ⊥)) ↔ (Smallest A n × (n ≤ length cs))
  first_exactly n = (forth, back)
    where
      forth : (answer cs ≡ n) × (n ≡ 0 → ⊥) → Smallest A n × (n ≤ length cs)
      forth (e, z) =
          let some-row : answer cs ≡ 0 → ⊥ = λ q. z (sym e ∙ q) in (
            record {
              applies = subst A e (answer_applies A 0 cs up means some-row).0;
              smallest = λ m l x. smaller_not some-row m (omega arith) x;
            },
            omega (arith, first_bound 0 cs all),
          )

      back : Smallest A n × (n ≤ length cs) → (answer cs ≡ n) × (n ≡ 0 → ⊥)
      back (s, h) = elim (ℕ_discrete (answer cs) 0) [
        | yes e ↦ absurd (applies_not e n h s.applies)
        | no z ↦ elim (dec_lt (answer cs) n) [
          | yes l ↦ absurd (s.smallest (answer cs) l (answer_applies A 0 cs up means z).0)
          | no l ↦ elim (dec_lt n (answer cs)) [
            | yes g ↦ absurd (smaller_not z n g s.applies)
            | no g ↦ (omega (arith, l, g), λ e. omega (arith, some n s.applies))
          ]
        ]
      ]

  -- and 0 exactly where none of the table's applies
  pub first_none : (answer cs ≡ 0) ↔ ((n : ℕ) → n ≤ length cs → A n → ⊥)
  first_none = (applies_not, back)
    where
      back : ((n : ℕ) → n ≤ length cs → A n → ⊥) → answer cs ≡ 0
      back f = elim (ℕ_discrete (answer cs) 0) [
        | yes e ↦ e
        | no z ↦ absurd (f (answer cs) (omega (arith, first_bound 0 cs all)) (answer_applies A 0 cs up means z).0)
      ]
