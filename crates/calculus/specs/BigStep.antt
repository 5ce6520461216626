-- The calculus without a machine: f applied to x is t. One constructor for each of the seven rules; arguments first,
-- left before right.
use Rattle.std.specs.Prelude.{ℕ, ◌+◌, max}
use Rattle.calculus.specs.Tree.{Tree, leaf, stem, fork}

infix 4 ◌·◌⇓◌
pub data ◌·◌⇓◌ : Tree → Tree → Tree → Type 0 where
  rule1 : {x : Tree} → leaf · x ⇓ stem x
  rule2 : {a x : Tree} → stem a · x ⇓ fork a x
  rule3 : {a x : Tree} → fork leaf a · x ⇓ a
  rule4 : {a b x u v t : Tree} → a · x ⇓ u → b · x ⇓ v → u · v ⇓ t → fork (stem a) b · x ⇓ t
  rule5 : {a b c : Tree} → fork (fork a b) c · leaf ⇓ a
  rule6 : {a b c u t : Tree} → b · u ⇓ t → fork (fork a b) c · stem u ⇓ t
  rule7 : {a b c u v w t : Tree} → c · u ⇓ w → w · v ⇓ t → fork (fork a b) c · fork u v ⇓ t

-- The same with its cost: the steps, which are the rules used, the nodes made, and the most jobs that wait at once. One waits
-- while a and b are applied by rule 4, and while c is by rule 7.
pub data Costs : Tree → Tree → Tree → ℕ → ℕ → ℕ → Type 0 where
  cost1 : {x : Tree} → Costs leaf x (stem x) 1 1 0
  cost2 : {a x : Tree} → Costs (stem a) x (fork a x) 1 1 0
  cost3 : {a x : Tree} → Costs (fork leaf a) x a 1 0 0
  cost4 : {a b x u v t : Tree} {n₁ n₂ n₃ m₁ m₂ m₃ k₁ k₂ k₃ : ℕ} → Costs a x u n₁ m₁ k₁ → Costs b x v n₂ m₂ k₂ →
      Costs u v t n₃ m₃ k₃ → Costs (fork (stem a) b) x t (1 + (n₁ + (n₂ + n₃))) (m₁ + (m₂ + m₃)) (max (1 + k₁) (max (1 + k₂) k₃))
  cost5 : {a b c : Tree} → Costs (fork (fork a b) c) leaf a 1 0 0
  cost6 : {a b c u t : Tree} {n m k : ℕ} → Costs b u t n m k → Costs (fork (fork a b) c) (stem u) t (1 + n) m k
  cost7 : {a b c u v w t : Tree} {n₁ n₂ m₁ m₂ k₁ k₂ : ℕ} → Costs c u w n₁ m₁ k₁ → Costs w v t n₂ m₂ k₂ →
      Costs (fork (fork a b) c) (fork u v) t (1 + (n₁ + n₂)) (m₁ + m₂) (max (1 + k₁) k₂)
