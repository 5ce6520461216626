-- What the seven rules give has a cost, and just one: by the derivations.
use Prim.Native.Nat.{ℕ}
use mathlib.Core.Path.{◌≡◌, refl}
use Rattle.calculus.specs.Tree.{Tree}
use Rattle.calculus.specs.BigStep.{◌·◌⇓◌, rule1, rule2, rule3, rule4, rule5, rule6, rule7}
use Rattle.calculus.specs.BigStep.{Costs, cost1, cost2, cost3, cost4, cost5, cost6, cost7}
use Rattle.calculus.specs.Laws.{CostsExactly, OneCost}

-- a derivation has a cost
cost : {f x t : Tree} → f · x ⇓ t → (n : ℕ) × (m : ℕ) × (k : ℕ) × Costs f x t n m k
cost rule1 = (_, _, _, cost1)
cost rule2 = (_, _, _, cost2)
cost rule3 = (_, _, _, cost3)
cost (rule4 d e g) = (_, _, _, cost4 (cost d).3 (cost e).3 (cost g).3)
cost rule5 = (_, _, _, cost5)
cost (rule6 d) = (_, _, _, cost6 (cost d).3)
cost (rule7 d e) = (_, _, _, cost7 (cost d).3 (cost e).3)

-- what has a cost is derived
costed : {f x t : Tree} {n m k : ℕ} → Costs f x t n m k → f · x ⇓ t
costed cost1 = rule1
costed cost2 = rule2
costed cost3 = rule3
costed (cost4 d e g) = rule4 (costed d) (costed e) (costed g)
costed cost5 = rule5
costed (cost6 d) = rule6 (costed d)
costed (cost7 d e) = rule7 (costed d) (costed e)

pub costs_exactly : CostsExactly
costs_exactly f x t = (λ d. cost d, λ c. costed c.3)

-- two costs of one application are the same, and so are the trees
same : {f x t t' : Tree} {n m k n' m' k' : ℕ}
    → Costs f x t n m k → Costs f x t' n' m' k' → (t ≡ t') × (n ≡ n') × (m ≡ m') × (k ≡ k')
same cost1 cost1 = (refl, refl, refl, refl)
same cost2 cost2 = (refl, refl, refl, refl)
same cost3 cost3 = (refl, refl, refl, refl)
same (cost4 d e g) (cost4 d' e' g') =
    let (u, n₁, m₁, k₁) = same d d' in
    let (v, n₂, m₂, k₂) = same e e' in
    let (t, n₃, m₃, k₃) = same g (rw (← u, ← v) at g') in
    (t, cc, cc, cc)
same cost5 cost5 = (refl, refl, refl, refl)
same (cost6 d) (cost6 d') =
    let (t, n, m, k) = same d d' in
    (t, cc, m, k)
same (cost7 d e) (cost7 d' e') =
    let (w, n₁, m₁, k₁) = same d d' in
    let (t, n₂, m₂, k₂) = same e (rw (← w) at e') in
    (t, cc, cc, cc)

pub one_cost : OneCost
one_cost f x t t' n m k n' m' k' c d = same c d
