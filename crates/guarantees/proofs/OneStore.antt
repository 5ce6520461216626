-- Each used slot of a sound table holds one tree, and so do they all together.
use Prim.Native.Nat.{ℕ, zero, suc, ◌+◌}
use mathlib.Core.Path.{◌≡◌, refl, ap, sym, ◌∙◌}
use mathlib.Core.List.{List, [], ◌∷◌}
use native.Mathlib.Omega.{arith}
use lib.ListN.{length}
use Rattle.calculus.specs.Tree.{Tree}
use Rattle.table.specs.Sound.{SoundSlots}
use Rattle.table.specs.Holds.{HoldsFrom}
use Rattle.table.proofs.HoldsLaws.{one_tree, sound_holds, zero_leaf}
use Rattle.guarantees.specs.Session.{Holding, OneStore}

module _ (w : List ℕ) (n : ℕ) where
  trees_from : SoundSlots w n → (m k : ℕ) → k + m ≡ n → (ts : List Tree) × (length ts ≡ m) × HoldsFrom w n k ts
  trees_from good zero k e = ([], refl, tt)
  trees_from good (suc m) k e =
      let t = sound_holds w n good k (omega arith) in
      let r = trees_from good m (suc k) (omega arith) in
      (t.0 ∷ r.0, ap suc r.1, (t.1, r.2))

  same_trees : (k : ℕ) (ts us : List Tree) → length ts ≡ length us → HoldsFrom w n k ts → HoldsFrom w n k us → ts ≡ us
  same_trees k [] [] e h g = refl
  same_trees k [] (u ∷ us) e h g = absurd (omega arith)
  same_trees k (t ∷ ts) [] e h g = absurd (omega arith)
  same_trees k (t ∷ ts) (u ∷ us) e h g =
      cc (one_tree w n k t u h.0 g.0, same_trees (suc k) ts us (omega arith) h.1 g.1)

pub one_store : OneStore
one_store w used good some =
    let r = trees_from w used good used 0 (omega arith) in
    let holding : Holding w used r.0
    = record { slots = good; some = some; long = r.1; each = r.2; zero = zero_leaf w used good some }
    in
    (r.0, holding, λ other h. same_trees w used 0 other r.0 (h.long ∙ sym r.1) h.each r.2)
