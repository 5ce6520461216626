-- Items one after the other: the step over an item.
use Rattle.std.specs.Prelude.{Option, Some}
use Prim.Native.Nat.{ℕ, suc, ◌+◌, ◌-◌, ◌<◌}
use mathlib.Core.Path.{◌≡◌}
use mathlib.Core.List.{List}
use native.Mathlib.Omega.{arith}
use Rattle.manifest_shape.specs.Shape.{item_end, items_end}
use Rattle.manifest_shape.specs.declared.parts.Kind.{Kind}

-- after k items there are n - k left
pub items_step : (s : List ℕ) (kind : Kind) (n k p : ℕ) → k < n → {x : Option ℕ} {q : ℕ} → x ≡ item_end s kind p → x ≡ Some q →
    items_end s kind (n - k) p ≡ items_end s kind (n - (k + 1)) q
unfolding items_end
items_step s kind n k p h e f = let m : n - k ≡ suc (n - (k + 1)) = omega arith in rw (m, ← e, f)
