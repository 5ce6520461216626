-- The names of exports: as many as there are exports, and short where no export has a faulty one.
use Rattle.std.specs.Prelude.{Option, Some, None}
use Prim.Native.Nat.{ℕ, zero, suc, ◌≤◌}
use mathlib.Core.Path.{◌≡◌, refl}
use mathlib.Core.List.{List, [], ◌∷◌}
use mathlib.Core.Bool.{Bool, true, false, not, cond}
use native.Mathlib.Omega.{arith}
use lib.ListN.{length, get_or}
use Rattle.lists.specs.Lists.{any_of, some_of}
use Rattle.lists.proofs.Same.{not_both}
use Rattle.sizes.specs.Sizes.{within, name_size}
use Rattle.sizes.proofs.Within.{within_exactly}
use Rattle.manifest_shape.specs.declared.Layout.{Layout}
use Rattle.manifest_shape.specs.Shape.{manifest_of}
use Rattle.manifest.specs.declared.exports.ExportFault.TheVariants.{NameSize}
use Rattle.manifest.specs.Content.{Export, exports_at, names}
use Rattle.manifest.specs.Judged.{export_faulty, some_export, misnamed_at, misnamed, exports_of}

pub names_length : (es : List Export) → length (names es) ≡ length es
unfolding names
names_length [] = refl
names_length (e ∷ es) = rw (names_length es)

short_each : (es : List Export) → some_export NameSize es ≡ false → (i : ℕ) →
    length (get_or (names es) i []) ≤ name_size.most
unfolding names some_export some_of export_faulty
short_each [] h i = omega arith
short_each (e ∷ es) h i = go (within name_size (length e.name)) refl h (short_each es) i
  where
    go : (b : Bool) → within name_size (length e.name) ≡ b → cond (not b) true (some_export NameSize es) ≡ false →
        (some_export NameSize es ≡ false → (i : ℕ) → length (get_or (names es) i []) ≤ name_size.most) →
        (i : ℕ) → length (get_or (names (e ∷ es)) i []) ≤ name_size.most
    go true w k rest zero = ((within_exactly name_size (length e.name)).0 w).1
    go true w k rest (suc i) = rest k i
    go false w k rest i = not_both refl k

-- the names of a manifest that 14 does not refuse
pub short_names : (m : List ℕ) → misnamed m ≡ false → (i : ℕ) → length (get_or (names (exports_of m)) i []) ≤ name_size.most
unfolding misnamed misnamed_at any_of exports_of names
short_names m h i = go (manifest_of m) refl
  where
    first : (a b : Bool) → cond a true b ≡ false → a ≡ false
    first true b q = not_both refl q
    first false b q = refl

    go : (x : Option Layout) → manifest_of m ≡ x → length (get_or (names (exports_of m)) i []) ≤ name_size.most
    go (Some l) e = rw e (short_each (exports_at m l.exports) (first _ _ (rw e at h)) i)
    go None e = rw e (omega arith)
