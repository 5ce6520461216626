-- What it says that 20 does not hold.
use Prim.Native.Nat.{ℕ}
use mathlib.Core.Path.{◌≡◌, refl}
use mathlib.Core.List.{List}
use mathlib.Core.Bool.{false}
use mathlib.Core.Logic.Iff
use mathlib.Core.Logic.{◌↔◌}
use Rattle.lists.specs.Among.{Among}
use Rattle.manifest.specs.Content.{Root, Export}
use Rattle.manifest.specs.Judged.{roots_of, exports_of}
use Rattle.lists.proofs.Some.{any_none, any_more}
use Rattle.nodes.specs.Records.{NodeRecord, hashes, lacks, nodes_of}
use Rattle.nodes.proofs.FaultTests.{lacks_exactly}
use Rattle.references.specs.References.{root_hashes, export_hashes, unresolved}
use Rattle.soundness.proofs.Each.{each_exactly}

module _ (rs : List NodeRecord) where
  roots_exactly : (xs : List Root) →
      (lacks rs (root_hashes xs) ≡ false) ↔ ((r : Root) → Among r xs → Among r.hash (hashes rs))
  unfolding root_hashes
  roots_exactly xs =
      Iff.trans (lacks_exactly rs _) (each_exactly (λ r. r.hash) root_hashes refl (λ y ys. refl) _ xs)

  exports_exactly : (xs : List Export) →
      (lacks rs (export_hashes xs) ≡ false) ↔ ((e : Export) → Among e xs → Among e.hash (hashes rs))
  unfolding export_hashes
  exports_exactly xs =
      Iff.trans (lacks_exactly rs _) (each_exactly (λ e. e.hash) export_hashes refl (λ y ys. refl) _ xs)

pub resolved_exactly : (m s : List ℕ) {rs : List NodeRecord} {roots : List Root} {exports : List Export} →
    nodes_of s ≡ rs → roots_of m ≡ roots → exports_of m ≡ exports →
    (unresolved m s ≡ false) ↔ (((r : Root) → Among r roots → Among r.hash (hashes rs)) ×
    ((e : Export) → Among e exports → Among e.hash (hashes rs)))
unfolding unresolved
resolved_exactly m s {rs} {roots} {exports} n r e =
    let tests = any_more _ (roots_exactly rs roots) (any_more _ (exports_exactly rs exports) any_none) in
    rw (n, r, e) (λ q. let (a, (b, _)) = tests.0 q in (a, b), λ h. tests.1 (h.0, (h.1, tt)))
