-- What the tests of a manifest's exports mean: no export has a fault exactly where each is fine.
use Prim.Native.Nat.{◌≤◌}
use mathlib.Core.Path.{◌≡◌, refl}
use mathlib.Core.List.{List}
use mathlib.Core.Bool.{false}
use mathlib.Core.Logic.{◌↔◌}
use lib.ListN.{length}
use Rattle.lists.specs.Among.{Among, Distinct}
use Rattle.lists.proofs.Same.{same_exactly}
use Rattle.lists.proofs.Index.{repeats_exactly}
use Rattle.lists.proofs.Some.{none_exactly, again_repeats}
use Rattle.lists.proofs.Tests.{not_exactly}
use Rattle.sizes.specs.Sizes.{name_size}
use Rattle.sizes.proofs.Within.{within_exactly}
use Rattle.manifest.specs.declared.exports.ExportFault.TheVariants.{Abi, NameSize, NameTwice}
use Rattle.manifest.specs.Content.{Export, names}
use Rattle.manifest.specs.Judged.{abi_name, export_faulty, some_export}

pub abis_exactly : (es : List Export) → (some_export Abi es ≡ false) ↔ ((e : Export) → Among e es → e.abi ≡ abi_name)
unfolding some_export export_faulty
abis_exactly = none_exactly (export_faulty Abi) _ (λ e rest. not_exactly _ (same_exactly e.abi abi_name))

pub sizes_exactly : (es : List Export) → (some_export NameSize es ≡ false) ↔
    ((e : Export) → Among e es → (name_size.least ≤ length e.name) × (length e.name ≤ name_size.most))
unfolding some_export export_faulty
sizes_exactly = none_exactly (export_faulty NameSize) _ (λ e rest. not_exactly _ (within_exactly name_size (length e.name)))

pub names_exactly : (es : List Export) → (some_export NameTwice es ≡ false) ↔ Distinct (names es)
unfolding some_export export_faulty names
names_exactly es = rw (again_repeats (λ e. e.name) names refl (λ e rest. refl) es) (repeats_exactly (names es))
