-- The exports of a sound bundle: each has a short name, which the name by index is.
use Prim.Native.Nat.{ℕ, ◌≤◌}
use mathlib.Core.Path.{◌≡◌}
use mathlib.Core.List.{List, []}
use lib.ListN.{length, get_or}
use Rattle.sizes.specs.Sizes.{name_size}
use Rattle.wire.specs.Wire.{span}
use Rattle.wire.specs.declared.Part.{Part}
use Rattle.manifest.specs.Content.{names}
use Rattle.manifest.specs.Judged.{export_place}
use Rattle.manifest.proofs.Names as named
use Rattle.container.specs.Directory.{manifest_section}
use Rattle.bundle.specs.Checks.{refusal}
use Rattle.bundle.specs.Exports.{name_at}
use Rattle.bundle.proofs.Stages.{names_of_all, names_right}
use Rattle.bundle.proofs.ExportsRead.{part_read}
use Rattle.loader.specs.Load.{exports_in}

module _ (file : List ℕ) (clear : refusal file ≡ 0) where
  pub short_names : (i : ℕ) → length (get_or (names (exports_in file)) i []) ≤ name_size.most
  short_names = named.short_names (manifest_section file) (names_right file (names_of_all file clear))

  -- p stands for the part that is the name of an export, as the call answered it
  pub name_at_lem : (i : ℕ) {p : Part} → p ≡ name_at file (export_place (manifest_section file) i) →
      span file p.start p.size ≡ get_or (names (exports_in file)) i []
  name_at_lem i e = part_read file (names_of_all file clear) i e
