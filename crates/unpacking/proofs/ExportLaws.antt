-- Laws of the exports of a manifest that has the stated shape: how many there are, and where their hashes stand.
use Rattle.std.specs.Prelude.{Some}
use Prim.Native.Nat.{ℕ, ◌+◌, ◌≤◌}
use mathlib.Core.Path.{◌≡◌, refl}
use mathlib.Core.List.{List}
use lib.ListN.{length}
use Rattle.wire.proofs.Spans.{number_value}
use Rattle.manifest_shape.specs.declared.Layout.{Layout}
use Rattle.manifest_shape.specs.Shape.{manifest_of}
use Rattle.manifest.specs.Content.{count_at}
use Rattle.manifest.specs.Judged.{exports_of}
use Rattle.manifest.proofs.Counted.{exports_laid}
use Rattle.manifest.specs.declared.listed.Reference.TheVariants.{Export}
use Rattle.references.specs.References.{export_hashes, hashes_from, hashes_at}
use Rattle.references.proofs.Hashes.{hashes_exports}
use Rattle.unpacking.specs.Ready.{ListedIn}

module _ (m : List ℕ) {l : Layout} (e : manifest_of m ≡ Some l) where
  pub exports_inside : l.exports + 4 ≤ length m
  exports_inside = (number_value m l.exports 4 refl (exports_laid m e).number).0

  hashes_are : hashes_from m Export (count_at m l.exports) (l.exports + 4) ≡ export_hashes (exports_of m)
  unfolding exports_of hashes_at
  hashes_are = rw e (rw (exports_laid m e).number at (hashes_exports m l.exports))

  -- n stands for their count, as the call answered it
  pub exports_listed : {n : ℕ} → n ≡ count_at m l.exports → ListedIn m (record { count = n; at = l.exports + 4 })
  exports_listed g = rw g (record { all = (exports_laid m e).all; hashes = hashes_are; few = (exports_laid m e).few })
