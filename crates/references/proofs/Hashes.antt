-- Laws of the hashes that a manifest's references name: where these stand, whether one is lost, and that they are the hashes of
-- the roots and of the exports, as many as these.
use Rattle.std.specs.Prelude.{map, is_some, not, ◌||◌}
use Rattle.std.specs.List.{list_any}
use Prim.Native.Nat.{ℕ, suc, ◌+◌}
use mathlib.Core.Path.{◌≡◌, refl, ap}
use mathlib.Core.List.{List, [], ◌∷◌}
use mathlib.Core.Bool.{Bool, true, false, cond}
use lib.ListN.{length}
use Rattle.wire.specs.Wire.{number_at}
use Rattle.lists.specs.Lists.{index_of}
use Rattle.manifest.specs.Content.{Root, Export, reference_end, reference_hash, root_past, export_past, root_at, export_at, roots_at, exports_at, places_at}
use Rattle.manifest.specs.declared.listed.Reference.{Reference}
use Rattle.manifest.proofs.Lists.{counted_all}
use Rattle.nodes.specs.Records.{NodeRecord, hashes, lacks}
use Rattle.references.specs.References.{root_hashes, export_hashes, hashes_at}

module _ (m : List ℕ) (kind : Reference) where
  pub hashes_there : (at : ℕ) → hashes_at m kind at ≡ map (reference_hash m kind) (places_at m kind at)
  unfolding hashes_at places_at
  hashes_there at =
      counted_all (reference_hash m kind) (map (reference_hash m kind)) refl (λ x xs. refl) (reference_end m kind) (λ p. p)
      (number_at 4 m at) (at + 4)

  pub lost_there : (rs : List NodeRecord) (ps : List ℕ) →
      list_any (λ p. not (is_some (index_of (reference_hash m kind p) 0 (hashes rs)))) ps ≡ lacks rs (map (reference_hash m kind) ps)
  unfolding lacks
  lost_there rs [] = refl
  lost_there rs (p ∷ ps) = first (is_some (index_of (reference_hash m kind p) 0 (hashes rs))) (lost_there rs ps)
    where
      first : {a b : Bool} (t : Bool) → a ≡ b → (not t || a) ≡ cond t b true
      first true rest = rest
      first false rest = refl

module _ (m : List ℕ) (at : ℕ) where
  pub hashes_roots : hashes_at m Reference.Root at ≡ root_hashes (roots_at m at)
  unfolding hashes_at reference_end reference_hash root_hashes roots_at
  hashes_roots =
      counted_all (λ (r : Root). r.hash) root_hashes refl (λ x xs. refl) (root_past m) (root_at m) (number_at 4 m at) (at + 4)

  pub hashes_exports : hashes_at m Reference.Export at ≡ export_hashes (exports_at m at)
  unfolding hashes_at reference_end reference_hash export_hashes exports_at
  hashes_exports =
      counted_all (λ (e : Export). e.hash) export_hashes refl (λ x xs. refl) (export_past m) (export_at m) (number_at 4 m at)
      (at + 4)

-- both, for the test of 20
pub ruleset listing = (hashes_roots, hashes_exports)

pub export_hashes_length : (es : List Export) → length (export_hashes es) ≡ length es
unfolding export_hashes
export_hashes_length [] = refl
export_hashes_length (e ∷ es) = ap suc (export_hashes_length es)
