-- Laws of the exports by where they stand: what is read there, one by its name, and what is asked of the first and of the rest.
use Rattle.std.specs.Prelude.{Some, map}
use Rattle.std.specs.List.{position_from}
use Prim.Native.Nat.{ℕ, ◌+◌}
use mathlib.Core.Path.{◌≡◌, refl}
use mathlib.Core.List.{List, [], ◌∷◌}
use mathlib.Core.Bool.{Bool, true, false}
use Rattle.wire.specs.Wire.{number_at}
use Rattle.lists.specs.Lists.{same_bytes, index_of, some_of}
use Rattle.manifest.specs.declared.listed.Reference.{Reference}
use Rattle.manifest.specs.Content.{reference_end, export_past, text_at, export_at, exports_at, places_at, names}
use Rattle.manifest.specs.Judged.{export_faulty, some_export}
use Rattle.manifest.specs.declared.exports.ExportFault.{ExportFault}
use Rattle.manifest.proofs.Lists.{counted_all}

module _ (s : List ℕ) where
  pub exports_there : (at : ℕ) → exports_at s at ≡ map (export_at s) (places_at s Reference.Export at)
  unfolding exports_at places_at reference_end
  exports_there at =
      counted_all (export_at s) (map (export_at s)) refl (λ x xs. refl) (export_past s) (λ p. p) (number_at 4 s at) (at + 4)

  pub named_there : (t ps : List ℕ) (i : ℕ) →
      position_from (λ p. same_bytes (text_at s (Some p)) t) i ps ≡ index_of t i (names (map (export_at s) ps))
  unfolding names index_of
  named_there t [] i = refl
  named_there t (p ∷ ps) i = rw (named_there t ps (i + 1))

  -- ps are a place and those after it; b stands for the result of the call that asks the first
  module _ (fault : ExportFault) {ps rest : List ℕ} {p : ℕ} (first : ps ≡ p ∷ rest) {b : Bool}
      (test : b ≡ export_faulty fault (export_at s p) (map (export_at s) rest)) where
    pub fault_here : b ≡ true → some_export fault (map (export_at s) ps) ≡ true
    unfolding some_export some_of
    fault_here h = rw (first, ← test, h)

    pub fault_later : b ≡ false → some_export fault (map (export_at s) ps) ≡ some_export fault (map (export_at s) rest)
    unfolding some_export some_of
    fault_later h = rw (first, ← test, h)

  pub fault_none : (fault : ExportFault) {ps : List ℕ} → ps ≡ [] → some_export fault (map (export_at s) ps) ≡ false
  unfolding some_export some_of
  fault_none fault none = rw none

-- what a turn of the loop that looks for a fault is
pub ruleset looking = (exports_there, fault_here, fault_later, fault_none)
