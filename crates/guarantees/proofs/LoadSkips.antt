-- Two files alike in all that is read are loaded alike: the same numbers apply, and what is accepted has the same sections.
use Prim.Native.Nat.{ℕ}
use mathlib.Core.Path.{◌≡◌, sym, ◌∙◌}
use mathlib.Core.List.{List}
use native.Mathlib.Decide.{ℕ_discrete}
use lib.IntN.{ℤ}
use Rattle.container.specs.Directory.{manifest_section, nodes_section}
use Rattle.soundness.specs.Skipped.{ReadAlike}
use Rattle.soundness.proofs.Smallest.{smallest_alike, one_number}
use Rattle.soundness.proofs.Skipped.{alike_back, applies_to, manifest_alike, nodes_alike, same_manifest, same_nodes}
use Rattle.loader.specs.Load.{load_refusal, accept_from, load}
use Rattle.guarantees.specs.Load.{LoadApplies, of_file, unfit, crowded, LoadSkips}
use Rattle.guarantees.proofs.LoadVerdict.{load_unrefused, load_refused}
use Rattle.guarantees.proofs.LoadAccepted.{unrefused_loadable, smallest_exactly}

module _ {file other : List ℕ} (w : List ℕ) (base : ℤ) (out : List ℕ) where
  load_applies_to : ReadAlike file other → {n : ℕ} → LoadApplies file w base out n → LoadApplies other w base out n
  load_applies_to r (of_file x) = of_file (applies_to r x)
  load_applies_to r (unfit k u) = unfit (nodes_alike r k) u
  load_applies_to r (crowded k l) = crowded (manifest_alike r k) l

module _ {file other : List ℕ} (w : List ℕ) (base : ℤ) (out : List ℕ) (r : ReadAlike file other) where
  same_load_refusal : load_refusal file w base out ≡ load_refusal other w base out
  same_load_refusal =
      one_number (smallest_alike (λ n. (load_applies_to w base out r, load_applies_to w base out (alike_back r))))
      (smallest_exactly file w base out) (smallest_exactly other w base out)

  accepted_alike : manifest_section file ≡ manifest_section other → nodes_section file ≡ nodes_section other →
      accept_from file w base out ≡ accept_from other w base out
  unfolding accept_from
  accepted_alike m s = rw (m, s)

  loaded_alike : load file w base out ≡ load other w base out
  loaded_alike = elim (ℕ_discrete (load_refusal file w base out) 0) [
    | yes e ↦
        let f = sym same_load_refusal ∙ e in
        let d = (unrefused_loadable file w base out e).sound.described in
        let g = (unrefused_loadable other w base out f).sound.described in
        rw (load_unrefused file w base out e, load_unrefused other w base out f)
        (accepted_alike (same_manifest r d g) (same_nodes r d g))
    | no n ↦
        rw (load_refused file w base out n, load_refused other w base out (λ e. n (same_load_refusal ∙ e)), same_load_refusal)
  ]

pub load_skips : LoadSkips
load_skips file other words base exports r = loaded_alike words base exports r
