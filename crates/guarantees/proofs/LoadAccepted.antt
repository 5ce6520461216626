-- A load is accepted exactly where no check holds, which is where the bundle is sound and fits; any other is refused by the smallest
-- number that applies, and keeps every word.
use Rattle.std.specs.Prelude.{Err}
use Prim.Native.Nat.{ℕ, ◌≤◌, ◌<◌}
use mathlib.Core.Path.{◌≡◌, refl, sym, ap, ◌∙◌}
use mathlib.Core.List.{List, [], ◌∷◌}
use mathlib.Core.Bool.{true}
use mathlib.Core.Logic.{◌↔◌}
use native.Mathlib.Omega.{arith}
use native.Mathlib.Decide.{ℕ_discrete}
use lib.ListN.{length}
use lib.IntN.{ℤ, pos}
use Rattle.lists.specs.Among.{Among, here, there}
use Rattle.lists.proofs.Same.{not_both}
use Rattle.lists.proofs.Tests.{below_exactly}
use Rattle.table.proofs.BaseLaws.{from_inside}
use Rattle.manifest.specs.Judged.{exports_of}
use Rattle.nodes.specs.Records.{nodes_of}
use Rattle.container.specs.Directory.{manifest_section, nodes_section}
use Rattle.bundle.specs.Checks.{manifest_checks, node_checks, name_checks, checks}
use Rattle.refusals.specs.Refusals.{Row, Ascends}
use Rattle.container.specs.Checks.{header_checks, directory_checks, container_checks}
use Rattle.soundness.specs.Sound.{Sound}
use Rattle.soundness.specs.Applies.{manifest, nodes, Applies, Smallest}
use Rattle.soundness.proofs.ManifestMeaning.{reads_exports}
use Rattle.soundness.proofs.NodesMeaning.{reads_nodes}
use Rattle.soundness.proofs.File.{false_of, clear_sound, sound_clear}
use Rattle.soundness.proofs.Sections.{described_manifest, sound_nodes, one_nodes, one_exports}
use Rattle.soundness.proofs.Smallest.{Means, ◌else◌, means_parts, means_map, Consecutive, first_exactly}
use Rattle.soundness.proofs.Applies.{bounds, all_means}
use Rattle.loader.specs.Answer.{load_numbers}
use Rattle.loader.specs.Load.{records_in, exports_in, unfit, crowded, load_checks, load_refusal, Loaded, accept, accept_from, load}
use Rattle.guarantees.specs.Load.{Loadable, load_numbers_of, LoadAcceptedExactly, LoadNumberExactly}
use Rattle.guarantees.specs.Load.{LoadRefusalKeeps}
use Rattle.guarantees.specs.Load.{LoadApplies, of_file, unfit as at-21, crowded as at-22}
use Rattle.guarantees.proofs.LoadVerdict.{fits_exactly, fitting, unrefused_exactly, load_unrefused, load_refused}

-- the records and exports that are read are the bundle's
pub nodes_read : {file : List ℕ} (sound : Sound file) → nodes_of (nodes_section file) ≡ sound.nodes
nodes_read {file} sound = reads_nodes (nodes_section file) sound.nodes (sound_nodes sound)

pub exports_read : {file : List ℕ} (sound : Sound file) →
    exports_of (manifest_section file) ≡ sound.described.manifest.exports
exports_read {file} sound =
    reads_exports (manifest_section file) sound.described.manifest (described_manifest sound.described)

module _ (file w : List ℕ) (base : ℤ) (out : List ℕ) where
  -- ---- which are accepted

  pub unrefused_loadable : load_refusal file w base out ≡ 0 → Loadable file w base out
  unfolding crowded
  unrefused_loadable e =
      let (clear, r21, r22) = (unrefused_exactly file w base out).0 e in
      let sound = clear_sound file clear in
      record {
        sound = sound;
        fits = λ u. not_both ((fits_exactly w out base (length sound.nodes) 0).0.1 u) (rw (nodes_read sound) at r21);
        space = rw (exports_read sound) at ((below_exactly (length out) _).0 r22);
      }

  loadable_unrefused : Loadable file w base out → load_refusal file w base out ≡ 0
  unfolding crowded
  loadable_unrefused l =
      let sound = l.sound in
      (unrefused_exactly file w base out).1 (
        sound_clear file sound,
        rw (nodes_read sound)
            (false_of _ (λ u. l.fits ((fits_exactly w out base (length sound.nodes) 0).0.0 u))),
        rw (exports_read sound) ((below_exactly (length out) _).1 l.space),
      )

  -- what is accepted at a base in the table is answered with 0
  accept_at : (b : ℕ) → base ≡ pos b → b ≤ length w → (load_numbers_of (accept_from file w base out)).number ≡ 0
  unfolding accept_from accept
  accept_at b e h = rw (e, from_inside w _ _ b h)

  -- the number that is answered
  number_is : (load_numbers_of (load file w base out)).number ≡ load_refusal file w base out
  number_is = elim (ℕ_discrete (load_refusal file w base out) 0) [
    | yes e ↦
        let (b, q, inside, _) = fitting w _ base ((unrefused_exactly file w base out).0 e).1 in
        rw (load_unrefused file w base out e, e) (accept_at b q inside)
    | no n ↦ ap (λ (l : Loaded). (load_numbers_of l).number) (load_refused file w base out n)
  ]

pub accepted_exactly : LoadAcceptedExactly
accepted_exactly file words base exports = (
  λ z. unrefused_loadable file words base exports (sym (number_is file words base exports) ∙ z),
  λ l. number_is file words base exports ∙ loadable_unrefused file words base exports l,
)

-- ---- the smallest number

-- every number of a table is at most m
abbrev AtMost : ℕ → List Row → Type 0
AtMost m [] = Unit {0}
AtMost m (c ∷ cs) = (c.number ≤ m) × AtMost m cs

at_most : {m : ℕ} {c : Row} {cs : List Row} → AtMost m cs → Among c cs → c.number ≤ m
at_most h here = h.0
at_most h (there a) = at_most h.1 a

file_most : (file : List ℕ) → AtMost 20 (checks file)
unfolding checks name_checks container_checks header_checks directory_checks manifest_checks node_checks
file_most file = omega arith

module _ (file w : List ℕ) (base : ℤ) (out : List ℕ) where
  abbrev A : ℕ → Type 0
  A = LoadApplies file w base out

  -- a number that applies is one of 1 to 22
  load_bounds : {n : ℕ} → A n → (0 < n) × (n ≤ 22)
  load_bounds (of_file x) = ((bounds x).0, omega (arith, (bounds x).1))
  load_bounds (at-21 k u) = (omega arith, omega arith)
  load_bounds (at-22 k l) = (omega arith, omega arith)

  -- a number up to 20 applies where it applies to the file
  file_applies : {n : ℕ} → n ≤ 20 → A n → Applies file n
  file_applies h (of_file x) = x
  file_applies h (at-21 k u) = absurd (omega arith)
  file_applies h (at-22 k l) = absurd (omega arith)

  file_means : Means A (checks file)
  file_means =
      means_map (Applies file) A (checks file) (λ c a. (of_file, file_applies (at_most (file_most file) a)))
      (all_means file)

  -- 21 and 22, of a sound file
  module _ (sound : Sound file) where
    row_21 : (unfit w base (length (records_in file)) ≡ true) ↔ A 21
    row_21 = (forth, back)
      where
        forth : unfit w base (length (records_in file)) ≡ true → A 21
        forth q =
            at-21 (nodes sound.section_of_nodes sound.is_nodes)
            (rw (nodes_read sound) at ((fits_exactly w out base (length (records_in file)) 0).0.0 q))

        back : A 21 → unfit w base (length (records_in file)) ≡ true
        back (of_file x) = absurd (omega (arith, (bounds x).1))
        back (at-21 k u) = rw (one_nodes sound.described k) ((fits_exactly w out base _ 0).0.1 u)

    row_22 : (crowded out (length (exports_in file)) ≡ true) ↔ A 22
    row_22 = (forth, back)
      where
        forth : crowded out (length (exports_in file)) ≡ true → A 22
        forth q =
            at-22 (manifest sound.described.section_of_manifest sound.described.is_manifest)
            (rw (exports_read sound) at ((fits_exactly w out base 0 (length (exports_in file))).1.0 q))

        back : A 22 → crowded out (length (exports_in file)) ≡ true
        back (of_file x) = absurd (omega (arith, (bounds x).1))
        back (at-22 k l) = rw (one_exports sound.described k) ((fits_exactly w out base 0 _).1.1 l)

  load_means : Means A (load_checks file w base out)
  unfolding load_checks
  load_means =
      means_parts A (checks file) _ file_means
      (λ h. let sound = clear_sound file h in row_21 sound else λ _. row_22 sound else λ _. tt)

  load_ascends : Ascends 0 (load_checks file w base out)
  unfolding load_checks checks name_checks container_checks header_checks directory_checks manifest_checks node_checks
  load_ascends = omega arith

  load_all : Consecutive 0 (load_checks file w base out)
  unfolding load_checks checks name_checks container_checks header_checks directory_checks manifest_checks node_checks
  load_all = omega arith

  pub smallest_exactly : (n : ℕ) → ((load_refusal file w base out ≡ n) × (n ≡ 0 → ⊥)) ↔ Smallest A n
  unfolding load_refusal load_checks checks name_checks container_checks header_checks directory_checks manifest_checks node_checks
  smallest_exactly n =
      let first =
      first_exactly A (λ k x. (load_bounds x).0) (load_checks file w base out) load_ascends load_all load_means n
      in
      (λ e. (first.0 e).0, λ x. first.1 (x, (load_bounds x.applies).1))

pub load_number_exactly : LoadNumberExactly load
load_number_exactly file words base exports n =
    rw (number_is file words base exports) (smallest_exactly file words base exports n)

pub load_refusal_keeps : LoadRefusalKeeps load
load_refusal_keeps file words words' base exports exports' a e n =
    let r = load_refusal file words base exports in
    let q : (load_numbers a).number ≡ r = sym (ap (λ (l : Loaded). (load_numbers_of l).number) e) ∙ number_is file words base exports in
    let d : r ≡ 0 → ⊥ = λ z. n (q ∙ z) in
    let f = sym (load_refused file words base exports d) ∙ e in
    let g : Err r ≡ a = cc in
    let most = (load_bounds file words base exports ((smallest_exactly file words base exports r).0 (refl, d)).applies).1 in
    (r, most, rw (← g), cc, cc)
