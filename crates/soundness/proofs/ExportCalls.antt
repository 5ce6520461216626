-- The calls on exports answer what specs/ExportCalls.antt says.
use Rattle.std.specs.Prelude.{Option, Some, None, Err}
use Prim.Native.Nat.{ℕ, ◌≤◌, ◌<◌}
use mathlib.Core.Path.{◌≡◌, refl, sym, ap, subst, ◌∙◌}
use mathlib.Core.List.{List, [], ◌∷◌, ◌++◌}
use native.Mathlib.Nat.{sub-zero}
use native.Mathlib.Omega.{arith}
use native.Mathlib.Decide.{ℕ_discrete, dec_lt}
use borrow.Author.Tests.{ne_eqb}
use lib.ListN.{length, get_or, length-append}
use Rattle.lists.specs.Lists.{index_of}
use Rattle.wire.specs.Relations.{Number}
use Rattle.lists.specs.Among.{Among}
use Rattle.lists.proofs.Index.{index_among, index_is, index_none, found_not, apart_unfound}
use Rattle.wire.proofs.Spans.{span_none}
use Rattle.manifest.specs.Content.{text_at, names}
use Rattle.manifest.specs.Judged.{exports_of}
use Rattle.manifest.proofs.Places.{place_name}
use Rattle.manifest.proofs.Names.{names_length}
use Rattle.wire.specs.declared.Part.{Part}
use Rattle.container.specs.Directory.{manifest_section}
use Rattle.bundle.specs.Checks.{name_refusal}
use Rattle.bundle.specs.Exports.{name_at, name_part, name_call, index_asked, index_call, index_answer, index_numbers}
use Rattle.soundness.specs.FileGrammar.{SectionOf}
use Rattle.soundness.specs.ManifestGrammar.{Contents, IsManifest, manifest, counted}
use Rattle.soundness.specs.Sound.{Described}
use Rattle.soundness.specs.Applies.{Applies, Smallest}
use Rattle.soundness.specs.ExportCalls.{BeforeExport, before_export, IsNamePart, part_of_name}
use Rattle.soundness.specs.ExportCalls.{NameByIndex, NameRefused, NameBytes, NameInFile, OnlyName}
use Rattle.soundness.specs.ExportCalls.{IndexCall, index, IndexByName, NoSuchName, EmptyName, IndexRefused, IndexTells}
use Rattle.soundness.specs.ExportCalls.{IndexBelow, OnlyIndex}
use Rattle.soundness.proofs.ManifestLengths.{head_long, export_long, sequence_long}
use Rattle.soundness.proofs.ManifestMeaning.{reads_exports}
use Rattle.soundness.proofs.Applies.{name_number_exactly, name_none_exactly}
use Rattle.soundness.proofs.Each.{each_exactly}
use Rattle.soundness.proofs.Sections.{section_only, section_start, single_manifest, described_manifest}
use Rattle.soundness.proofs.Calls.{found_there, name_read, part_inside, index_asked_lem, asked_name}
use Rattle.soundness.proofs.ExportPlaces.{Stands, stands, stands_none}
use Rattle.soundness.proofs.Meaning.{unrefused_described}

-- a described file is not refused by 1 to 14, and its exports are read
module _ (file : List ℕ) (d : Described file) where
  fine : name_refusal file ≡ 0
  fine = (unrefused_described file).1 d

  read : exports_of (manifest_section file) ≡ d.manifest.exports
  read = reads_exports (manifest_section file) d.manifest (described_manifest d)

-- and any other file is refused by the smallest of them that applies
refused_by : (file : List ℕ) → (name_refusal file ≡ 0 → ⊥) → Smallest (Applies file) (name_refusal file) × (name_refusal file ≤ 14)
refused_by file z = (name_number_exactly file (name_refusal file)).0 (refl, z)

refused_not : (file : List ℕ) (n : ℕ) → Applies file n → n ≤ 14 → name_refusal file ≡ 0 → ⊥
refused_not file n a h z = (name_none_exactly file).0 z n h a

-- ---- name by index

-- what a manifest says determines how many bytes stand before an export
before_long : {m : Contents} {i : ℕ} {a b : List ℕ} → BeforeExport m i a → BeforeExport m i b → length a ≡ length b
before_long (before_export h n e) (before_export h' n' e') =
    simp length-append (omega (arith, head_long h h', n.size, n'.size, sequence_long _ (λ x a. export_long) e e'))

-- so one part of a described file is the name of an export
one_part : {file : List ℕ} → Described file → {m : Contents} {i : ℕ} {name : List ℕ} {p q : Part} →
    IsNamePart file m i name p → IsNamePart file m i name q → p ≡ q
one_part {file} d {name = name} (part_of_name b m after k) (part_of_name c n after' j) =
    let once = single_manifest d in
    ap (λ (x : ℕ). record { start = x; size = length name })
    (omega (arith, section_start file 1 once k, section_start file 1 once j, before_long b c))

-- it is known by its numbers
part_as : {file : List ℕ} {m : Contents} {i : ℕ} {name : List ℕ} {p : Part} → IsNamePart file m i name p →
    {start size : ℕ} → p.start ≡ start → p.size ≡ size → IsNamePart file m i name (record { start = start; size = size })
part_as {file} {m} {i} {name} is e f =
    subst (IsNamePart file m i name) (λ j. record { start = e j; size = f j }) is

-- and the call answers it
module _ (file : List ℕ) (d : Described file) (i : ℕ) where
  part_is : Stands (manifest_section file) d.manifest i →
      IsNamePart file d.manifest i (get_or (names d.manifest.exports) i []) (name_part file i)
  unfolding name_part name_at
  part_is x =
      let s = manifest_section file in
      let name = get_or (names d.manifest.exports) i [] in
      let text : text_at s (Some x.at) ≡ name =
      ap (text_at s) (sym x.is_place) ∙ sym (place_name s i) ∙ ap (λ es. get_or (names es) i []) (read file d) in
      let all : d.manifest_bytes ≡ x.before ++ (x.size ++ (name ++ x.after)) =
      sym (section_only file 1 (single_manifest d) _ d.section_of_manifest) ∙ x.all ∙
      ap (λ (b : List ℕ). x.before ++ (x.size ++ (b ++ x.after))) text in
      let section = subst (SectionOf file 1) all d.section_of_manifest in
      let size = subst (λ (b : List ℕ). Number 4 (length b) x.size) text x.is_size in
      rw (fine file d, x.is_place)
      (part_as (part_of_name x.is_before size x.after section)
      (omega (arith, section_start file 1 (single_manifest d) section, x.long))
      (ap length (sym text) ∙ sym x.counts))

  part_none : length d.manifest.exports ≤ i → name_part file i ≡ record { start = 0; size = 0 }
  unfolding name_part name_at
  part_none h = rw (fine file d, stands_none (described_manifest d) i h)

pub name_by_index : NameByIndex name_part
name_by_index file d i = (λ h. part_is file d i (stands (described_manifest d) i h), part_none file d i)

pub name_refused : NameRefused name_part
unfolding name_part
name_refused file n i a h = rw (ne_eqb (name_refusal file) 0 (refused_not file n a h))

pub name_bytes : NameBytes
unfolding name_call
name_bytes file i = (
  λ d. name_read file (fine file d) i ∙ ap (λ es. get_or (names es) i []) (read file d),
  λ n a h. rw (name_refused file n i a h) (span_none file),
)

pub name_in_file : NameInFile
name_in_file = part_inside

pub only_name : OnlyName
only_name call by_index refused file i = elim (ℕ_discrete (name_refusal file) 0) [
  | yes e ↦
      let d = (unrefused_described file).0 e in
      elim (dec_lt i (length d.manifest.exports)) [
        | yes h ↦ one_part d ((by_index file d i).0 h) ((name_by_index file d i).0 h)
        | no h ↦
            let l : length d.manifest.exports ≤ i = omega (arith, h) in
            (by_index file d i).1 l ∙ sym ((name_by_index file d i).1 l)
      ]
  | no z ↦
      let (n, h) = refused_by file z in
      refused file _ i n.applies h ∙ sym (name_refused file _ i n.applies h)
]

-- ---- index by name

module _ (file : List ℕ) (d : Described file) where
  -- what a name that is not empty is answered
  asked : {name : List ℕ} {f : Option ℕ} → (name ≡ [] → ⊥) → index_of name 0 (names d.manifest.exports) ≡ f →
      index_call file name ≡ index_answer f
  asked {name} h e = rw (index_asked_lem file (fine file d) name, asked_name (manifest_section file) name h, read file d, e)

  no_empty_name : (name : List ℕ) → Among name (names d.manifest.exports) → name ≡ [] → ⊥
  unfolding names
  no_empty_name =
      (each_exactly (λ e. e.name) names refl (λ e es. refl) _ d.manifest.exports).1
      (λ e a q. omega (arith, (d.named.sizes e a).0, ap length q))

pub index_by_name : IndexByName index
index_by_name file d i h =
    let ns = names d.manifest.exports in
    let l : i < length ns = rw names_length h in
    let e = found_there ns i d.named.distinct l in
    ap index_numbers (asked file d (no_empty_name file d (get_or ns i []) (index_among [] ns i l)) e)

pub no_such_name : NoSuchName index
no_such_name file d name h n =
    let ns = names d.manifest.exports in
    ap index_numbers (asked file d h (found_not (index_of name 0 ns) (apart_unfound name 0 ns n)))

pub empty_name : EmptyName index
unfolding index_asked
empty_name file d = ap index_numbers (index_asked_lem file (fine file d) [])

pub index_refused : IndexRefused index
unfolding index_call
index_refused file name n s h =
    let (e, z) = (name_number_exactly file n).1 (s, h) in rw (e, ne_eqb n 0 z)

-- each name of a described file has one of these answers
only_asked : (call : IndexCall) → IndexByName call → NoSuchName call → EmptyName call →
    (file : List ℕ) (d : Described file) (name : List ℕ) → call file name ≡ index file name
only_asked call by_name no_such empty file d [] = empty file d ∙ sym (empty_name file d)
only_asked call by_name no_such empty file d (b ∷ bs) = go (index_of (b ∷ bs) 0 ns) refl
  where
    ns : List (List ℕ)
    ns = names d.manifest.exports

    go : (f : Option ℕ) → index_of (b ∷ bs) 0 ns ≡ f → call file (b ∷ bs) ≡ index file (b ∷ bs)
    go (Some k) e =
        let (_, l, q) = index_is (b ∷ bs) 0 ns k e in
        let h : k < length d.manifest.exports = omega (arith, l, names_length d.manifest.exports) in
        let name : get_or ns k [] ≡ b ∷ bs = rw sub-zero at q in
        subst (λ (t : List ℕ). call file t ≡ index file t) name (by_name file d k h ∙ sym (index_by_name file d k h))
    go None e =
        let some : b ∷ bs ≡ [] → ⊥ = λ q. omega (arith, ap length q) in
        let apart = index_none (b ∷ bs) 0 ns e in
        no_such file d (b ∷ bs) some apart ∙ sym (no_such_name file d (b ∷ bs) some apart)

pub only_index : OnlyIndex
only_index call by_name no_such empty refused file name = elim (ℕ_discrete (name_refusal file) 0) [
  | yes e ↦ only_asked call by_name no_such empty file ((unrefused_described file).0 e) name
  | no z ↦
      let (n, h) = refused_by file z in
      refused file name _ n h ∙ sym (index_refused file name _ n h)
]

pub few_exports : {m : Contents} {s : List ℕ} → IsManifest m s → length m.exports ≤ 32
few_exports (manifest a (counted n l most q) h i) = most

some_exports : {m : Contents} {s : List ℕ} → IsManifest m s → 1 ≤ length m.exports
some_exports (manifest a (counted n least l q) h i) = least

-- an index that a described file answers is one of its exports'
index_within : (file : List ℕ) (d : Described file) (name : List ℕ) → (index file name).index < length d.manifest.exports
index_within file d [] = rw (ap (λ n. n.index) (empty_name file d)) (some_exports d.is_manifest)
index_within file d (b ∷ bs) =
    rw (asked file d {name = b ∷ bs} (λ q. omega (arith, ap length q)) refl) (found (index_of (b ∷ bs) 0 ns) refl)
  where
    ns : List (List ℕ)
    ns = names d.manifest.exports

    found : (f : Option ℕ) → index_of (b ∷ bs) 0 ns ≡ f → (index_numbers (index_answer f)).index < length d.manifest.exports
    found (Some k) e = omega (arith, (index_is (b ∷ bs) 0 ns k e).1, names_length d.manifest.exports)
    found None e = some_exports d.is_manifest

pub index_below : IndexBelow
unfolding index_call
index_below file name = elim (ℕ_discrete (name_refusal file) 0) [
  | yes e ↦
      let d = (unrefused_described file).0 e in
      let h = index_within file d name in
      let most = few_exports d.is_manifest in
      omega (arith, h, most)
  | no z ↦ rw (ne_eqb (name_refusal file) 0 z) (omega arith)
]

pub index_tells : IndexTells
unfolding index_call
index_tells file name n e = elim (ℕ_discrete (name_refusal file) 0) [
  | yes z ↦ go (index_asked (manifest_section file) name) (sym (index_asked_lem file z name) ∙ e)
  | no z ↦
      let q : name_refusal file ≡ n = cc (rw (ne_eqb (name_refusal file) 0 z) at e) in
      omega (arith, z, q)
]
  where
    go : (f : Option ℕ) → index_answer f ≡ Err n → 0 < n
    go (Some i) q = let z : ◌≡◌ {A = ℕ} 0 1 = cc in absurd (omega arith)
    go None q = let z : 25 ≡ n = cc in omega arith
