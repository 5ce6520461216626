-- The rows 12 to 20 hold exactly where their numbers apply, where no row before them holds.
use Prim.Native.Nat.{ℕ, ◌≤◌}
use mathlib.Core.Path.{◌≡◌, refl, sym, subst, ◌∙◌}
use mathlib.Core.List.{List, [], ◌∷◌}
use mathlib.Core.Bool.{true, not}
use mathlib.Core.Logic.{◌↔◌, ⊎_elim}
use native.Mathlib.Omega.{arith}
use native.Mathlib.Decide.{ℕ_discrete, dec_le, map_dec}
use borrow.Author.Tests.{not-false}
use lib.ListN.{length}
use Rattle.lists.specs.Among.{Among, Distinct}
use Rattle.lists.proofs.Tests.{not_exactly}
use Rattle.sizes.specs.Sizes.{name_size}
use Rattle.manifest.specs.Content.{Root, Export}
use Rattle.manifest.specs.Judged.{Wanted, exactly, any_text, abi_name, nine_strings, malformed, unsupported, misnamed}
use Rattle.nodes.specs.declared.faults.RecordFault.TheVariants.{Hash, Twice, Child}
use Rattle.nodes.specs.Records.{NodeRecord, children, node_hash, hashes, shaped, some_record}
use Rattle.nodes.specs.Links.{circular}
use Rattle.references.specs.References.{unresolved}
use Rattle.bundle.specs.Checks.{manifest_checks, node_checks}
use Rattle.soundness.specs.FileGrammar.{SectionOf}
use Rattle.soundness.specs.ManifestGrammar.{Contents, head, IsManifest, manifest}
use Rattle.soundness.specs.ManifestMeaning.{NineStrings, Supported, Named}
use Rattle.soundness.specs.NodesGrammar.{IsNodes}
use Rattle.soundness.specs.NodesMeaning.{Hashed, Closed}
use Rattle.soundness.specs.Graph.{Circle}
use Rattle.soundness.specs.Applies as rows
use Rattle.soundness.specs.Applies.{HasManifest, HasNodes, Applies}
use Rattle.soundness.specs.Applies.{manifest_shape, fixed_string, export_abi, capability, closure, size_of_name, name_twice}
use Rattle.soundness.specs.Applies.{nodes_shape, hash, hash_twice, child, circle, root, export}
use Rattle.soundness.proofs.ManifestMeaning.{shaped_exactly, supported_exactly, named_exactly, one_manifest}
use Rattle.soundness.proofs.ManifestMeaning.{reads_roots, reads_exports}
use Rattle.soundness.proofs.ManifestStrings.{Agree, same, any, agree_nine}
use Rattle.soundness.proofs.NodesMeaning.{shaped_exactly as nodes-exactly, reads_nodes, hashed_exactly}
use Rattle.soundness.proofs.NodesMeaning.{distinct_exactly, closed_exactly, circular_exactly}
use Rattle.soundness.proofs.References.{resolved_exactly}
use Rattle.soundness.proofs.Decides.{dec_same, dec_among, dec_both, not_within, not_each, dec_each, row_exactly}
use Rattle.soundness.proofs.NodesHashes.{payload_children, node_payload}
use Rattle.soundness.proofs.Smallest.{Means, ◌else◌}

-- ---- 12 to 14

-- whether texts are what is wanted of them
agree_rest : {w : Wanted} {t : List ℕ} {ws : List Wanted} {ts : List (List ℕ)} → Agree (w ∷ ws) (t ∷ ts) → Agree ws ts
agree_rest (same a) = a
agree_rest (any a) = a

agree_first : {w t : List ℕ} {ws : List Wanted} {ts : List (List ℕ)} → Agree (exactly w ∷ ws) (t ∷ ts) → w ≡ t
agree_first (same a) = refl

dec_agree : (ws : List Wanted) (ts : List (List ℕ)) → Dec (Agree ws ts)
dec_agree [] [] = yes Agree.none
dec_agree [] (t ∷ ts) = no (λ a. elim a [ ])
dec_agree (exactly w ∷ ws) [] = no (λ a. elim a [ ])
dec_agree (any_text ∷ ws) [] = no (λ a. elim a [ ])
dec_agree (exactly w ∷ ws) (t ∷ ts) = elim (dec_same w t) [
  | yes e ↦
      let more : Agree ws ts → Agree (exactly w ∷ ws) (t ∷ ts) =
      λ a. subst (λ (x : List ℕ). Agree (exactly w ∷ ws) (x ∷ ts)) e (same a) in
      map_dec more agree_rest (dec_agree ws ts)
  | no k ↦ no (λ a. k (agree_first a))
]
dec_agree (any_text ∷ ws) (t ∷ ts) = map_dec any agree_rest (dec_agree ws ts)

dec_nine : (ts : List (List ℕ)) → Dec (NineStrings ts)
dec_nine ts = let both = agree_nine ts in map_dec both.0 both.1 (dec_agree nine_strings ts)

low_closure : {m : Contents} {s : List ℕ} → IsManifest m s → m.closure ≤ 1
low_closure (manifest (head a b c d e f g) h i j) = f

-- m is the manifest section, and the only one
module _ (file m : List ℕ) (is : SectionOf file 1 m) (only : (s : List ℕ) → SectionOf file 1 s → m ≡ s) where
  row_12 : (malformed m ≡ true) ↔ Applies file 12
  row_12 = row_exactly _ (shaped_exactly m) (λ n. manifest_shape is (λ c i. n (c, i))) clash
    where
      clash : Applies file 12 → (c : Contents) × IsManifest c m → ⊥
      clash (manifest_shape k n) (c, i) = n c (subst (IsManifest c) (only _ k) i)

  module _ (c : Contents) (i : IsManifest c m) where
    pub the_manifest : HasManifest file c
    the_manifest = rows.manifest is i

    pub one_contents : (d : Contents) → HasManifest file d → d ≡ c
    one_contents d (rows.manifest k j) = one_manifest m d c (subst (IsManifest d) (sym (only _ k)) j) i

    unsupported_fault : (Supported c → ⊥) → Applies file 13
    unsupported_fault n =
        elim (dec_nine c.strings) [
          | no k ↦ fixed_string the_manifest k
          | yes a ↦ elim (dec_each (λ e. e.abi ≡ abi_name) (λ e. dec_same e.abi abi_name) c.exports) [
            | no k ↦
                let (e, b, l) = not_each (λ e. e.abi ≡ abi_name) (λ e. dec_same e.abi abi_name) c.exports k in
                export_abi the_manifest b l
            | yes b ↦ elim (ℕ_discrete c.closure 0) [
              | no k ↦ closure the_manifest (omega (arith, low_closure i, k))
              | yes d ↦
                  capability the_manifest (λ e. n (record { strings = a; abis = b; capabilities = e; closure = d }))
            ]
          ]
        ]

    unsupported_clash : Applies file 13 → Supported c → ⊥
    unsupported_clash (fixed_string k n) s = n (rw (one_contents _ k) s.strings)
    unsupported_clash (export_abi {e = e} k a n) s = n (s.abis e (rw (one_contents _ k) at a))
    unsupported_clash (capability k n) s = n (rw (one_contents _ k) s.capabilities)
    unsupported_clash (closure k e) s = let f : c.closure ≡ 1 = rw (one_contents _ k) at e in omega (arith, s.closure)

    row_13 : (unsupported m ≡ true) ↔ Applies file 13
    row_13 = row_exactly _ (supported_exactly m c i) unsupported_fault unsupported_clash

    abbrev NameSized : Export → Type 0
    NameSized e = (name_size.least ≤ length e.name) × (length e.name ≤ name_size.most)

    dec_sized : (e : Export) → Dec (NameSized e)
    dec_sized e = dec_both (dec_le name_size.least (length e.name)) (dec_le (length e.name) name_size.most)

    misnamed_fault : (Named c → ⊥) → Applies file 14
    misnamed_fault n = elim (dec_each NameSized dec_sized c.exports) [
      | no k ↦
          let (e, a, l) = not_each NameSized dec_sized c.exports k in
          size_of_name the_manifest a (not_within _ _ _ l)
      | yes a ↦ name_twice the_manifest (λ d. n (record { sizes = a; distinct = d }))
    ]

    misnamed_clash : Applies file 14 → Named c → ⊥
    misnamed_clash (size_of_name {e = e} k a h) s =
        let l = s.sizes e (rw (one_contents _ k) at a) in ⊎_elim (λ q. omega arith) (λ q. omega arith) h
    misnamed_clash (name_twice k n) s = n (rw (one_contents _ k) s.distinct)

    row_14 : (misnamed m ≡ true) ↔ Applies file 14
    row_14 = row_exactly _ (named_exactly m c i) misnamed_fault misnamed_clash

  pub manifest_means : Means (Applies file) (manifest_checks m)
  unfolding manifest_checks
  manifest_means =
      row_12 else λ e.
      let (c, i) = (shaped_exactly m).0 e in
      row_13 c i else λ _.
      row_14 c i else λ _.
      tt

-- ---- 15 to 20

-- s is the nodes section, and the only one
module _ (file s : List ℕ) (is : SectionOf file 2 s) (only : (t : List ℕ) → SectionOf file 2 t → s ≡ t) where
  row_15 : (not (shaped s) ≡ true) ↔ Applies file 15
  row_15 = row_exactly _ (not_exactly _ (nodes-exactly s)) (λ n. nodes_shape is (λ rs i. n (rs, i))) clash
    where
      clash : Applies file 15 → (rs : List NodeRecord) × IsNodes rs s → ⊥
      clash (nodes_shape k n) (rs, i) = n rs (subst (IsNodes rs) (only _ k) i)

  module _ (rs : List NodeRecord) (i : IsNodes rs s) where
    the_nodes : HasNodes file rs
    the_nodes = rows.nodes is i

    one_nodes : {ts : List NodeRecord} → HasNodes file ts → ts ≡ rs
    one_nodes {ts} (rows.nodes k j) =
        sym (reads_nodes s ts (subst (IsNodes ts) (sym (only _ k)) j)) ∙ reads_nodes s rs i

    row_16 : (some_record Hash rs rs ≡ true) ↔ Applies file 16
    unfolding node_hash
    row_16 = row_exactly _ (hashed_exactly rs) fault clash
      where
        fault : (Hashed rs → ⊥) → Applies file 16
        fault n =
            let (r, a, k) =
            not_each (λ r. r.hash ≡ node_hash r.payload) (λ r. dec_same r.hash (node_hash r.payload)) rs n in
            hash the_nodes a k

        clash : Applies file 16 → Hashed rs → ⊥
        clash (hash {r = r} k a n) h = n (h r (rw (one_nodes k) at a))

    row_17 : (some_record Twice rs rs ≡ true) ↔ Applies file 17
    row_17 = row_exactly _ (distinct_exactly rs) (hash_twice the_nodes) clash
      where
        clash : Applies file 17 → Distinct (hashes rs) → ⊥
        clash (hash_twice k n) d = n (rw (one_nodes k) d)

    abbrev There : NodeRecord → Type 0
    There r = (h : List ℕ) → Among h (children r) → Among h (hashes rs)

    dec_child : (h : List ℕ) → Dec (Among h (hashes rs))
    dec_child h = dec_among h (hashes rs)

    row_18 : (some_record Child rs rs ≡ true) ↔ Applies file 18
    row_18 = row_exactly _ (closed_exactly s rs i) fault clash
      where
        fault : (Closed rs → ⊥) → Applies file 18
        fault n =
            let (r, a, k) =
            not_each There (λ r. dec_each (λ h. Among h (hashes rs)) dec_child (children r)) rs
            (λ f. n (λ r cs a p h b. f r a h (rw (payload_children p) b))) in
            let (h, b, l) = not_each (λ h. Among h (hashes rs)) dec_child (children r) k in
            child the_nodes a (node_payload i a) b l

        clash : Applies file 18 → Closed rs → ⊥
        clash (child {r = r} {cs = cs} {h = h} k a p b n) f =
            let q = one_nodes k in n (rw q (f r cs (rw q at a) p h b))

    row_19 : Distinct (hashes rs) → Closed rs → (circular rs ≡ true) ↔ Applies file 19
    row_19 d f =
        let circles = circular_exactly s rs i d f in (λ e. circle the_nodes (circles.0 e), back circles)
      where
        back : (circular rs ≡ true) ↔ Circle rs → Applies file 19 → circular rs ≡ true
        back circles (circle k o) = circles.1 (rw (one_nodes k) at o)

    module _ (m : List ℕ) (c : Contents) (j : IsManifest c m) (has : HasManifest file c)
        (single : (d : Contents) → HasManifest file d → d ≡ c) where
      abbrev Held : List ℕ → Type 0
      Held h = Among h (hashes rs)

      abbrev Roots : Type 0
      Roots = (r : Root) → Among r c.roots → Held r.hash

      abbrev Exports : Type 0
      Exports = (e : Export) → Among e c.exports → Held e.hash

      lost_fault : (Roots × Exports → ⊥) → Applies file 20
      lost_fault n = elim (dec_each (λ r. Held r.hash) (λ r. dec_child r.hash) c.roots) [
        | no k ↦
            let (r, a, l) = not_each (λ r. Held r.hash) (λ r. dec_child r.hash) c.roots k in root has the_nodes a l
        | yes f ↦
            let (e, a, l) =
            not_each (λ e. Held e.hash) (λ e. dec_child e.hash) c.exports (λ g. n (f, g)) in
            export has the_nodes a l
      ]

      lost_clash : Applies file 20 → Roots × Exports → ⊥
      lost_clash (root {r = r} k o a n) f = n (rw (one_nodes o) (f.0 r (rw (single _ k) at a)))
      lost_clash (export {e = e} k o a n) f = n (rw (one_nodes o) (f.1 e (rw (single _ k) at a)))

      row_20 : (unresolved m s ≡ true) ↔ Applies file 20
      row_20 =
          row_exactly _ (resolved_exactly m s (reads_nodes s rs i) (reads_roots m c j) (reads_exports m c j))
          lost_fault lost_clash

  module _ (m : List ℕ) (c : Contents) (j : IsManifest c m) (has : HasManifest file c)
      (single : (d : Contents) → HasManifest file d → d ≡ c) where
    pub nodes_means : Means (Applies file) (node_checks m s)
    unfolding node_checks
    nodes_means =
        row_15 else λ e.
        let (rs, i) = (nodes-exactly s).0 (not-false _ e) in
        let q = reads_nodes s rs i in
        rw q (row_16 rs i) else λ _.
        rw q (row_17 rs i) else λ twice.
        rw q (row_18 rs i) else λ there.
        let d = (distinct_exactly rs).0 (rw q at twice) in
        let f = (closed_exactly s rs i).0 (rw q at there) in
        rw q (row_19 rs i d f) else λ _.
        row_20 rs i m c j has single else λ _.
        tt
