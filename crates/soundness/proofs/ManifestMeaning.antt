-- The tests of a manifest mean what specs/Meaning.antt says.
use Rattle.std.specs.Prelude.{Option, Some, None}
use Prim.Native.Nat.{ℕ, ◌≤◌}
use mathlib.Core.Path.{◌≡◌, refl, sym, ap, subst, ◌∙◌}
use mathlib.Core.List.{List, [], ◌∷◌}
use mathlib.Core.Bool.{true, false}
use mathlib.Core.Logic.{◌↔◌}
use native.Mathlib.Omega.{arith}
use borrow.Author.Tests.{eqb-false, ne_eqb}
use Rattle.sizes.specs.Sizes.{within, capabilities_size}
use Rattle.sizes.proofs.Within.{within_exactly}
use lib.ListN.{length}
use lib.Dec.{eqb}
use Rattle.lists.proofs.Some.{any_none, any_more}
use Rattle.lists.proofs.Tests.{not_exactly}
use Rattle.lists.proofs.Same.{not_both}
use Rattle.wire.proofs.Reading.{reads_all}
use Rattle.manifest_shape.specs.declared.Layout.{Layout}
use Rattle.manifest_shape.specs.Shape.{manifest_of}
use Rattle.manifest.specs.Content.{exports_at}
use Rattle.manifest.specs.Judged.{malformed, unsupported_at, unsupported, misnamed_at, misnamed, roots_of, exports_of}
use Rattle.soundness.specs.ManifestGrammar.{Contents, IsManifest}
use Rattle.soundness.specs.ManifestMeaning.{Supported, Named}
use Rattle.soundness.specs.ManifestMeaning.{ManifestShapedExactly, SupportedExactly, NamedExactly}
use Rattle.soundness.specs.ManifestMeaning.{ReadsRoots, ReadsExports, OneManifest}
use Rattle.soundness.proofs.ManifestPieces.{closure_parses}
use Rattle.manifest_shape.proofs.Laid.{Laid, shape_laid}
use Rattle.manifest.proofs.Counted.{text_length}
use Rattle.soundness.proofs.ManifestWhole.{contents_at, whole_forth, whole_back}
use Rattle.soundness.proofs.ManifestFaults.{abis_exactly, sizes_exactly, names_exactly}
use Rattle.soundness.proofs.ManifestStrings.{strings_exactly}

-- the layout that a manifest has, and that it reads the manifest
layout_of : {s : List ℕ} {m : Contents} → IsManifest m s → (l : Layout) × (manifest_of s ≡ Some l) × (contents_at s l ≡ m)
layout_of {s} i = whole_back (reads_all s) i

pub shaped_exactly : ManifestShapedExactly
unfolding malformed
shaped_exactly s = (go (manifest_of s) refl, λ m. let (l, g, e) = layout_of m.1 in rw g)
  where
    go : (f : Option Layout) → manifest_of s ≡ f → malformed s ≡ false → (m : Contents) × IsManifest m s
    go (Some l) g h = (contents_at s l, shape_laid s l g λ a b t. whole_forth t)
    go None g h = not_both refl (rw g at h)

pub reads_roots : ReadsRoots
unfolding roots_of
reads_roots s m i = let (l, g, e) = layout_of i in rw g (ap (λ (c : Contents). c.roots) e)

pub reads_exports : ReadsExports
unfolding exports_of
reads_exports s m i = let (l, g, e) = layout_of i in rw g (ap (λ (c : Contents). c.exports) e)

pub one_manifest : OneManifest
one_manifest s m n i j =
    let (l, g, e) = layout_of i in
    let (k, h, f) = layout_of j in
    let q : l ≡ k = cc in
    sym e ∙ ap (contents_at s) q ∙ f

-- the four tests of 13
no_items : (n : ℕ) {A : Type 0} (xs : List A) → n ≡ length xs → (within capabilities_size n ≡ true) ↔ (xs ≡ [])
no_items n [] q = (λ h. refl, λ e. (within_exactly capabilities_size n).1 (omega arith))
no_items n (x ∷ xs) q = (
  λ h. absurd (omega (arith, ((within_exactly capabilities_size n).0 h).1)),
  λ e. (within_exactly capabilities_size n).1 (omega (arith, ap length e)),
)

zero_exactly : (n : ℕ) → n ≤ 1 → (eqb n 1 ≡ false) ↔ (n ≡ 0)
zero_exactly n h = (λ e. omega (arith, eqb-false n 1 e), λ e. ne_eqb n 1 (omega arith))

supported_at : {s : List ℕ} {l : Layout} {metadata extensions : ℕ} → Laid s l metadata extensions →
    (unsupported_at s l ≡ false) ↔ Supported (contents_at s l)
unfolding unsupported_at
supported_at {s} {l} t =
    let tests =
    any_more _ (not_exactly _ (strings_exactly s l.strings t.strings))
    (any_more _ (abis_exactly (exports_at s l.exports))
    (any_more _ (not_exactly _ (no_items _ _ (text_length s l.capabilities t.capabilities)))
    (any_more _ (zero_exactly _ ((closure_parses s).forth t.closure).2.0) any_none))) in (
      λ h. let (a, (b, (c, (d, u)))) = tests.0 h in record { strings = a; abis = b; capabilities = c; closure = d },
      λ g. tests.1 (g.strings, (g.abis, (g.capabilities, (g.closure, tt)))),
    )

pub supported_exactly : SupportedExactly
unfolding unsupported
supported_exactly s m i =
    let (l, g, e) = layout_of i in
    rw g (subst (λ (c : Contents). (unsupported_at s l ≡ false) ↔ Supported c) e (shape_laid s l g λ a b t. supported_at t))

named_at : (s : List ℕ) (l : Layout) → (misnamed_at s l ≡ false) ↔ Named (contents_at s l)
unfolding misnamed_at
named_at s l =
    let es = exports_at s l.exports in
    let tests = any_more _ (sizes_exactly es) (any_more _ (names_exactly es) any_none) in
    (λ h. let (a, (b, u)) = tests.0 h in record { sizes = a; distinct = b }, λ g. tests.1 (g.sizes, (g.distinct, tt)))

pub named_exactly : NamedExactly
unfolding misnamed
named_exactly s m i =
    let (l, g, e) = layout_of i in
    rw g (subst (λ (c : Contents). (misnamed_at s l ≡ false) ↔ Named c) e (named_at s l))
