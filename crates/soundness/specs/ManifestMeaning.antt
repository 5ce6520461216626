-- What the tests of a manifest mean, over what its bytes are. The proofs are in proofs/ManifestMeaning.antt.
use Rattle.std.specs.Prelude.{ℕ, ◌≤◌, ◌≡◌, false, ◌↔◌, List, [], ◌∷◌, length}
use Rattle.wire.specs.Wire.{ascii}
use Rattle.lists.specs.Among.{Among, Distinct}
use Rattle.manifest.specs.Content.{Export, names}
use Rattle.manifest.specs.Judged.{malformed, unsupported, misnamed, roots_of, exports_of}
use Rattle.soundness.specs.ManifestGrammar.{Contents, IsManifest}

-- the nine strings, in order; the eighth, evaluation, is any text
pub data NineStrings : List (List ℕ) → Type 0 where
  nine : (evaluation : List ℕ) →
      NineStrings
      (ascii "arboricx.bundle.manifest.v1" ∷ ascii "tree-calculus-executable-object" ∷ ascii "tree-calculus.v1" ∷
      ascii "sha256" ∷ ascii "arboricx.merkle.node.v1" ∷ ascii "arboricx.merkle.payload.v1" ∷ ascii "tree-calculus.v1" ∷
      evaluation ∷ ascii "arboricx.abi.tree.v1" ∷ [])

-- the fixed strings are those of document 01, no capability is listed, and the closure is complete
pub record Supported (m : Contents) : Type 0 where
  pub strings : NineStrings m.strings
  pub abis : (e : Export) → Among e m.exports → e.abi ≡ ascii "arboricx.abi.tree.v1"
  pub capabilities : m.capabilities ≡ []
  pub closure : m.closure ≡ 0

-- every export has a name of its own, of 1 to 64 bytes
pub record Named (m : Contents) : Type 0 where
  pub sizes : (e : Export) → Among e m.exports → (1 ≤ length e.name) × (length e.name ≤ 64)
  pub distinct : Distinct (names m.exports)

-- 12 does not hold exactly for the bytes of a manifest
abbrev pub ManifestShapedExactly : Type 0
ManifestShapedExactly = (s : List ℕ) → (malformed s ≡ false) ↔ ((m : Contents) × IsManifest m s)

-- nor 13 where it is supported, nor 14 where its exports are named
abbrev pub SupportedExactly : Type 0
SupportedExactly = (s : List ℕ) (m : Contents) → IsManifest m s → (unsupported s ≡ false) ↔ Supported m

abbrev pub NamedExactly : Type 0
NamedExactly = (s : List ℕ) (m : Contents) → IsManifest m s → (misnamed s ≡ false) ↔ Named m

-- the roots and exports that are read are the manifest's
abbrev pub ReadsRoots : Type 0
ReadsRoots = (s : List ℕ) (m : Contents) → IsManifest m s → roots_of s ≡ m.roots

abbrev pub ReadsExports : Type 0
ReadsExports = (s : List ℕ) (m : Contents) → IsManifest m s → exports_of s ≡ m.exports

-- bytes are one manifest at most
abbrev pub OneManifest : Type 0
OneManifest = (s : List ℕ) (m n : Contents) → IsManifest m s → IsManifest n s → m ≡ n
