-- What a manifest says determines how long its parts are, up to the exports and each of these.
use Prim.Native.Nat.{ℕ, ◌+◌}
use mathlib.Core.Path.{◌≡◌, refl}
use mathlib.Core.List.{List}
use native.Mathlib.Omega.{arith}
use lib.ListN.{length, length-append}
use Rattle.wire.specs.Relations.{Sequence, none, next}
use Rattle.manifest.specs.Content.{Root, Export}
use Rattle.soundness.specs.ManifestGrammar.{Contents, IsString, string, IsRoot, root, IsExport, export}
use Rattle.soundness.specs.ManifestGrammar.{IsCounted, counted, IsHead, head}

-- things of which each says how long it is
module _ {A : Type 0} {Is : A → List ℕ → Type 0} (size : A → ℕ) (long : (x : A) (a : List ℕ) → Is x a → length a ≡ size x) where
  pub sequence_long : {xs : List A} {a b : List ℕ} → Sequence Is xs a → Sequence Is xs b → length a ≡ length b
  sequence_long none none = refl
  sequence_long (next i j) (next k l) = simp length-append (omega (arith, long _ _ i, long _ _ k, sequence_long j l))

  counted_long : {least most : ℕ} {xs : List A} {a b : List ℕ} → IsCounted Is least most xs a → IsCounted Is least most xs b →
      length a ≡ length b
  counted_long (counted n l m i) (counted o p q j) = simp length-append (omega (arith, n.size, o.size, sequence_long i j))

string_long : {t a : List ℕ} → IsString t a → length a ≡ 4 + length t
string_long (string n u) = simp length-append (omega (arith, n.size))

root_long : {x : Root} {a : List ℕ} → IsRoot x a → length a ≡ 36 + length x.role
root_long (root h i) = simp length-append (omega (arith, string_long i))

pub export_long : {x : Export} {a : List ℕ} → IsExport x a → length a ≡ 44 + length x.name + length x.kind + length x.abi
export_long (export i h j k) = simp length-append (omega (arith, string_long i, string_long j, string_long k))

pub head_long : {m : Contents} {a b : List ℕ} → IsHead m a → IsHead m b → length a ≡ length b
head_long (head a b l c d q e) (head a' b' l' c' d' q' e') =
    simp length-append (omega (
      arith,
      a.size,
      a'.size,
      b.size,
      b'.size,
      sequence_long _ (λ x a. string_long) c c',
      counted_long _ (λ x a. string_long) d d',
      counted_long _ (λ x a. root_long) e e',
    ))
