-- Two files that differ in a stretch of bytes which neither the directory nor a section of type 1 or 2 meets are alike in all that is
-- read: proof of SkippedBytes of specs/Skipped.antt.
use Prim.Native.Nat.{ℕ, ◌+◌, ◌*◌, ◌≤◌}
use mathlib.Core.Path.{◌≡◌, refl, sym, subst}
use mathlib.Core.List.{List, [], ◌∷◌, ◌++◌, append_assoc}
use mathlib.Core.Logic.{◌⊎◌, inl, inr}
use native.Mathlib.Omega.{arith}
use lib.ListN.{length, length-append}
use Rattle.wire.specs.Relations.{Sequence, none, next}
use Rattle.soundness.specs.FileGrammar.{Header, IsHeader, header, Entry, IsEntry, entry, HasDirectory, goes_on, IsSection, section}
use Rattle.soundness.specs.Skipped.{SkippedBytes}

-- where two lists are one, the shorter first part is a front part of the longer
front : (x y u v : List ℕ) → x ++ y ≡ u ++ v → length x ≤ length u →
    (mid : List ℕ) × (u ≡ x ++ mid) × (y ≡ mid ++ v) × (length u ≡ length x + length mid)
front [] y u v e h = (u, refl, e, omega arith)
front (a ∷ x) y [] v e h = absurd (omega arith)
front (a ∷ x) y (b ∷ u) v e h =
    let (mid, p, q, l) = front x y u v (cc) (omega arith) in (mid, (cc), q, omega (arith, l))

header_bytes_lem : {h : Header} {b : List ℕ} → IsHeader h b → length b ≡ 32
header_bytes_lem (header l m n o p q) = simp length-append (omega (arith, l, m.size, n.size, o.size, p.size, q.size))

entry_bytes_lem : {e : Entry} {b : List ℕ} → IsEntry e b → length b ≡ 60
entry_bytes_lem (entry k v f c a o s d) =
    simp length-append (omega (arith, k.size, v.size, f.size, c.size, a.size, o.size, s.size, d))

entries_bytes : {es : List Entry} {d : List ℕ} → Sequence IsEntry es d → length d ≡ 60 * length es
entries_bytes none = refl
entries_bytes (next i j) = simp length-append (omega (arith, entry_bytes_lem i, entries_bytes j))

-- two pieces at the start of a list stand there whatever comes after its front part
joined : (a b n other : List ℕ) {before m : List ℕ} → before ≡ a ++ m → m ≡ b ++ n →
    a ++ (b ++ (n ++ other)) ≡ before ++ other
joined a b n other p r = rw (p, r) (simp append_assoc)

two_front : (a b rest before tail other : List ℕ) → a ++ (b ++ rest) ≡ before ++ tail → length a + length b ≤ length before →
    (mid : List ℕ) × (a ++ (b ++ (mid ++ other)) ≡ before ++ other)
two_front a b rest before tail other e h =
    let (m, p, q, l) = front a (b ++ rest) before tail e (omega arith) in
    let (n, r, _, _) = front b rest m tail q (omega (arith, l)) in
    (n, joined a b n other p r)

directory_front : {h : Header} {es : List Entry} {file : List ℕ} → HasDirectory h es file →
    (before tail other : List ℕ) → file ≡ before ++ tail → 32 + 60 * length es ≤ length before →
    HasDirectory h es (before ++ other)
directory_front {h} {es} (goes_on {b = b} {d = d} i l j rest) before tail other e m =
    let (mid, p) = two_front b d rest before tail other e (omega (arith, header_bytes_lem i, entries_bytes j)) in
    subst (HasDirectory h es) p (goes_on i l j (mid ++ other))

section_front : {e : Entry} {q file : List ℕ} → IsSection e q file → (before tail other : List ℕ) → file ≡ before ++ tail →
    e.offset + e.size ≤ length before → IsSection e q (before ++ other)
section_front {e} {q} (section b a l m) before tail other f h =
    let (mid, p) = two_front b q a before tail other f (omega arith) in
    subst (IsSection e q) p (section b (mid ++ other) l m)

-- and a piece after a first part stands there whatever bytes that part has
section_back : {e : Entry} {q file : List ℕ} → IsSection e q file → (x y after : List ℕ) → file ≡ x ++ after →
    length x ≤ e.offset → length x ≡ length y → IsSection e q (y ++ after)
section_back {e} {q} (section b a l m) x y after f h g =
    let (mid, p, r, k) = front x after b (q ++ a) (sym f) (omega arith) in
    let n : length (y ++ mid) ≡ e.offset = rw length-append (omega (arith, k)) in
    subst (IsSection e q) (moved mid r) (section (y ++ mid) a n m)
  where
    moved : (mid : List ℕ) → after ≡ mid ++ (q ++ a) → (y ++ mid) ++ (q ++ a) ≡ y ++ after
    moved mid r = rw r (append_assoc y mid (q ++ a))

pub skipped_bytes : SkippedBytes
skipped_bytes before s t after h es dir same inside apart =
    record {
      long = simp length-append (omega arith);
      header = h;
      entries = es;
      has_directory = dir;
      has_directory' = directory_front dir before (s ++ after) (t ++ after) refl inside;
      sections = λ e a k q. (moved s t same e q (apart e a k), moved t s (sym same) e q (rw same at apart e a k));
    }
  where
    moved : (s t : List ℕ) → length s ≡ length t → (e : Entry) (q : List ℕ) →
        (e.offset + e.size ≤ length before) ⊎ (length before + length s ≤ e.offset) →
        IsSection e q (before ++ (s ++ after)) → IsSection e q (before ++ (t ++ after))
    moved s t l e q (inl h) i = section_front i before (s ++ after) (t ++ after) refl h
    moved s t l e q (inr h) i =
        rw append_assoc at (section_back i (before ++ s) (before ++ t) after (sym (append_assoc before s after))
        (rw (length-append before s) h) (rw (length-append before s, length-append before t) (omega arith)))
