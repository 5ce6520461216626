-- Laws of the file's format: what is read of a header and of entries is what the grammar says, and the other way round.
use Prim.Native.Nat.{ℕ, zero, suc, ◌+◌, ◌*◌, ◌≤◌}
use mathlib.Core.Path.{◌≡◌, refl, sym, ap, ◌∙◌, subst}
use mathlib.Core.List.{List, [], ◌∷◌, ◌++◌}
use native.Mathlib.Omega.{arith}
use lib.ListN.{length, take, drop, take-append-drop, length-take}
use Rattle.wire.specs.Wire.{big_endian, number_at, span, or_zero}
use Rattle.wire.specs.Relations.{Number, Sequence, none, next}
use Rattle.lists.specs.Among.{Among}
use Rattle.wire.proofs.Parts.{part_length}
use Rattle.wire.proofs.Spans.{number_in, span_in}
use Rattle.wire.proofs.Reading.{Reads, reads_none, reads_join, reads_split, part_reads, reads_all, reads_span, reads_number}
use Rattle.soundness.specs.FileGrammar.{Header, IsHeader, header, Entry, IsEntry, entry, HasHeader, starts}
use Rattle.soundness.specs.FileGrammar.{HasDirectory, goes_on}
use Rattle.soundness.specs.FileGrammar.{HasEntry, listed, IsSection, section}

module _ (s : List ℕ) where
  -- the number and the bytes that stand at a position
  number_back : (at n : ℕ) {p e v : ℕ} {b : List ℕ} → p ≡ at → Reads s p e b → Number n v b →
      (or_zero (number_at n s at) ≡ v) × (e ≡ at + n)
  number_back at n q r m = let (k, l) = reads_number s at n (rw q at r) m in (ap or_zero k, l)

  bytes_back : (at n : ℕ) {p e : ℕ} {b : List ℕ} → p ≡ at → Reads s p e b → length b ≡ n → (span s at n ≡ b) × (e ≡ at + n)
  bytes_back at n q r l = ((reads_span s at n (rw q at r) l).1, omega arith)

  number_forth : (at n e : ℕ) → e ≡ at + n → e ≤ length s → (b : List ℕ) × Reads s at e b × Number n (or_zero (number_at n s at)) b
  number_forth at n e q h =
      let l : at + n ≤ length s = omega arith in
      let v : or_zero (number_at n s at) ≡ big_endian (take n (drop at s)) = sym (ap or_zero (number_in s at n l refl)) in (
        take n (drop at s),
        rw q (part_reads s at n l),
        record { size = part_length s at n l; value = sym v },
      )

  bytes_forth : (at n e : ℕ) → e ≡ at + n → e ≤ length s → Reads s at e (span s at n) × (length (span s at n) ≡ n)
  bytes_forth at n e q h =
      let l : at + n ≤ length s = omega arith in
      rw (q, ← span_in s at n l) (part_reads s at n l, part_length s at n l)

  -- the header that is read
  unfoldable pub read_header : Header
  read_header =
      record {
        magic = span s 0 8;
        major = or_zero (number_at 2 s 8);
        minor = or_zero (number_at 2 s 10);
        sections = or_zero (number_at 4 s 12);
        flags = or_zero (number_at 8 s 16);
        directory = or_zero (number_at 8 s 24);
      }

  header_back : {h : Header} {b : List ℕ} {e : ℕ} → Reads s 0 e b → IsHeader h b → (read_header ≡ h) × (e ≡ 32)
  unfolding read_header
  header_back r (header {h = h} {major = major} {minor = minor} {sections = sections} {flags = flags} {directory = directory} l m n o p q) =
      let (p1, a1, r1) = reads_split {b = h.magic} r in
      let (v1, q1) = bytes_back 0 8 refl a1 l in
      let (p2, a2, r2) = reads_split {b = major} r1 in
      let (v2, q2) = number_back 8 2 q1 a2 m in
      let (p3, a3, r3) = reads_split {b = minor} r2 in
      let (v3, q3) = number_back 10 2 q2 a3 n in
      let (p4, a4, r4) = reads_split {b = sections} r3 in
      let (v4, q4) = number_back 12 4 q3 a4 o in
      let (p5, a5, r5) = reads_split {b = flags} r4 in
      let (v5, q5) = number_back 16 8 q4 a5 p in
      let (v6, q6) = number_back 24 8 q5 r5 q in
      (λ i. record { magic = v1 i; major = v2 i; minor = v3 i; sections = v4 i; flags = v5 i; directory = v6 i }, q6)

  header_forth : 32 ≤ length s → (b : List ℕ) × Reads s 0 32 b × IsHeader read_header b
  unfolding read_header
  header_forth h =
      let (a1, l1) = bytes_forth 0 8 8 refl (omega arith) in
      let (b2, a2, n2) = number_forth 8 2 10 refl (omega arith) in
      let (b3, a3, n3) = number_forth 10 2 12 refl (omega arith) in
      let (b4, a4, n4) = number_forth 12 4 16 refl (omega arith) in
      let (b5, a5, n5) = number_forth 16 8 24 refl (omega arith) in
      let (b6, a6, n6) = number_forth 24 8 32 refl (omega arith) in
      (_, reads_join a1 (reads_join a2 (reads_join a3 (reads_join a4 (reads_join a5 a6)))), header l1 n2 n3 n4 n5 n6)

  -- the entry that is read at a position
  unfoldable pub read_entry : ℕ → Entry
  read_entry at =
      record {
        kind = or_zero (number_at 4 s at);
        version = or_zero (number_at 2 s (at + 4));
        flags = or_zero (number_at 2 s (at + 6));
        compression = or_zero (number_at 2 s (at + 8));
        algorithm = or_zero (number_at 2 s (at + 10));
        offset = or_zero (number_at 8 s (at + 12));
        size = or_zero (number_at 8 s (at + 20));
        digest = span s (at + 28) 32;
      }

  entry_back : {x : Entry} {b : List ℕ} {at e : ℕ} → Reads s at e b → IsEntry x b → (read_entry at ≡ x) × (e ≡ at + 60)
  unfolding read_entry
  entry_back {x} {at = at} r (entry {kind = kind} {version = version} {flags = flags} {compression = compression} {algorithm = algorithm} {offset = offset} {size = size} m1 m2 m3 m4 m5 m6 m7 l) =
      let (p1, a1, r1) = reads_split {b = kind} r in
      let (v1, q1) = number_back at 4 refl a1 m1 in
      let (p2, a2, r2) = reads_split {b = version} r1 in
      let (v2, q2) = number_back (at + 4) 2 q1 a2 m2 in
      let (p3, a3, r3) = reads_split {b = flags} r2 in
      let (v3, q3) = number_back (at + 6) 2 (omega arith) a3 m3 in
      let (p4, a4, r4) = reads_split {b = compression} r3 in
      let (v4, q4) = number_back (at + 8) 2 (omega arith) a4 m4 in
      let (p5, a5, r5) = reads_split {b = algorithm} r4 in
      let (v5, q5) = number_back (at + 10) 2 (omega arith) a5 m5 in
      let (p6, a6, r6) = reads_split {b = offset} r5 in
      let (v6, q6) = number_back (at + 12) 8 (omega arith) a6 m6 in
      let (p7, a7, r7) = reads_split {b = size} r6 in
      let (v7, q7) = number_back (at + 20) 8 (omega arith) a7 m7 in
      let (v8, q8) = bytes_back (at + 28) 32 (omega arith) r7 l in (
        λ i. record {
          kind = v1 i;
          version = v2 i;
          flags = v3 i;
          compression = v4 i;
          algorithm = v5 i;
          offset = v6 i;
          size = v7 i;
          digest = v8 i;
        },
        omega arith,
      )

  entry_forth : (at : ℕ) → at + 60 ≤ length s → (b : List ℕ) × Reads s at (at + 60) b × IsEntry (read_entry at) b
  unfolding read_entry
  entry_forth at h =
      let (b1, a1, n1) = number_forth at 4 (at + 4) refl (omega arith) in
      let (b2, a2, n2) = number_forth (at + 4) 2 (at + 6) (omega arith) (omega arith) in
      let (b3, a3, n3) = number_forth (at + 6) 2 (at + 8) (omega arith) (omega arith) in
      let (b4, a4, n4) = number_forth (at + 8) 2 (at + 10) (omega arith) (omega arith) in
      let (b5, a5, n5) = number_forth (at + 10) 2 (at + 12) (omega arith) (omega arith) in
      let (b6, a6, n6) = number_forth (at + 12) 8 (at + 20) (omega arith) (omega arith) in
      let (b7, a7, n7) = number_forth (at + 20) 8 (at + 28) (omega arith) (omega arith) in
      let (a8, l8) = bytes_forth (at + 28) 32 (at + 60) (omega arith) (omega arith) in (
        _,
        reads_join a1 (reads_join a2 (reads_join a3 (reads_join a4 (reads_join a5 (reads_join a6 (reads_join a7 a8)))))),
        entry n1 n2 n3 n4 n5 n6 n7 l8,
      )

  -- the n entries that are read from a position on
  unfoldable pub read_entries : ℕ → ℕ → List Entry
  read_entries zero at = []
  read_entries (suc n) at = read_entry at ∷ read_entries n (at + 60)

  entries_back : {es : List Entry} {b : List ℕ} {at e : ℕ} → Reads s at e b → Sequence IsEntry es b →
      (read_entries (length es) at ≡ es) × (e ≡ at + 60 * length es)
  unfolding read_entries
  entries_back r none = (refl, omega arith)
  entries_back {at = at} r (next {a = a} i j) =
      let (p, t, u) = reads_split {b = a} r in
      let (g, q) = entry_back t i in
      let (k, m) = entries_back (rw q at u) j in
      (rw (g, k), omega arith)

  entries_forth : (n at : ℕ) → at + 60 * n ≤ length s →
      (b : List ℕ) × Reads s at (at + 60 * n) b × Sequence IsEntry (read_entries n at) b × (length (read_entries n at) ≡ n)
  unfolding read_entries
  entries_forth zero at h =
      let q : at + 60 * 0 ≡ at = omega arith in ([], rw q (reads_none s at (omega arith)), none, refl)
  entries_forth (suc n) at h =
      let (a, r, i) = entry_forth at (omega arith) in
      let (b, t, j, m) = entries_forth n (at + 60) (omega arith) in
      let q : at + 60 * suc n ≡ at + 60 + 60 * n = omega arith in
      (a ++ b, rw q (reads_join r t), next i j, ap suc m)

-- a file has the header that is read and no other; it is there where there is room for it
pub one_header : {file : List ℕ} {h : Header} → HasHeader h file → (read_header file ≡ h) × (32 ≤ length file)
one_header (starts {b = b} i rest) =
    let (p, r, t) = reads_split {b = b} (reads_all (b ++ rest)) in
    let (e, q) = header_back (b ++ rest) r i in
    let k : p ≤ length (b ++ rest) = r.fits in
    (e, omega arith)

pub has_header : (file : List ℕ) → 32 ≤ length file → HasHeader (read_header file) file
has_header file h =
    let (b, r, i) = header_forth file h in
    subst (HasHeader (read_header file)) (sym r.rest) (starts i (drop 32 file))

-- the entries that are read
abbrev pub read_directory : List ℕ → List Entry
read_directory file = read_entries file (read_header file).sections 32

pub one_directory : {file : List ℕ} {h : Header} {es : List Entry} → HasDirectory h es file →
    (read_header file ≡ h) × (read_directory file ≡ es) × (32 + 60 * h.sections ≤ length file)
one_directory {h = h} {es = es} (goes_on {b = b} {d = d} i l j rest) =
    let file = b ++ (d ++ rest) in
    let (p, r, t) = reads_split {b = b} (reads_all file) in
    let (e, q) = header_back file r i in
    let (x, u, v) = reads_split {b = d} {c = rest} (rw q at t) in
    let (f, k) = entries_back file u j in
    let m : (read_header file).sections ≡ length es = ap (λ (y : Header). y.sections) e ∙ sym l in
    let o : x ≤ length file = u.fits in
    (e, ap (λ (n : ℕ). read_entries file n 32) m ∙ f, omega arith)

pub has_directory : (file : List ℕ) → 32 + 60 * (read_header file).sections ≤ length file →
    HasDirectory (read_header file) (read_directory file) file
has_directory file h =
    let (b, r, i) = header_forth file (omega arith) in
    let (d, t, j, l) = entries_forth file (read_header file).sections 32 h in
    let rest = drop (32 + 60 * (read_header file).sections) file in
    subst (HasDirectory (read_header file) (read_directory file)) (sym (r.rest ∙ ap (λ (x : List ℕ). b ++ x) t.rest))
    (goes_on i l j rest)

-- entries of a file are those that are read
pub of_directory : {file : List ℕ} (P : List Entry → Type 0) {h : Header} {es : List Entry} → HasDirectory h es file → P es →
    P (read_directory file)
of_directory P k = subst P (sym (one_directory k).1)

-- an entry of the directory is one that is read
pub entry_read : {file : List ℕ} {e : Entry} → HasEntry file e → Among e (read_directory file)
entry_read {e = e} (listed k a) = of_directory (Among e) k a

-- an entry names a section exactly where it lies in the file, and it is the span of the entry
pub one_section : {file : List ℕ} {e : Entry} {s : List ℕ} → IsSection e s file →
    (e.offset + e.size ≤ length file) × (span file e.offset e.size ≡ s)
one_section {e = e} {s = s} (section before after l m) =
    let file = before ++ (s ++ after) in
    let (p, r, t) = reads_split {b = before} (reads_all file) in
    let q : p ≡ e.offset = omega arith in
    let (x, u, v) = reads_split {b = s} {c = after} (rw q at t) in
    let (n, z) = bytes_back file e.offset e.size {e = x} refl u m in
    let o : x ≤ length file = u.fits in
    (omega arith, n)

pub has_section : (file : List ℕ) (e : Entry) → e.offset + e.size ≤ length file →
    IsSection e (span file e.offset e.size) file
has_section file e h =
    let (r, l) = bytes_forth file e.offset e.size (e.offset + e.size) refl h in
    let k : length (take e.offset file) ≡ e.offset = simp length-take (omega arith) in
    let q : file ≡ take e.offset file ++ (span file e.offset e.size ++ drop (e.offset + e.size) file) =
    sym (take-append-drop e.offset file) ∙ ap (λ (x : List ℕ). take e.offset file ++ x) r.rest in
    subst (IsSection e (span file e.offset e.size)) (sym q)
    (section (take e.offset file) (drop (e.offset + e.size) file) k l)
