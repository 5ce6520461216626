-- Laws of filling the table of starts: a turn of the loop that writes a record's word, and how large the word is.
use Rattle.std.specs.Prelude.{Option, Some, None, IsSome}
use Prim.Native.Nat.{ℕ, suc, ◌+◌, ◌-◌, ◌*◌, ◌≤◌, ◌<◌}
use mathlib.Core.Path.{◌≡◌, refl, ap, ◌∙◌}
use mathlib.Core.List.{List, ◌∷◌, ◌++◌}
use native.Mathlib.Nat.{sub-zero}
use native.Mathlib.Omega.{arith}
use lib.ListN.{length, set, drop, length-drop}
use Rattle.lists.proofs.Filled.{Filled, next_left, filled_none, filled_on, filled_all}
use Rattle.nodes.specs.Records.{record_end}
use Rattle.nodes.specs.Links.{Sized}
use Rattle.nodes.specs.Starts.{starts}
use Rattle.nodes.proofs.Walks.{record_short, records_past}
use Rattle.nodes.proofs.StartTable.{starts_length}

-- the first k of n records have their starts in `out`, which was `old`; the others stand from p on
pub record Started (s : List ℕ) (n : ℕ) (old out : List ℕ) (p k : ℕ) : Type 0 where
  pub all : length (starts s n 8) ≡ n
  pub fill : Filled (starts s n 8) old out k
  pub next : drop k (starts s n 8) ≡ starts s (n - k) p
  pub low : p ≤ 8 + 101 * k

module _ {s : List ℕ} {n : ℕ} {old : List ℕ} where
  pub started_none : Sized s n → Started s n old old 8 0
  started_none h = record {
    all = starts_length s n 8 ∙ h.all;
    fill = filled_none;
    next = rw sub-zero;
    low = omega arith;
  }

  module _ {out : List ℕ} {p k : ℕ} (f : Started s n old out p k) where
    pub started_all : n ≤ k → out ≡ starts s n 8 ++ drop n old
    started_all h =
        let e : k ≡ n = omega (arith, f.all, f.fill.below) in
        rw e at (filled_all f.fill (omega (arith, f.all)))

    -- where some are left; z stands for the end of the next, as the call answered it
    module _ (l : k < n) {z : Option ℕ} (e : z ≡ record_end s p) where
      pub started_on : {q : ℕ} → z ≡ Some q → n ≤ length old → Started s n old (set out k p) q (k + 1)
      unfolding starts
      started_on {q} g room =
          let m : n - k ≡ suc (n - (k + 1)) = omega arith in
          let next : drop k (starts s n 8) ≡ p ∷ starts s (n - (k + 1)) q = f.next ∙ rw (m, ← e, g) in
          record {
            all = f.all;
            fill = filled_on f.fill next (omega (arith, f.all));
            next = next_left (starts s n 8) k next;
            low = omega (arith, f.low, record_short s p e g);
          }

    pub started_some : k < n → {z : Option ℕ} → z ≡ record_end s p → IsSome z
    started_some l {z = Some q} e = refl
    started_some l {z = None} e =
        let none : length (starts s (n - k) p) ≡ 0 =
        starts_length s (n - k) p ∙ ap length (records_past s n k p l e refl) in
        absurd (omega (arith, f.all, ap length f.next, length-drop k (starts s n 8), none))
