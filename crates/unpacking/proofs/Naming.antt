-- Laws of writing the slots of the exports: a turn of the loop that writes one.
use Rattle.std.specs.Prelude.{Option, Some, None}
use Prim.Native.Nat.{ℕ, ◌+◌, ◌-◌, ◌≤◌, ◌<◌}
use mathlib.Core.Path.{◌≡◌, refl, ap, ◌∙◌}
use mathlib.Core.List.{List, [], ◌∷◌, ◌++◌}
use native.Mathlib.Nat.{sub-zero}
use native.Mathlib.Omega.{arith}
use lib.ListN.{length, set, drop, length-drop}
use Rattle.lists.proofs.Filled.{Filled, next_left, filled_none, filled_on, filled_all}
use Rattle.manifest.proofs.Lists.{list_step, list_stop}
use Rattle.nodes.specs.Records.{NodeRecord as Record}
use Rattle.manifest.specs.declared.listed.Reference.TheVariants.{Export}
use Rattle.manifest.specs.Content.{reference_end, reference_hash}
use Rattle.references.specs.References.{hashes_from}
use Rattle.unpacking.specs.Written.{slot_named, slots_named}

slots_length : (rs : List Record) (hs : List (List ℕ)) → length (slots_named rs hs) ≡ length hs
unfolding slots_named
slots_length rs [] = refl
slots_length rs (h ∷ hs) = omega (arith, slots_length rs hs)

-- the slots of the first j of n exports stand in `out`, which was `old`; the others stand from p on in the manifest
pub record Naming (m : List ℕ) (rs : List Record) (n at : ℕ) (old out : List ℕ) (p j : ℕ) : Type 0 where
  pub all : length (hashes_from m Export n at) ≡ n
  pub fill : Filled (slots_named rs (hashes_from m Export n at)) old out j
  pub next : drop j (slots_named rs (hashes_from m Export n at)) ≡ slots_named rs (hashes_from m Export (n - j) p)

module _ (m : List ℕ) (rs : List Record) (n at : ℕ) (old : List ℕ) where
  abbrev items : List ℕ
  items = slots_named rs (hashes_from m Export n at)

  pub naming_none : length (hashes_from m Export n at) ≡ n → Naming m rs n at old old at 0
  naming_none h = record { all = h; fill = filled_none; next = rw sub-zero }

  module _ {out : List ℕ} {p j : ℕ} (f : Naming m rs n at old out p j) where
    count : length items ≡ n
    count = slots_length rs (hashes_from m Export n at) ∙ f.all

    pub naming_all : n ≤ j → out ≡ items ++ drop n old
    naming_all h =
        let e : j ≡ n = omega (arith, count, f.fill.below) in
        rw e at (filled_all f.fill (omega (arith, count)))

    -- where some are left; z stands for the end of the next, as the call answered it
    module _ (l : j < n) {z : Option ℕ} (e : z ≡ reference_end m Export p) where
      pub naming_bad : {A : Type 0} → z ≡ None → A
      naming_bad g =
          let none = list_stop (reference_end m Export) (reference_hash m Export) (n - j) p (omega arith) e g in
          absurd
          (omega (
            arith,
            count,
            length-drop j items,
            ap length f.next,
            slots_length rs (hashes_from m Export (n - j) p),
            ap length none,
          ))

      -- h and x stand for its hash and its slot
      pub naming_on : {q : ℕ} → z ≡ Some q → n ≤ length old → {h : List ℕ} → h ≡ reference_hash m Export p →
          {x : ℕ} → x ≡ (slot_named rs h).0 → Naming m rs n at old (set out j x) q (j + 1)
      unfolding slots_named
      naming_on {q} g room eh {x} ex =
          let on = list_step (reference_end m Export) (reference_hash m Export) (n - j) p (omega arith) e g in
          let d : n - (j + 1) ≡ n - j - 1 = omega arith in
          let next : drop j items ≡ x ∷ slots_named rs (hashes_from m Export (n - j - 1) q) =
          rw (ex, eh) (rw on at f.next) in
          record {
            all = f.all;
            fill = filled_on f.fill next (omega (arith, count));
            next = rw d (next_left items j next);
          }
