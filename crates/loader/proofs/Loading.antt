-- The load call's ways: a refusal by 1 to 20, or what is admitted to our part of the table.
use Rattle.std.specs.Prelude.{Result, Err}
use Rattle.loader.specs.declared.Accepted.{Accepted}
use Prim.Native.Nat.{ℕ, ◌-◌, ◌≤◌, ◌<◌}
use mathlib.Core.Path.{◌≡◌, refl, ap, ◌∙◌}
use mathlib.Core.Bool.{Bool, true, false, cond}
use mathlib.Core.List.{List, append-nil}
use native.Mathlib.Omega.{arith}
use lib.Dec.{ltb, eqb}
use lib.IntN.{ℤ}
use lib.ListN.{length, take, drop, take-append-drop}
use lib.Seq.{take-length, drop-length}
use borrow.Rule.Slice.PartMut.{mid_of, put_mid}
use borrow.Author.Tests.{lt-ltb}
use Rattle.refusals.specs.Refusals.{answer, unless_refused}
use Rattle.refusals.proofs.Rows.{by_refusal}
use Rattle.std.specs.Prelude.{Option, Some, None, unwrap_or}
use Rattle.table.specs.Base.{base_of, from_base}
use Rattle.table.specs.Slots.{room}
use Rattle.table.proofs.BaseLaws.{base_at}
use Rattle.table.proofs.Tail.{tail_lent, tail_home}
use Rattle.nodes.proofs.Placing.{shaped_some}
use Rattle.container.specs.Directory.{nodes_section}
use Rattle.bundle.specs.Checks.{refusal}
use Rattle.bundle.proofs.Stages.{sound_shaped}
use Rattle.loader.specs.Load.{records_in, exports_in, unfit, crowded, Loaded, loaded, loaded_with, accept, accept_from, load}
use Rattle.loader.specs.Admit.{start_of, fit_checks, admitted}
use Rattle.loader.proofs.Refusals.{by_bundle, past_bundle}

-- our part starts in the table
start_inside : (len : ℕ) (base : ℤ) (p : Option ℕ) → base_of base len ≡ p → unwrap_or p len ≤ len
start_inside len base (Some b) e = (base_at base b len e).1
start_inside len base None e = omega arith

-- a stands for where, as the call answered it
pub started_inside : (len : ℕ) (base : ℤ) {a : ℕ} → a ≡ start_of base len → a ≤ len
started_inside len base e = rw e (start_inside len base (base_of base len) refl)

-- the words before the base, and a part that a refusal left as it was
same_after : (b : ℕ) (w out : List ℕ) (n : ℕ) (accepted : Loaded) →
    loaded_with (take b w) (unless_refused n (λ i. loaded (drop b w) out (Err i)) accepted) ≡
    unless_refused n (λ i. loaded w out (Err i)) (loaded_with (take b w) accepted)
same_after b w out n accepted = go (eqb n 0)
  where
    go : (t : Bool) → loaded_with (take b w) (cond t accepted (loaded (drop b w) out (Err n))) ≡
        cond t (loaded_with (take b w) accepted) (loaded w out (Err n))
    go true = refl
    go false = ap (λ (l : List ℕ). loaded l out (Err n)) (take-append-drop b w)

module _ (file w out : List ℕ) (base : ℤ) where
  -- n stands for a refusal by 1 to 20
  pub load_refused : {n : ℕ} → n ≡ refusal file → (n ≡ 0 → ⊥) → loaded w out (Err n) ≡ load file w base out
  unfolding load
  load_refused e some =
      by_refusal (λ i. loaded w out (Err i)) (accept_from file w base out) (by_bundle file w base out e some) some

  -- where none of 1 to 20 holds, there is a node, and what is admitted to our part is what the load comes to
  module _ (z : refusal file ≡ 0) where
    some : 0 < length (records_in file)
    some = omega (arith, shaped_some (nodes_section file) (sound_shaped file z))

    admitted_from : (p : Option ℕ) → base_of base (length w) ≡ p →
        loaded_with (take (unwrap_or p (length w)) w)
        (admitted (records_in file) (exports_in file) (drop (unwrap_or p (length w)) w) out) ≡ load file w base out
    unfolding load accept_from unfit crowded from_base admitted fit_checks answer room
    admitted_from (Some b) e =
        let n : ℕ = cond (ltb (room (drop b w)) (length (records_in file))) 21 (cond (crowded out (length (exports_in file))) 22 0) in
        rw (past_bundle file w base out z, e) (same_after b w out n (accept (records_in file) (exports_in file) (drop b w) out))
    admitted_from None e =
        rw (past_bundle file w base out z, e, drop-length w, take-length w)
        (rw (lt-ltb 0 (length (records_in file)) some) (ap (λ (l : List ℕ). loaded l out (Err 21)) (append-nil w)))

    -- b stands for where our part starts, z' for the base as it was passed on; the part comes back with what was admitted
    pub load_admitted : {z' : ℤ} → z' ≡ base → (b : ℕ) → b ≡ start_of z' (length w) → {w' out' : List ℕ} {a : Result Accepted ℕ} →
        loaded w' out' a ≡ admitted (records_in file) (exports_in file) (mid_of b (length w - b) w) out →
        loaded (put_mid b (length w - b) w w') out' a ≡ load file w base out
    load_admitted ez b e {w'} {out'} {a} g =
        let at : b ≡ start_of base (length w) = rw (← ez) e in
        ap (λ (l : List ℕ). loaded l out' a) (tail_home b w w' (started_inside (length w) base at))
        ∙ ap (loaded_with (take b w)) (g ∙ ap (λ (l : List ℕ). admitted (records_in file) (exports_in file) l out) (tail_lent b w))
        ∙ (rw at (admitted_from (base_of base (length w)) refl))
