-- Texts that are put one after another.
use Prim.Native.Nat.{ℕ, ◌+◌, ◌-◌, ◌≤◌}
use mathlib.Core.Path.{◌≡◌, refl, sym, ap, ◌∙◌}
use mathlib.Core.List.{List, [], ◌++◌, append_assoc, append-nil}
use native.Mathlib.Omega.{arith}
use lib.ListN.{length, take, drop, length-append, length-take}
use lib.Seq.{drop-drop}
use borrow.Rule.Slice.PartMut.{put_mid}
use Rattle.std.proofs.lemmas.Slice.{take-put_mid, drop-put_mid}
use Rattle.text.specs.Put.{Put}

-- what stands after a later place stays where what stands after an earlier one does
pub drop_later : (p q : ℕ) (a b : List ℕ) → p ≤ q → drop p a ≡ drop p b → drop q a ≡ drop q b
drop_later p q a b h e =
    let s : p + (q - p) ≡ q = omega arith in
    let later : drop (p + (q - p)) a ≡ drop (p + (q - p)) b =
    sym (drop-drop (q - p) p a) ∙ (ap (drop (q - p)) e ∙ drop-drop (q - p) p b)
    in
    rw s at later

-- no text
pub put_none : (before : List ℕ) (at : ℕ) → Put [] before at before at
put_none before at = record { ends = omega arith; holds = sym (append-nil (take at before)); stays = refl }

-- two texts, one after the other, are one
pub then : {t u before middle after : List ℕ} {at p q : ℕ} → Put t before at middle p → Put u middle p after q →
    Put (t ++ u) before at after q
then {t} {u} {before} {middle} {after} {at} {p} {q} a b =
    record {
      ends = omega (arith, length-append t u, a.ends, b.ends);
      holds = b.holds ∙ (ap (λ (l : List ℕ). l ++ u) a.holds ∙ append_assoc (take at before) t u);
      stays = b.stays ∙ drop_later p q middle before (omega (arith, b.ends)) a.stays;
    }

-- a text at the start of a buffer
pub at_start : {text before after : List ℕ} {r : ℕ} → Put text before 0 after r →
    (r ≤ length after) × (take r after ≡ text) × (drop r after ≡ drop r before)
at_start {text} {before} {after} {r} p =
    (omega (arith, length-take r after, ap length p.holds, p.ends), p.holds, p.stays)

-- a text that is copied into the part of a buffer that is as long
pub put_copied : (t u before : List ℕ) (at n : ℕ) → n ≡ length t → u ≡ t → at + length t ≤ length before →
    Put t before at (put_mid at n before u) (at + length t)
put_copied t u before at n e f h =
    rw f (record {
      ends = refl;
      holds = take-put_mid at n before t (at + length t) refl (omega arith);
      stays = drop-put_mid at n before t (at + length t) (omega arith) (omega arith) (sym e);
    })
