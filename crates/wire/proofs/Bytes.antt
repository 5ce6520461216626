-- Laws of the test that a byte string stands at a position.
use Prim.Native.Nat.{ℕ, ◌+◌, ◌-◌, ◌≤◌, ◌<◌}
use mathlib.Core.Path.{◌≡◌, sym, ◌∙◌}
use mathlib.Core.List.{List}
use mathlib.Core.Bool.{true, false}
use mathlib.Core.Logic.{◌↔◌}
use native.Mathlib.Omega.{arith}
use native.Mathlib.Decide.{dec_le}
use lib.ListN.{length, take, drop}
use Rattle.lists.specs.Lists.{same_bytes}
use Rattle.lists.proofs.Same.{not_both, same_sound, same_true}
use Rattle.wire.specs.Wire.{holds_at}
use Rattle.wire.proofs.Parts.{part_lent}
use Rattle.wire.proofs.Spans.{inside_in, inside_out}

module _ (s : List ℕ) (at : ℕ) (t : List ℕ) where
  pub holds_in : at + length t ≤ length s → same_bytes (take (length t) (drop at s)) t ≡ holds_at s at t
  unfolding holds_at
  holds_in h = rw (inside_in s at (length t) h)

  pub holds_lent : at + length t ≤ length s → same_bytes (take (at + length t - at) (drop at s)) t ≡ holds_at s at t
  holds_lent h = rw part_lent (holds_in h)

  pub holds_out : length s < at + length t → false ≡ holds_at s at t
  unfolding holds_at
  holds_out h = rw (inside_out s at (length t) h)

  pub holds_exactly : (holds_at s at t ≡ true) ↔ ((at + length t ≤ length s) × (take (length t) (drop at s) ≡ t))
  holds_exactly = (there, back)
    where
      there : holds_at s at t ≡ true → (at + length t ≤ length s) × (take (length t) (drop at s) ≡ t)
      there h = elim (dec_le (at + length t) (length s)) [
        | yes k ↦ (k, same_sound _ _ (holds_in k ∙ h))
        | no k ↦ not_both h (sym (holds_out (omega (arith, k))))
      ]

      back : (at + length t ≤ length s) × (take (length t) (drop at s) ≡ t) → holds_at s at t ≡ true
      back h = sym (holds_in h.0) ∙ same_true h.1
