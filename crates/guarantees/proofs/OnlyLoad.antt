-- A call that keeps the promises of the load call does what it does: what both accept they leave and answer alike, and what
-- they refuse has one lowest number.
use Rattle.std.specs.Prelude.{Result, Ok, Err}
use Rattle.loader.specs.declared.Accepted.{Accepted}
use Prim.Native.Nat.{ℕ, ◌<◌}
use mathlib.Core.Path.{◌≡◌, refl, sym, ap, ◌∙◌}
use mathlib.Core.Logic.Iff
use native.Mathlib.Omega.{arith}
use native.Mathlib.Decide.{ℕ_discrete}
use Rattle.soundness.proofs.Smallest.{one_number}
use Rattle.loader.specs.Answer.{LoadNumbers, load_numbers}
use Rattle.loader.specs.Load.{Loaded, loaded, load}
use Rattle.guarantees.specs.Load.{load_numbers_of, OnlyLoad}
use Rattle.guarantees.proofs.LoadAccepted.{load_number_exactly, load_refusal_keeps}
use Rattle.guarantees.proofs.LoadLeaves.{load_leaves}
use Rattle.guarantees.proofs.OneLoad.{one_load}

-- an answer is known by its numbers: an accepted load has nodes
one_answer : (a b : Result Accepted ℕ) → ((load_numbers a).number ≡ 0 → 0 < (load_numbers a).nodes) → load_numbers a ≡ load_numbers b → a ≡ b
one_answer (Err n) (Err m) some e = ap Err (ap (λ (x : LoadNumbers). x.number) e)
one_answer (Err n) (Ok c) some e = absurd (omega (arith, some (ap (λ (x : LoadNumbers). x.number) e)))
one_answer (Ok c) (Err n) some e =
    absurd (omega (arith, some refl, ap (λ (x : LoadNumbers). x.nodes) e))
one_answer (Ok c) (Ok d) some e =
    let p : c.nodes ≡ d.nodes = ap (λ (x : LoadNumbers). x.nodes) e in
    let q : c.exports ≡ d.exports = ap (λ (x : LoadNumbers). x.exports) e in
    λ t. Ok (record { nodes = p t; exports = q t })

pub only_load : OnlyLoad
only_load call exactly keeps leaves file words base exports =
    go (call file words base exports) refl (load file words base exports) refl
    (one_number (λ n. Iff.rfl) (exactly file words base exports) (load_number_exactly file words base exports))
  where
    go : (x : Loaded) → call file words base exports ≡ x → (y : Loaded) → load file words base exports ≡ y →
        (load_numbers_of (call file words base exports)).number ≡ (load_numbers_of (load file words base exports)).number → x ≡ y
    go (loaded w e a) p (loaded v o b) q same =
        let one : (load_numbers a).number ≡ (load_numbers b).number = rw (p, q) at same in
        elim (ℕ_discrete (load_numbers a).number 0) [
          | yes z ↦
              let l = leaves file words w base exports e a p z in
              let (x, y, n) = one_load l (load_leaves file words v base exports o b q (sym one ∙ z)) in
              λ i. loaded (x i) (y i) (one_answer a b (λ _. l.holding.some) n i)
          | no d ↦
              let (i, _, f, x, y) = keeps file words w base exports e a p d in
              let (k, _, g, s, t) = load_refusal_keeps file words v base exports o b q (λ z. d (one ∙ z)) in
              let m : i ≡ k = cc in
              let n : load_numbers a ≡ load_numbers b = f ∙ rw m (sym g) in
              λ j. loaded ((x ∙ sym s) j) ((y ∙ sym t) j) (one_answer a b (λ z. absurd (d z)) n j)
        ]
