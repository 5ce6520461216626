-- What an outcome tells: of a call that answers by a table, a refusal with its number, or what passed.
use Rattle.std.specs.Prelude.{Result, Ok, Err, IsErrAnd}
use Rattle.std.proofs.lemmas.Result.{err_from_is_err_and}
use Prim.Native.Nat.{ℕ}
use mathlib.Core.Path.{◌≡◌, sym, ap, ◌∙◌}
use native.Mathlib.Decide.{ℕ_discrete}
use native.Mathlib.Omega.{arith}
use borrow.Author.Tests.{eq-eqb, ne_eqb}
use Rattle.refusals.specs.declared.Refusal.{Refusal}
use Rattle.refusals.specs.declared.Refusal.TheVariants.{FileTooLong, FileTooShort, OtherMagic, OtherMajor, NoDirectory, CriticalSection, CodedSection, SectionOutside, SectionRepeated, SectionMissing, DigestDiffers, ManifestShape, Unsupported, ExportNames, NodesShape, HashWrong, HashTwice, ChildMissing, Circle, HashUnresolved, NoRoom, ExportsTooShort, NoSlot, Damaged, NoExport, TooManySteps, TooDeep}
use Rattle.refusals.specs.Numbers.{refusal_number, by_number, answer_of}
use Rattle.refusals.specs.Refusals.{unless_refused}

-- the two constructors of an outcome's type tell what they were given
pub record Outcome {A B : Type 0} (refused : ℕ → A) (passed : B → A) : Type 0 where
  pub number : {i j : ℕ} → refused i ≡ refused j → i ≡ j
  pub thing : {x y : B} → passed x ≡ passed y → x ≡ y
  pub apart : {i : ℕ} {x : B} → refused i ≡ passed x → ⊥

-- v stands for the outcome, as the call answered it
module _ {A B : Type 0} {refused : ℕ → A} {passed : B → A} (o : Outcome refused passed) (n : ℕ) (x : B) {v : A}
    (e : v ≡ unless_refused n refused (passed x)) where
  refused_as : (n ≡ 0 → ⊥) → v ≡ refused n
  refused_as z = rw (ne_eqb n 0 z) at e

  passed_as : n ≡ 0 → v ≡ passed x
  passed_as z = rw (eq-eqb n 0 z) at e

  pub told_refusal : {k : ℕ} → v ≡ refused k → (k ≡ n) × (k ≡ 0 → ⊥)
  told_refusal {k} g = elim (ℕ_discrete n 0) [
    | yes z ↦ absurd (o.apart (sym g ∙ passed_as z))
    | no z ↦ let f = o.number (sym g ∙ refused_as z) in (f, λ y. z (sym f ∙ y))
  ]

  pub told_pass : {y : B} → v ≡ passed y → (n ≡ 0) × (y ≡ x)
  told_pass {y} g = elim (ℕ_discrete n 0) [
    | yes z ↦ (z, o.thing (sym g ∙ passed_as z))
    | no z ↦ absurd (o.apart (sym (refused_as z) ∙ g))
  ]

-- so do those of a result, by its number
pub by_result : {A : Type 0} → Outcome {A = Result A ℕ} {B = A} Err Ok
by_result =
    record {
      number = λ e. cc;
      thing = λ e. cc;
      apart = λ e. let z : ◌≡◌ {A = ℕ} 0 1 = cc in absurd (omega arith);
    }

-- no refusal has the number 0
pub number_some : (r : Refusal) → refusal_number r ≡ 0 → ⊥
number_some FileTooLong e = omega arith
number_some FileTooShort e = omega arith
number_some OtherMagic e = omega arith
number_some OtherMajor e = omega arith
number_some NoDirectory e = omega arith
number_some CriticalSection e = omega arith
number_some CodedSection e = omega arith
number_some SectionOutside e = omega arith
number_some SectionRepeated e = omega arith
number_some SectionMissing e = omega arith
number_some DigestDiffers e = omega arith
number_some ManifestShape e = omega arith
number_some Unsupported e = omega arith
number_some ExportNames e = omega arith
number_some NodesShape e = omega arith
number_some HashWrong e = omega arith
number_some HashTwice e = omega arith
number_some ChildMissing e = omega arith
number_some Circle e = omega arith
number_some HashUnresolved e = omega arith
number_some NoRoom e = omega arith
number_some ExportsTooShort e = omega arith
number_some NoSlot e = omega arith
number_some Damaged e = omega arith
number_some NoExport e = omega arith
number_some TooManySteps e = omega arith
number_some TooDeep e = omega arith

-- r stands for the outcome as the code has it
module _ {A : Type 0} {r : Result A Refusal} where
  pub refused_by_number : {v : Result A ℕ} → by_number r ≡ v → {k : Refusal} → r ≡ Err k → v ≡ Err (refusal_number k)
  refused_by_number e g = sym e ∙ ap by_number g

  pub passed_by_number : {v : Result A ℕ} → by_number r ≡ v → {x : A} → r ≡ Ok x → v ≡ Ok x
  passed_by_number e g = sym e ∙ ap by_number g

  -- of a check: its answer, which is not 0, or 0
  pub answer_refused : {n : ℕ} → answer_of r ≡ n → {k : Refusal} → r ≡ Err k → (refusal_number k ≡ n) × (refusal_number k ≡ 0 → ⊥)
  answer_refused e {k} g = (sym (ap answer_of g) ∙ e, number_some k)

  pub answer_passed : {n : ℕ} → answer_of r ≡ n → {x : A} → r ≡ Ok x → 0 ≡ n
  answer_passed e g = sym (ap answer_of g) ∙ e

-- what a `?` hands on: r stands for what the function then returns
pub handed_on : {A : Type 0} (k : Refusal) (r : Result A Refusal) → IsErrAnd r (λ y. y ≡ k) → by_number r ≡ Err (refusal_number k)
handed_on k r h = let (y, e, f) = err_from_is_err_and r h in rw (e, f)

pub answer_on : {A : Type 0} (k : Refusal) (r : Result A Refusal) → IsErrAnd r (λ y. y ≡ k) → answer_of r ≡ refusal_number k
answer_on k r h = let (y, e, f) = err_from_is_err_and r h in rw (e, f)
