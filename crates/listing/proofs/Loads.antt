-- What the answer of a load says of the text, and of the bundle.
use Rattle.std.specs.Prelude.{Result, Err}
use Rattle.loader.specs.Accepted.{accepted}
use Rattle.loader.specs.declared.Accepted.{Accepted}
use Prim.Native.Nat.{ℕ, ◌*◌}
use mathlib.Core.Path.{◌≡◌, refl, sym, ap, ◌∙◌}
use mathlib.Core.Bool.{Bool, true, false}
use mathlib.Core.List.{List, ◌++◌}
use native.Mathlib.Omega.{arith}
use borrow.Author.Tests.{eqb-true}
use lib.Dec.{eqb}
use lib.IntN.{pos}
use lib.ListN.{length, take, replicate}
use Rattle.sizes.specs.Sizes.{exports_size, nodes_size}
use Rattle.table.specs.Base.{base_of, from_base}
use Rattle.table.specs.Slots.{width}
use Rattle.manifest.specs.Content.{names}
use Rattle.manifest.proofs.Counted.{few_exports}
use Rattle.container.specs.Directory.{manifest_section}
use Rattle.bundle.specs.Checks.{refusal}
use Rattle.loader.specs.Load.{exports_in, load_refusal, Loaded, loaded, accept, accept_from, load}
use Rattle.loader.proofs.Refusals.{bundle_clear}
use Rattle.report.specs.Report.{lines, refused_line, ok_line, report}
use Rattle.report.specs.Writing.{Exported}
use Rattle.listing.specs.Listing.{listing}
use Rattle.loader.specs.Answer.{load_numbers}

-- the tables that the program lends, the load that it makes, and the number that is answered
abbrev node_table : List ℕ
node_table = replicate (width * nodes_size.most) 0

abbrev export_table : List ℕ
export_table = replicate exports_size.most 0

abbrev made : List ℕ → Loaded
made input = load input node_table (pos 0) export_table

abbrev number : List ℕ → ℕ
number input = load_refusal input node_table (pos 0) export_table

-- how many exports a load answers
abbrev told : Loaded → ℕ
told (loaded w out a) = (load_numbers a).exports

module _ (input : List ℕ) {words slots : List ℕ} {answer : Result Accepted ℕ} (e : loaded words slots answer ≡ made input) where
  reported : listing input ≡ report (loaded words slots answer) (names (exports_in input))
  unfolding listing
  reported = rw e

  pub listing_refused : {n : ℕ} → answer ≡ Err n → listing input ≡ refused_line n
  unfolding report
  listing_refused q = reported ∙ rw q

  pub listing_accepted : {nodes exports : ℕ} → answer ≡ accepted nodes exports →
      listing input ≡ ok_line nodes exports ++ lines (take exports slots) (names (exports_in input))
  unfolding report
  listing_accepted q = reported ∙ rw q

  -- an accepted bundle is sound, and its exports have slots
  pub accepted_exported : {nodes exports : ℕ} → answer ≡ accepted nodes exports → length slots ≡ exports_size.most →
      Exported input slots exports
  unfolding load accept_from from_base base_of accept
  accepted_exported {nodes} {exports} q l = go (eqb (number input) 0) refl
    where
      go : (b : Bool) → eqb (number input) 0 ≡ b → Exported input slots exports
      go true t =
          let clear : refusal input ≡ 0 = bundle_clear input node_table (pos 0) export_table (eqb-true _ _ t) in
          let k : loaded words slots answer ≡ accept_from input node_table (pos 0) export_table = rw t at e in
          let all : exports ≡ length (exports_in input) = ap told (ap (loaded words slots) (sym q) ∙ k) in
          record { clear = clear; all = all; space = omega (arith, few_exports (manifest_section input)) }
      go false t =
          let k : loaded words slots answer ≡ loaded node_table export_table (Err (number input)) = rw t at e in
          let z : ◌≡◌ {A = ℕ} 0 1 = cc in absurd (omega arith)
