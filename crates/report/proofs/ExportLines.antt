-- The lines of the exports of a sound bundle: a line more, and that all fit.
use Rattle.std.specs.Prelude.{Result, Err}
use Prim.Native.Nat.{ℕ, ◌+◌, ◌≤◌, ◌<◌}
use mathlib.Core.Path.{◌≡◌, ap, ◌∙◌}
use mathlib.Core.List.{List, [], ◌++◌}
use native.Mathlib.Omega.{arith}
use lib.ListN.{length, take, get_or, length-append, length-take}
use Rattle.sizes.specs.Sizes.{name_size}
use Rattle.wire.specs.Wire.{span}
use Rattle.wire.specs.declared.Part.{Part}
use Rattle.manifest.specs.Content.{names}
use Rattle.manifest.specs.Judged.{export_place}
use Rattle.manifest.proofs.Names.{names_length}
use Rattle.manifest.proofs.Counted.{few_exports}
use Rattle.container.specs.Directory.{manifest_section}
use Rattle.bundle.specs.declared.Outline.{Outline}
use Rattle.bundle.specs.Verdict.{described}
use Rattle.bundle.specs.Exports.{name_at}
use Rattle.bundle.proofs.Stages.{names_of_all}
use Rattle.bundle.proofs.Verdicts.{described_refused}
use Rattle.loader.specs.Load.{exports_in}
use Rattle.report.specs.Report.{line, lines, ok_line}
use Rattle.report.specs.Writing.{Exported, text_bytes}
use Rattle.text.specs.Put.{Put}
use Rattle.text.proofs.Putting.{then}
use Rattle.report.proofs.Lines.{lines_more, lines_within, lines_most, ok_most}
use Rattle.report.proofs.Exports.{short_names, name_at_lem}

-- export i; p and name stand for the part that is its name and for its bytes, as the calls answered them
module _ {file slots : List ℕ} {count : ℕ} (x : Exported file slots count) {i : ℕ} (h : i < count) {p : Part}
    (ep : p ≡ name_at file (export_place (manifest_section file) i)) {name : List ℕ} (e : name ≡ span file p.start p.size) where
  named : name ≡ get_or (names (exports_in file)) i []
  named = e ∙ name_at_lem file x.clear i ep

  more : lines (take (i + 1) slots) (names (exports_in file)) ≡
      lines (take i slots) (names (exports_in file)) ++ line (get_or slots i 0) name
  more =
      rw named
      (lines_more i slots (names (exports_in file)) (omega (arith, x.space))
      (omega (arith, x.all, names_length (exports_in file))))

  pub line_fits : (at p room : ℕ) → at + length (lines (take count slots) (names (exports_in file))) ≤ room →
      p ≡ at + length (lines (take i slots) (names (exports_in file))) →
      (length name ≤ name_size.most) × (p + length (line (get_or slots i 0) name) ≤ room)
  line_fits at p room a b = (
    rw named (short_names file x.clear i),
    omega (
      arith,
      lines_within (i + 1) count slots (names (exports_in file)) (omega arith),
      ap length more,
      length-append (lines (take i slots) (names (exports_in file))) (line (get_or slots i 0) name),
    ),
  )

  pub line_put : {before middle after : List ℕ} {at p q : ℕ} →
      Put (lines (take i slots) (names (exports_in file))) before at middle p →
      Put (line (get_or slots i 0) name) middle p after q →
      Put (lines (take (i + 1) slots) (names (exports_in file))) before at after q
  line_put a b = rw more (then a b)

-- the check finds what it has; v stands for what it came to
pub undescribed : {A : Type 0} {file slots : List ℕ} {count : ℕ} → Exported file slots count → {v : Result Outline ℕ} → v ≡ described file →
    {n : ℕ} → v ≡ Err n → A
undescribed {file = file} x e f =
    let (k, some) = described_refused file e f in absurd (some (k ∙ names_of_all file x.clear))

-- the text of an accepted bundle has room in that of any
pub accepted_fits : {file slots : List ℕ} {count : ℕ} → Exported file slots count → (nodes : ℕ) →
    length (ok_line nodes count) + length (lines (take count slots) (names (exports_in file))) ≤ text_bytes
accepted_fits {file} {slots} {count} x nodes =
    omega (
      arith,
      ok_most nodes count,
      few_exports (manifest_section file),
      x.all,
      lines_most (take count slots) (names (exports_in file)) (short_names file x.clear),
      length-take count slots,
    )
