-- What the checks come to: the number of the first that holds, or what was found of the file.
use Rattle.std.specs.Prelude.{ℕ, List, Result, Ok, Err}
use Rattle.lists.specs.Options.{on_some}
use Rattle.refusals.specs.Refusals.{answer, unless_refused}
use Rattle.manifest_shape.specs.declared.Layout.{Layout}
use Rattle.manifest_shape.specs.Shape.{manifest_of}
use Rattle.container.specs.Directory.{manifest_section}
use Rattle.container.specs.Checks.{sections_of}
use Rattle.bundle.specs.declared.Outline.{Outline}
use Rattle.bundle.specs.Checks.{manifest_checks, name_refusal, refusal}

-- where the parts of the manifest section m start
abbrev pub no_layout : Layout
no_layout = record { strings = 0; capabilities = 0; closure = 0; roots = 0; exports = 0 }

unfoldable pub layout_of : List ℕ → Layout
layout_of m = on_some (manifest_of m) (λ l. l) no_layout

-- what 12 to 14 come to
unfoldable pub checked_manifest : List ℕ → Result Layout ℕ
checked_manifest m = unless_refused (answer (manifest_checks m)) Err (Ok (layout_of m))

-- where the two sections lie, and where the parts of the manifest start
unfoldable pub outline_of : List ℕ → Outline
outline_of file =
    record {
      manifest = (sections_of file).manifest;
      nodes = (sections_of file).nodes;
      layout = layout_of (manifest_section file);
    }

-- what 1 to 14 come to
unfoldable pub described : List ℕ → Result Outline ℕ
described file = unless_refused (name_refusal file) Err (Ok (outline_of file))

-- what 1 to 20 come to
unfoldable pub judged : List ℕ → Result Outline ℕ
judged file = unless_refused (refusal file) Err (Ok (outline_of file))
