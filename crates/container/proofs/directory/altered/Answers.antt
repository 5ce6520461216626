-- The digest is compared where the type is known.
use mathlib.Core.Path.{sym, ◌∙◌}
use Rattle.container.specs.Directory.{altered}
use Rattle.container.proofs.directory.altered.Goals as goal

pub returns-then-not-known : goal.returns-then-not-known
unfolding altered
returns-then-not-known c = rw (sym c.known.ensures ∙ c.if-not-known.true)

pub returns : goal.returns
unfolding altered
returns c =
    rw (
      sym c.known.ensures ∙ c.if-not-known.false,
      c.same_bytes.ensures,
      c.digest-digest.ensures,
      c.of.ensures,
      c.part_of.ensures,
      c.span.ensures,
    )
