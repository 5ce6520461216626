use mathlib.Core.Path.{◌∙◌}
use Rattle.lists.proofs.Same.{same_is}
use Rattle.lists.proofs.same_bytes.Goals as goal

pub returns : goal.returns
returns c = c.eq.ensures ∙ same_is _ _
