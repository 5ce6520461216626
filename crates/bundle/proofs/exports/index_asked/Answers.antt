-- A name is empty, or is looked for.
use Rattle.bundle.proofs.ExportWays.{empty_asked, name_asked}
use Rattle.bundle.proofs.exports.index_asked.Goals as goal

pub returns-then-name-eq0 : goal.returns-then-name-eq0
returns-then-name-eq0 c = empty_asked _ _ c.if-name-eq0.true

pub returns : goal.returns
returns c = name_asked _ _ c.requires c.if-name-eq0.false c.find.ensures
