-- What is not inside passes the end.
use Rattle.container.specs.Directory.{outside}
use Rattle.container.proofs.Entries.{outside_test}
use Rattle.container.proofs.directory.outside.Goals as goal

pub returns : goal.returns
unfolding outside
returns c = rw c.inside.ensures (outside_test _ _ _)
