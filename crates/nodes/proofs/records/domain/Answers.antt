-- The domain and the zero byte are absorbed one after the other, which is absorbing their join.
use mathlib.Core.List.{[], ◌∷◌}
use Rattle.wire.specs.Wire.{ascii}
use Rattle.sha256.specs.Running.{state_after}
use Rattle.sha256.proofs.Clients.{absorbed_after}
use Rattle.nodes.specs.Records.{domain_state}
use Rattle.nodes.proofs.records.domain.Goals as goal

pub returns : goal.returns
unfolding domain_state state_after
returns c =
    rw (c.absorb-2.ensures, c.absorb.ensures, c.new.ensures)
    (absorbed_after (ascii "arboricx.merkle.node.v1") (0 ∷ []))
