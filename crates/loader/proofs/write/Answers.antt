-- The records, then the exports.
use native.Mathlib.Omega.{arith}
use Rattle.loader.proofs.Accepting.{exports_ready, nodes_few, all_written}
use Rattle.loader.proofs.write.Goals as goal

pub put_exports-requires : goal.put_exports-requires
put_exports-requires c = exports_ready c.requires

pub overflow_cast-result : goal.overflow_cast-result
overflow_cast-result c = omega (arith, nodes_few c.requires c.count.ensures)

pub returns : goal.returns
returns c = all_written c.requires c.count.ensures c.put_records.ensures c.put_exports.ensures
