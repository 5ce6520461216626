-- The closure compares a record's hash, so that what is found is the first of the numbers whose record has it.
use Rattle.std.proofs.Common.{rules, refl}
use borrow.Author.Tests.{tests}
use native.Mathlib.Omega.{arith}
use Rattle.std.proofs.lemmas.Iterator.{YieldsList-from_range}
use Rattle.std.proofs.lemmas.Iterator.Search.{find_from_yields_List}
use Rattle.nodes.specs.Records.{nodes_of}
use Rattle.nodes.proofs.StartTable.{nodes_counted}
use Rattle.nodes.proofs.Searches.{has_hash, search_from}
use Rattle.nodes.proofs.starts.Records.find_from.Goals as goal

pub returns-clause-first : goal.returns-clause-first
returns-clause-first c =
    let t = c.args.self.now in
    let rs = nodes_of t.section.now in
    search_from rs c.args.h.now _ c.args.from _ (omega (arith, nodes_counted t.started))
    (find_from_yields_List (has_hash rs c.args.h.now) _ _ _ c.find.ensures.ran
    (YieldsList-from_range c.args.from t.n _ refl refl) (λ x b q k. search (rules, tests)))
