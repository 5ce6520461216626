-- The closure tests a record, so that what is found is the first of the numbers that is ready.
use Rattle.std.proofs.Common.{rules, refl}
use borrow.Author.Tests.{tests}
use Rattle.std.proofs.lemmas.Iterator.{YieldsList-from_range}
use Rattle.std.proofs.lemmas.Iterator.Search.{find_from_yields_List}
use native.Mathlib.Nat.{sub-zero}
use Rattle.placing.specs.Placing.{ready}
use Rattle.placing.proofs.Turns.{earliest_from}
use Rattle.placing.proofs.Linked.earliest.Goals as goal

pub returns-clause-first : goal.returns-clause-first
returns-clause-first c =
    let t = c.args.self.now in
    earliest_from t.links.now t.slots.now t.n _
    (find_from_yields_List (ready t.links.now t.slots.now) _ _ _ c.find.ensures.ran
    (YieldsList-from_range 0 t.n t.n refl (sub-zero _)) (λ x b q k. search (rules, tests)))
