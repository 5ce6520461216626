-- Each test is asked of the records by their numbers.
use Rattle.std.proofs.Common.{rules, refl}
use borrow.Author.Tests.{tests}
use native.Mathlib.Omega.{arith}
use native.Mathlib.Nat.{sub-zero}
use Rattle.std.proofs.lemmas.Iterator.{YieldsList-from_range}
use Rattle.std.proofs.lemmas.Iterator.Search.{any_from_yields_List}
use Rattle.nodes.specs.declared.faults.RecordFault.TheVariants.{Hash, Twice, Child}
use Rattle.nodes.specs.Records.{nodes_of}
use Rattle.nodes.specs.Starts.{nth_faulty}
use Rattle.nodes.proofs.StartTable.{nodes_counted}
use Rattle.nodes.proofs.SomeFault.{some_faulty}
use Rattle.nodes.proofs.starts.Records.some_record.Goals as goal

pub returns-in-Hash : goal.returns-in-Hash
returns-in-Hash c =
    let t = c.args.self.now in
    let rs = nodes_of t.section.now in
    rw c.in-Hash.is
    (some_faulty Hash rs t.n (omega (arith, nodes_counted t.started))
    (any_from_yields_List (nth_faulty Hash rs) _ _ _ c.any.ensures.ran
    (YieldsList-from_range 0 t.n t.n refl (sub-zero _)) (λ x b q k. search (rules, tests))))

pub returns-in-Twice : goal.returns-in-Twice
returns-in-Twice c =
    let t = c.args.self.now in
    let rs = nodes_of t.section.now in
    rw c.in-Twice.is
    (some_faulty Twice rs t.n (omega (arith, nodes_counted t.started))
    (any_from_yields_List (nth_faulty Twice rs) _ _ _ c.any-in-Twice.ensures.ran
    (YieldsList-from_range 0 t.n t.n refl (sub-zero _)) (λ x b q k. search (rules, tests))))

pub returns-in-Child : goal.returns-in-Child
returns-in-Child c =
    let t = c.args.self.now in
    let rs = nodes_of t.section.now in
    rw c.in-Child.is
    (some_faulty Child rs t.n (omega (arith, nodes_counted t.started))
    (any_from_yields_List (nth_faulty Child rs) _ _ _ c.any-in-Child.ensures.ran
    (YieldsList-from_range 0 t.n t.n refl (sub-zero _)) (λ x b q k. search (rules, tests))))
