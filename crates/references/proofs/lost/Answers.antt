-- One of the places has a hash that is lost.
use Rattle.std.proofs.Common.{ℕ, rules, tests, not, ◌∙◌, sym, ap}
use Rattle.std.specs.Prelude.{is_some}
use Rattle.std.proofs.lemmas.Iterator.Consumers.{YieldsList-from_first}
use Rattle.std.proofs.lemmas.Iterator.Search.{any_from_yields_List}
use Rattle.lists.specs.Lists.{index_of}
use Rattle.manifest.specs.Content.{reference_hash, places_at, left_places}
use Rattle.nodes.specs.Records.{hashes, lacks, nodes_of}
use Rattle.references.proofs.Hashes.{hashes_there, lost_there}
use Rattle.references.proofs.lost.Goals as goal

pub returns : goal.returns
returns c =
    let m = c.args.m.now in
    let rs = nodes_of c.args.s.now in
    any_from_yields_List (λ (p : ℕ). not (is_some (index_of (reference_hash m c.args.kind p) 0 (hashes rs)))) c.any.new.self _
    c.any.result c.any.ensures.ran (YieldsList-from_first (λ x. x) left_places _ c.after.ensures)
    (λ x b q k. search (rules, tests))
    ∙ lost_there m c.args.kind rs (places_at m c.args.kind c.args.at)
    ∙ ap (lacks rs) (sym (hashes_there m c.args.kind c.args.at))
