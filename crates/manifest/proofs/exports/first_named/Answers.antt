-- The position among the places is the index of the name.
use Rattle.std.proofs.Common.{ℕ, rules, tests, ◌∙◌, refl}
use Rattle.std.specs.Prelude.{Some}
use Rattle.std.proofs.lemmas.Iterator.Adapters.{position_from-zero}
use Rattle.std.proofs.lemmas.Iterator.Consumers.{YieldsList-from_first}
use Rattle.std.proofs.lemmas.Iterator.Search.{position_from_yields_List}
use Rattle.lists.specs.Lists.{same_bytes}
use Rattle.manifest.specs.Content.{text_at, left_places}
use Rattle.manifest.proofs.ExportLists.{named_there}
use Rattle.manifest.proofs.exports.first_named.Goals as goal

pub returns : goal.returns
returns c =
    let s = c.args.s.now in
    let t = c.args.name.now in
    let ps = left_places c.args.places in
    position_from_yields_List (λ (p : ℕ). same_bytes (text_at s (Some p)) t) c.position.new.self _ c.position.result c.position.ensures.ran
    (YieldsList-from_first (λ x. x) left_places _ refl) (λ x b q k. search (rules, tests))
    ∙ position_from-zero _ ps
    ∙ named_there s t ps 0
