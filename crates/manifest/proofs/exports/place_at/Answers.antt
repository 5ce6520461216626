-- The item of the places by its index.
use Rattle.std.proofs.Common.{◌∙◌, sym}
use Rattle.std.proofs.lemmas.Iterator.Adapters.{option_map_id}
use Rattle.std.proofs.lemmas.Iterator.Consumers.{YieldsList-from_first, nth_from_yields_List}
use Rattle.manifest.specs.Content.{left_places}
use Rattle.manifest.proofs.exports.place_at.Goals as goal

pub returns : goal.returns
returns c =
    sym (option_map_id _) ∙ nth_from_yields_List c.nth.result c.nth.new.self c.args.i c.nth.ensures.ran
    (YieldsList-from_first (λ x. x) left_places _ c.after.ensures)
