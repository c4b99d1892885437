use Rattle.std.proofs.Common.{◌∙◌}
use Rattle.vx_link.proofs.Searched.{searched, field_keys_total}
use Rattle.vx_link.proofs.places.field_place.Goals as goal

pub returns : goal.returns
returns c =
    let by = c.binary_search-found.ensures in
    c.place_found.ensures ∙ searched field_keys_total c.args.fields.now c.requires c.args.key.now c.binary_search-found.result by.bound by.position
