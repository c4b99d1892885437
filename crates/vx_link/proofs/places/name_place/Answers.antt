use Rattle.std.proofs.Common.{◌∙◌, rules}
use Rattle.std.specs.Cmp.Lexicographic.{nat_list_cmp_total}
use Rattle.std.proofs.lemmas.Fn.{always_returns_same}
use Rattle.vx_names.specs.Key.{name_cmp}
use Rattle.vx_link.proofs.Searched.{searched}
use Rattle.vx_link.proofs.places.name_place.Goals as goal

pub returns : goal.returns
returns c =
    let by = c.binary_search_by-found.ensures in
    let position = by.position (λ own. name_cmp own c.args.name.now) (always_returns_same _ _ _ (λ a r after called. search rules)) in
    c.place_found.ensures ∙ searched nat_list_cmp_total c.args.names.now c.requires c.args.name.now c.binary_search_by-found.result by.bound position
