use Rattle.std.proofs.Common.{◌∙◌, rules}
use Rattle.std.proofs.lemmas.Fn.{always_returns_same}
use Rattle.vx_names.specs.declared.key.Selector.{Selector}
use Rattle.vx_names.specs.Key.{selector_cmp}
use Rattle.vx_names.specs.KeyLaws.{selectors_total}
use Rattle.vx_link.proofs.Searched.{searched}
use Rattle.vx_link.proofs.places.table_place.Goals as goal

pub returns : goal.returns
returns c =
    let by = c.binary_search_by-found.ensures in
    let selector : Selector = record { name = c.args.name.now; arity = c.args.arity } in
    let position = by.position (λ own. selector_cmp own selector) (always_returns_same _ _ _ (λ a r after called. search rules)) in
    c.place_found.ensures ∙ searched selectors_total c.args.tables.now c.requires selector c.binary_search_by-found.result by.bound position
