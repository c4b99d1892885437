use Rattle.std.proofs.Common.{◌∙◌, rules}
use Rattle.std.proofs.lemmas.Fn.{always_returns_same}
use Rattle.vx_names.specs.declared.key.MethodKey.{MethodKey}
use Rattle.vx_node.specs.declared.node.Variant.{Variant}
use Rattle.vx_link.specs.Roster.{code_cmp}
use Rattle.vx_link.proofs.Searched.{searched, codes_total}
use Rattle.vx_link.proofs.places.code_place.Goals as goal

pub returns : goal.returns
returns c =
    let by = c.binary_search_by-found.ensures in
    let code : MethodKey × Variant = (c.args.key.now, c.args.variant.now) in
    let position = by.position (λ own. code_cmp own code) (always_returns_same _ _ _ (λ a r after called. search rules)) in
    c.place_found.ensures ∙ searched codes_total c.args.codes.now c.requires code c.binary_search_by-found.result by.bound position
