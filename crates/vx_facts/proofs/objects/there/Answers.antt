use Rattle.std.proofs.Common.{◌≡◌, true, get_or, sym, ap, ◌∙◌}
use Rattle.vx_lists.proofs.Places.{in_at}
use Rattle.vx_program.specs.Program.{is_named}
use Rattle.vx_facts.specs.Standing.{stands_as}
use Rattle.vx_facts.proofs.Declared.{there_at, not_there, read_is}
use Rattle.vx_facts.proofs.objects.there.Goals as goal

pub returns-in-Some : goal.returns-in-Some
returns-in-Some c =
    let one = c.in-Some.ensures.some in
    let own = read_is c.args.program.now c.in-Some.place one.0 c.index-declarations-place.result one.1
    (c.index-declarations-place.is ∙ ap (λ decls. get_or decls c.in-Some.place c.index-declarations-place.result) c.declarations.ensures.all) in
    let named : is_named c.args.x.now one.0 ≡ true = ap (λ z. is_named z one.0) (sym c.bytes.ensures.bytes) ∙ one.2 in
    c.stands_as.ensures ∙ ap stands_as own
    ∙ sym (there_at c.args.program.now c.declarations.ensures.program c.args.x.now one.0 (in_at c.args.program.now c.in-Some.place one.0 one.1) named)

pub returns-in-None : goal.returns-in-None
returns-in-None c =
    sym (not_there c.args.program.now c.args.x.now (λ place decl at named.
    absurd (let e = c.in-None.ensures.only place decl at (ap (λ z. is_named z decl) c.bytes.ensures.bytes ∙ named) in cc)))
