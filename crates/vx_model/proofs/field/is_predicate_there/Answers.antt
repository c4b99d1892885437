use Rattle.std.proofs.Common.{is_some, sym, ap, ◌∙◌}
use Rattle.vx_program.specs.Program.{is_predicate}
use Rattle.vx_model.proofs.Places.{Found, found, not_there}
use Rattle.vx_model.proofs.Predicates.{predicate_is, no_predicate, none_there}
use Rattle.vx_model.proofs.field.is_predicate_there.Goals as goal

pub returns-in-Predicate : goal.returns-in-Predicate
returns-in-Predicate c =
    let own : Found c.args.program.now c.args.x.now c.index-declarations-place.result =
    found c.args.program.now c.declarations.result.now c.args.x.now c.bytes.result.now c.in-Some.place c.index-declarations-place.result
    c.declarations.ensures.all
    c.index-declarations-place.is c.bytes.ensures.bytes c.in-Some.ensures.some in
    sym (predicate_is c.args.program.now c.declarations.ensures.program c.args.x.now c.index-declarations-place.result own ∙ ap is_predicate c.in-Predicate.is)

pub returns-in_default : goal.returns-in_default
returns-in_default c =
    let own : Found c.args.program.now c.args.x.now c.index-declarations-place.result =
    found c.args.program.now c.declarations.result.now c.args.x.now c.bytes.result.now c.in-Some.place c.index-declarations-place.result
    c.declarations.ensures.all
    c.index-declarations-place.is c.bytes.ensures.bytes c.in-Some.ensures.some in
    sym (predicate_is c.args.program.now c.declarations.ensures.program c.args.x.now c.index-declarations-place.result own
    ∙ no_predicate c.index-declarations-place.result c.in_default.not-Predicate)

pub returns-in-None : goal.returns-in-None
returns-in-None c =
    sym (none_there c.args.program.now c.args.x.now
    (not_there c.args.program.now c.args.x.now c.bytes.result.now c.place.result (ap is_some c.in-None.is) c.bytes.ensures.bytes c.place.ensures.only))
