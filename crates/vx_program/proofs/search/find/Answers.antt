use Rattle.std.proofs.Common.{Some, sym, ap, ◌∙◌}
use Rattle.vx_program.proofs.Sought.{stands, find_found, find_none}
use Rattle.vx_program.proofs.search.find.Goals as goal

pub returns-in-Some : goal.returns-in-Some
returns-in-Some c =
    let is = c.in-Some.ensures.found in
    let own = stands c.args.decls.now c.in-Some.place is.decl c.index-decls-place.result is.stands c.index-decls-place.is in
    ap Some own ∙ sym (find_found c.args.decls.now c.args.key.now c.in-Some.place is)

pub returns-in-None : goal.returns-in-None
returns-in-None c = sym (find_none c.args.decls.now c.args.key.now c.in-None.ensures.found)
