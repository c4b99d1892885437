use Rattle.std.proofs.Common.{◌≡◌, true, refl, sym, ap, ◌∙◌}
use Rattle.vx_lists.proofs.Places.{in_at}
use Rattle.vx_program.specs.Program.{is_named, is_there, is_predicate}
use Rattle.vx_program.proofs.Sought.{stands}
use Rattle.vx_program.proofs.Holders.{predicate_named, no_predicate}
use Rattle.vx_program.proofs.search.is_predicate_there.Goals as goal

pub returns-in-Some : goal.returns-in-Some
returns-in-Some c =
    let s = c.in-Some.ensures.some in
    let own = stands c.args.decls.now c.in-Some.place s.0 c.index-decls-place.result s.1 c.index-decls-place.is in
    let named : is_named c.args.x.now s.0 ≡ true = ap (λ z. is_named z s.0) (sym c.bytes.ensures.bytes) ∙ s.2 in
    c.is_predicate.ensures ∙ ap is_predicate own
    ∙ predicate_named c.args.decls.now c.requires c.args.x.now s.0 (in_at c.args.decls.now c.in-Some.place s.0 s.1) named

pub returns-in-None : goal.returns-in-None
returns-in-None c =
    sym (no_predicate c.args.decls.now c.args.x.now (ap (is_there c.args.decls.now) (sym c.bytes.ensures.bytes) ∙ c.in-None.ensures.none refl))
