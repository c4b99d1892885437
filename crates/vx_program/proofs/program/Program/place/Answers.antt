use Rattle.std.proofs.Common.{◌≡◌, ap, sym, subst, ◌∙◌}
use Rattle.std.specs.List.{slice_get}
use Rattle.vx_program.specs.Program.{IsProgram}
use Rattle.vx_program.proofs.Sought.{only_place}
use Rattle.vx_program.proofs.program.Program.place.Goals as goal

pub returns-clause-only : goal.returns-clause-only
returns-clause-only c =
    let inside : c.as_slice.result.now ≡ c.self.inside.decls.items = c.as_slice.ensures.value in
    let same : c.as_slice.result.now ≡ c.args.self.now = cc (inside, c.self.view_is) in
    λ place decl e n. only_place c.as_slice.result.now (subst IsProgram (sym inside) c.self.invariant) c.args.x.now c.position_of_name.result c.position_of_name.ensures.some
    c.position_of_name.ensures.none place decl (ap (λ decls. slice_get decls place) same ∙ e) n
