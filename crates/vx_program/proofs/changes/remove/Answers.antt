use Rattle.std.proofs.Common.{◌≡◌, false, None, Ok, sym, ap, ◌∙◌, subst}
use Rattle.vx_lists.specs.Members.{IsIn}
use Rattle.vx_syntax.specs.declared.decl.Decl.{Decl}
use Rattle.vx_program.specs.Program.{has_key}
use Rattle.vx_program.specs.Lookups.{IsFound, before_drop}
use Rattle.vx_program.proofs.InPlace.{drop_found, drop_made_there}
use Rattle.vx_program.proofs.changes.remove.Goals as goal

pub returns-in_default-position-clause-fault : goal.returns-in_default-position-clause-fault
returns-in_default-position-clause-fault c =
    let program = c.args.decls.now.items in
    let key = c.args.key.now in
    let clean : None ≡ before_drop program key = sym c.in_default.is ∙ c.in_ok-fault.ensures ∙ ap (λ ds. before_drop ds key) c.as_slice.ensures.value in
    absurd (drop_found program key clean
    (subst (λ ds. (decl : Decl) → IsIn decl ds → has_key key decl ≡ false) c.as_slice-2.ensures.value c.in_default-position.ensures.found))

pub returns-clause-ok : goal.returns-clause-ok
returns-clause-ok c =
    let program = c.args.decls.now.items in
    let key = c.args.key.now in
    let clean : None ≡ before_drop program key = sym c.in_default.is ∙ c.in_ok-fault.ensures ∙ ap (λ ds. before_drop ds key) c.as_slice.ensures.value in
    let place = c.in-Some-position.place in
    let is : IsFound program key place = subst (λ ds. IsFound ds key place) c.as_slice-2.ensures.value c.in-Some-position.ensures.found in
    drop_made_there program key place is clean ∙ ap Ok (sym c.remove.ensures.items)
