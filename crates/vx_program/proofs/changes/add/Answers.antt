use Rattle.std.proofs.Common.{◌≡◌, ◌∷◌, ◌++◌, take, drop, insert, None, Ok, sym, ap, ◌∙◌, subst}
use Rattle.vx_syntax.specs.Keys.{key_of}
use Rattle.vx_program.specs.Apply.{limit_fault}
use Rattle.vx_program.specs.Lookups.{IsPlaceOf, before_add}
use Rattle.vx_program.proofs.Orders.{add_refused}
use Rattle.vx_program.proofs.InPlace.{cut_off, add_limited_there, add_made_there}
use Rattle.vx_program.proofs.changes.add.Goals as goal

pub returns-in-Some-clause-fault : goal.returns-in-Some-clause-fault
returns-in-Some-clause-fault c =
    add_refused c.args.decls.now.items c.args.decl.now c.in-Some.fault
    (sym c.in-Some.is ∙ c.in_ok-fault.ensures ∙ ap (λ ds. before_add ds c.args.decl.now) c.as_slice-all.ensures.value)

pub returns-in-Some-2-clause-fault : goal.returns-in-Some-2-clause-fault
returns-in-Some-2-clause-fault c =
    let program = c.args.decls.now.items in
    let new = c.args.decl.now in
    let place = c.in_ok-place.place in
    let clean : None ≡ before_add program new = sym c.in_default.is ∙ c.in_ok-fault.ensures ∙ ap (λ ds. before_add ds new) c.as_slice-all.ensures.value in
    let at : IsPlaceOf program (key_of new) place = subst (λ ds. IsPlaceOf ds (key_of new) place) c.as_slice-all.ensures.value c.in_ok-place.ensures in
    add_limited_there (record { at = at; clean = clean }) c.in-Some-2.fault
    (sym c.in-Some-2.is ∙ c.in_ok-fault-2.ensures ∙ cut_off c.as_slice-all.result.now new place place
    ∙ ap (λ ds. limit_fault (take place ds ++ new ∷ drop place ds) new) c.as_slice-all.ensures.value)

pub returns-clause-ok : goal.returns-clause-ok
returns-clause-ok c =
    let program = c.args.decls.now.items in
    let new = c.args.decl.now in
    let place = c.in_ok-place.place in
    let clean : None ≡ before_add program new = sym c.in_default.is ∙ c.in_ok-fault.ensures ∙ ap (λ ds. before_add ds new) c.as_slice-all.ensures.value in
    let at : IsPlaceOf program (key_of new) place = subst (λ ds. IsPlaceOf ds (key_of new) place) c.as_slice-all.ensures.value c.in_ok-place.ensures in
    let items : c.insert.new.self.items ≡ insert program place new = c.in_ok-insert.ensures.items ∙ ap (insert program place) c.in_ok-copy.ensures in
    add_made_there (record { at = at; clean = clean })
    (sym c.in_default-2.is ∙ c.in_ok-fault-2.ensures ∙ cut_off c.as_slice-all.result.now new place place
    ∙ ap (λ ds. limit_fault (take place ds ++ new ∷ drop place ds) new) c.as_slice-all.ensures.value)
    ∙ ap Ok (sym items)
