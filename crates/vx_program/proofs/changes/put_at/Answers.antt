use Rattle.std.proofs.Common.{◌≡◌, ◌+◌, ◌∷◌, ◌++◌, take, drop, set, Ok, sym, ap, ◌∙◌}
use Rattle.vx_program.specs.Apply.{limit_fault}
use Rattle.vx_program.proofs.InPlace.{cut_off, put_limited_there, put_made_there}
use Rattle.vx_program.proofs.changes.put_at.Goals as goal

pub returns-in-Some-clause-fault : goal.returns-in-Some-clause-fault
returns-in-Some-clause-fault c =
    let new = c.args.decl.now in
    put_limited_there (record { found = c.requires.found; clean = sym c.requires.clean }) c.in-Some.fault
    (sym c.in-Some.is ∙ c.in_ok-fault.ensures ∙ cut_off c.as_slice-all.result.now new c.args.place (c.args.place + 1)
    ∙ ap (λ ds. limit_fault (take c.args.place ds ++ new ∷ drop (c.args.place + 1) ds) new) c.as_slice-all.ensures.value)

pub returns-clause-ok : goal.returns-clause-ok
returns-clause-ok c =
    let program = c.args.decls.now.items in
    let new = c.args.decl.now in
    let place = c.args.place in
    let items : c.replace.new.decls.items ≡ set program place new = c.replace.ensures ∙ ap (set program place) c.in_ok-copy.ensures in
    put_made_there (record { found = c.requires.found; clean = sym c.requires.clean })
    (sym c.in_default.is ∙ c.in_ok-fault.ensures ∙ cut_off c.as_slice-all.result.now new place (place + 1)
    ∙ ap (λ ds. limit_fault (take place ds ++ new ∷ drop (place + 1) ds) new) c.as_slice-all.ensures.value)
    ∙ ap Ok (sym items)
