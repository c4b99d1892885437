use Rattle.std.proofs.Common.{◌∷◌, ◌+◌, ◌∙◌, sym, ap, drop, Some}
use Rattle.std.proofs.lemmas.List.{at_drop_more}
use Rattle.vx_program.specs.declared.edit.EditFault.TheVariants.{Unknown}
use Rattle.vx_program.specs.Apply.{unknown_fault}
use Rattle.vx_program.proofs.Lookups.{known_next, unknown_here}
use Rattle.vx_program.proofs.faults.unknown_fault.Goals as goal

pub returns-then-not-is_there : goal.returns-then-not-is_there
returns-then-not-is_there c =
    let x = c.name-item.result in
    let rest = drop (c.loop-name.name-index + 1) c.args.names.now in
    let here = unknown_here c.args.decls.now x rest (sym c.is_there.ensures ∙ c.if-not-is_there.true) in
    let front = at_drop_more (unknown_fault c.args.decls.now) c.args.names.now c.loop-name.name-index x c.loop-name-test.true in
    let head = ap (λ z. unknown_fault c.args.decls.now (z ∷ rest)) (sym c.name-item.is) in
    ap (λ z. Some (Unknown z)) c.in_ok-copy.ensures ∙ sym (c.loop-name.invariant ∙ front ∙ head ∙ here)

pub loop-name-preserved : goal.loop-name-preserved
loop-name-preserved c =
    let x = c.name-item.result in
    let rest = drop (c.loop-name.name-index + 1) c.args.names.now in
    let here = known_next c.args.decls.now x rest (sym c.is_there.ensures ∙ c.if-not-is_there.false) in
    let front = at_drop_more (unknown_fault c.args.decls.now) c.args.names.now c.loop-name.name-index x c.loop-name-test.true in
    let head = ap (λ z. unknown_fault c.args.decls.now (z ∷ rest)) (sym c.name-item.is) in
    c.loop-name.invariant ∙ front ∙ head ∙ here
