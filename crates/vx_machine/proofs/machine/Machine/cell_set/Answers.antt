use Rattle.std.proofs.Common.{rules, arith, sym, ap, ◌∙◌, ◌≡◌, ◌≤◌, length, vec_len, Some}
use Rattle.std.specs.Prelude.{slice_get}
use Rattle.vx_machine.specs.declared.word.Local.{Local}
use Rattle.vx_machine.specs.declared.word.Local.TheVariants as h
use Rattle.vx_machine.proofs.Views.{kept_of}
use Rattle.vx_machine.proofs.Steps.{cell_changed, cell_away}
use Rattle.vx_machine.proofs.machine.Machine.cell_set.Goals as goal

pub returns-else-c-len-clause-does : goal.returns-else-c-len-clause-does
returns-else-c-len-clause-does c = λ image all covers.
    let at : slice_get c.pop.new.self.running.locals c.args.x ≡ Some (h.Cell c.in-Some-Cell.c) =
    sym c.in-Some-Cell.ensures ∙ ap (λ (held : Local). Some held) c.in-Some-Cell.field-0-is in
    rw (← c.self.view_is) (cell_changed image all (kept_of c.self.inside) c.pop.new.self c.in-Some.word c.args.x c.in-Some-Cell.c c.in-Some.ensures at)

pub returns-then-c-len-clause-does : goal.returns-then-c-len-clause-does
returns-then-c-len-clause-does c = λ image all covers.
    let at : slice_get c.pop.new.self.running.locals c.args.x ≡ Some (h.Cell c.in-Some-Cell.c) =
    sym c.in-Some-Cell.ensures ∙ ap (λ (held : Local). Some held) c.in-Some-Cell.field-0-is in
    let size : vec_len c.self.inside.cells ≡ length c.self.inside.cells.items = search rules in
    let away : length c.self.inside.cells.items ≤ c.in-Some-Cell.c = omega (arith, size) in
    rw (← c.self.view_is) (cell_away image all (kept_of c.self.inside) c.pop.new.self c.in-Some.word c.args.x c.in-Some-Cell.c c.in-Some.ensures at away)
