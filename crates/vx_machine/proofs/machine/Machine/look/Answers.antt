use Rattle.std.proofs.Common.{rules, ◌≡◌, ◌∙◌, ap, length, sym, take}
use Rattle.vx_machine.specs.Meaning.{Kept}
use Rattle.vx_machine.proofs.Running.{as_lines, first_lines, looks}
use Rattle.vx_machine.proofs.Views.{kept_of}
use Rattle.vx_machine.proofs.machine.Machine.look.Goals as goal

pub returns : goal.returns
returns c =
    let count : c.len-count.result ≡ length c.self.inside.lines.items = search rules in
    let cut : first_lines (kept_of c.self.inside) (kept_of c.self-2.inside) ≡ c.truncate.new.self.items =
    sym (c.truncate.ensures.items ∙ ap (λ n. take n c.self-2.inside.lines.items) count) in
    let lines : first_lines c.args.self.now c.step.new.self ≡ c.truncate.new.self.items =
    ap (λ (m : Kept). first_lines m c.step.new.self) (sym c.self.view_is)
    ∙ ap (λ (m : Kept). first_lines (kept_of c.self.inside) m) (sym c.self-2.view_is) ∙ cut in
    as_lines c.args.ready.now 0 c.args.self.now c.looked.result (first_lines c.args.self.now c.step.new.self) c.truncate.new.self.items lines
    (rw c.looked.ensures
    (looks c.args.ready.now c.args.self.now c.step.new.self c.in_ok-step.step c.step.ensures.later
    c.in_ok-step.ensures.does))
