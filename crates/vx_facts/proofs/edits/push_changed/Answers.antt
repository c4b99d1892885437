use Rattle.std.proofs.Common.{sym, subst}
use Rattle.std.specs.Option.{option_copied}
use Rattle.vx_program.specs.Program.{find}
use Rattle.vx_facts.specs.Differences.{HaveOneKey, IsFieldWritten}
use Rattle.vx_facts.proofs.Heard.{one_key, found_written}
use Rattle.vx_facts.proofs.edits.push_changed.Goals as goal

pub push_differing-requires-clause-key : goal.push_differing-requires-clause-key
push_differing-requires-clause-key c =
    subst (λ a. HaveOneKey a (option_copied c.find-2.result)) (sym c.find.ensures)
    (subst (λ b. HaveOneKey (find c.args.before.now c.in_ok-key.key) b) (sym c.find-2.ensures)
    (one_key c.args.before.now c.args.after.now c.in_ok-key.key))

pub push_differing-requires-clause-before : goal.push_differing-requires-clause-before
push_differing-requires-clause-before c =
    subst IsFieldWritten (sym c.find.ensures) (found_written c.args.before.now c.requires.before c.in_ok-key.key)

pub push_differing-requires-clause-after : goal.push_differing-requires-clause-after
push_differing-requires-clause-after c =
    subst IsFieldWritten (sym c.find-2.ensures) (found_written c.args.after.now c.requires.after c.in_ok-key.key)
