use Rattle.std.proofs.Common.{◌≤◌, ◌∙◌, sym, ap, subst}
use Rattle.vx_syntax.specs.Depth.{max_depth, depth}
use Rattle.vx_reader.specs.CommandMachine as machine
use Rattle.vx_reader.specs.OpenLevels.{all}
use Rattle.vx_reader.proofs.Options.{none_from}
use Rattle.vx_reader.proofs.OneToken.{syntax_read, large_read}
use Rattle.vx_reader.proofs.GreatNumbers.{refused, taken}
use Rattle.vx_reader.proofs.reader.after.Goals as goal

pub returns-in_default-clause-fault : goal.returns-in_default-clause-fault
returns-in_default-clause-fault c len rest =
    syntax_read len c.args.progress.state (all c.args.progress.levels) c.args.placed.now rest
    (refused c.great_numbers_are_alike.ensures c.args.progress.state c.args.placed.now.token
    (sym (none_from _ c.in_default.not-Some) ∙ c.in_ok-state.ensures ∙ ap (machine.command_step c.args.progress.state) c.in_ok-token.ensures.1))

pub returns-then-is_large-clause-fault : goal.returns-then-is_large-clause-fault
returns-then-is_large-clause-fault c len rest =
    let on = taken c.great_numbers_are_alike.ensures c.args.progress.state c.in-Some.state c.args.placed.now.token
    (sym c.in-Some.is ∙ c.in_ok-state.ensures ∙ ap (machine.command_step c.args.progress.state) c.in_ok-token.ensures.1) in
    large_read len c.args.progress.state (all c.args.progress.levels) c.args.placed.now rest on.0 on.1
    (subst (λ l. depth l ≤ max_depth) c.in_ok-levels.ensures.all (subst (λ n. n ≤ max_depth) c.in_ok-levels.ensures.adds c.if-levels-gt-MOST_DEPTH.false))
    (sym (c.if-is_large.ensures))
