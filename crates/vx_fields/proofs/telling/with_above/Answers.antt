use Rattle.std.proofs.Common.{sym, subst}
use Rattle.vx_node.specs.Asking.{gives}
use Rattle.vx_node.specs.Askers.{Goes}
use Rattle.vx_node.proofs.Leaving.{goes_within, stops_within}
use Rattle.vx_fields.specs.Questions.{with_above}
use Rattle.vx_fields.proofs.telling.with_above.Goals as goal

pub returns-in-Ok-clause-follows : goal.returns-in-Ok-clause-follows
returns-in-Ok-clause-follows g c =
    subst (λ own. Goes g.A.Asker.manner (with_above c.args.key.now) (gives (own, c.in-Ok.names)) c.args.t.now.asker.now c.args.t.now.trace
    c.walk.new.t.asker.now c.walk.new.t.trace) (sym c.in_ok-own.ensures)
    (goes_within (λ above. gives (c.args.key.now, above)) c.in-Ok.ensures.follows)

pub returns-in-Err-clause-follows : goal.returns-in-Err-clause-follows
returns-in-Err-clause-follows g c = stops_within (λ above. gives (c.args.key.now, above)) c.in-Err.ensures.follows
