use Rattle.std.proofs.Common.{◌∙◌, sym}
use Rattle.vx_codegen.proofs.Grouping.{name_behind}
use Rattle.vx_codegen.proofs.unit.Unit.name.Goals as goal

pub returns : goal.returns
returns c =
    name_behind c.self.inside.stretches.items c.push.new.self.items c.self.inside.tail.items c.in_ok-own.own c.clear.new.self.items c.args.symbol
    c.args.self.now c.in_ok-push.ensures.items c.clear.ensures.items (c.in_ok-own.ensures ∙ c.as_slice.ensures.value) (sym c.self.view_is)
