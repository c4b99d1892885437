use Rattle.std.proofs.Common.{◌≡◌, ◌∙◌, ap}
use Rattle.std.specs.List.{list_any}
use Rattle.vx_program.specs.Lookups.{names}
use Rattle.vx_program.specs.Prelude.{prelude_keys}
use Rattle.vx_program.proofs.Lookups.{named_in_prelude}
use Rattle.vx_program.proofs.reserved.Reserved.has_object.Goals as goal

pub returns : goal.returns
returns c =
    let all : c.self.inside.prelude ≡ prelude_keys = c.self.invariant.0 in
    c.are_named.ensures ∙ ap (λ keys. list_any (names c.args.x.now) keys) (c.as_slice.ensures ∙ all) ∙ named_in_prelude c.args.x.now
