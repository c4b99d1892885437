use Rattle.std.proofs.Common.{◌≡◌, ◌∙◌, ◌&&◌, ◌++◌, codes, nat_eq, ap, rules}
use Rattle.std.specs.Str.{bytes_eq}
use Rattle.vx_program.proofs.Lookups.{setter_selector}
use Rattle.vx_program.proofs.occupied.is_setter_of.Goals as goal

pub returns : goal.returns
returns c =
    let named : c.is_setter_name.result ≡ bytes_eq (codes "set_" ++ c.args.own.now.name) c.args.selector.now.name = search rules in
    ap (λ b. b && nat_eq c.args.selector.now.arity 2) named ∙ setter_selector c.args.own.now c.args.selector.now
