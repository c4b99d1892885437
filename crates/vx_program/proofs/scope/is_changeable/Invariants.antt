use Rattle.std.proofs.Common.{◌≡◌, ◌&&◌, drop}
use Rattle.std.specs.List.{list_any}
use Rattle.std.specs.Str.{bytes_eq}
use Rattle.vx_program.proofs.scope.is_changeable.Given as goal

abbrev pub invariant-loop-name : goal.invariant-loop-name
invariant-loop-name l =
    list_any (λ name. bytes_eq name.0.now l.x && name.1) l.names ≡ list_any (λ name. bytes_eq name.0.now l.x && name.1) (drop l.name-index l.names)
