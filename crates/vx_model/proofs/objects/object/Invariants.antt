use Rattle.std.proofs.Common.{◌≡◌, ◌≤◌, ◌+◌, drop}
use Rattle.std.specs.List.{position_or_len}
use Rattle.std.specs.Str.{bytes_eq}
use Rattle.vx_model.specs.Order.{plain_names}
use Rattle.vx_model.proofs.objects.object.Given as goal

abbrev pub invariant-loop-decl : goal.invariant-loop-decl
invariant-loop-decl l =
    (l.place ≤ l.decl-index)
    × (l.place + position_or_len (λ y. bytes_eq y l.x) (plain_names (drop l.decl-index l.program)) ≡ position_or_len (λ y. bytes_eq y l.x) (plain_names l.program))
