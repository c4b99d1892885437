use Rattle.std.proofs.Common.{◌≡◌, ◌||◌, not, drop}
use Rattle.std.specs.List.{list_all}
use Rattle.vx_model.specs.Order.{is_above}
use Rattle.vx_model.specs.Holds.{lets_hold}
use Rattle.vx_lookup.proofs.hold.holds_all.Given as goal

abbrev pub invariant-loop-place : goal.invariant-loop-place
invariant-loop-place l =
    list_all (λ decl. not (is_above l.program l.object decl) || lets_hold l.program l.heap l.value decl) l.program ≡
    list_all (λ decl. not (is_above l.program l.object decl) || lets_hold l.program l.heap l.value decl) (drop l.place l.program)
