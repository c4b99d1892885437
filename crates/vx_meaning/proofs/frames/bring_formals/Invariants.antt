use Rattle.std.proofs.Common.{drop, ◌≡◌, ◌++◌, ℕ, List}
use Rattle.vx_model.specs.Meaning.{Done, with_formals}
use Rattle.vx_model.specs.declared.value.Local.{Local}
use Rattle.vx_meaning.proofs.frames.bring_formals.Given as goal

abbrev pub invariant-loop-i : goal.invariant-loop-i
invariant-loop-i l =
    (go : List (List ℕ × Local) → Done) (otherwise : Done) →
    with_formals (drop l.i l.formals) (drop l.i l.values) (λ own. go (own ++ l.fn.scope)) otherwise ≡ go l.scope
