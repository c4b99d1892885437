use Rattle.std.proofs.Common.{◌∙◌, ◌++◌, [], ap, sym, append-nil, List, ℕ}
use Rattle.vx_model.specs.declared.value.Local.{Local}
use Rattle.vx_model.specs.Meaning.{Done, with_formals}
use Rattle.vx_meaning.proofs.Formals.{formals_same}
use Rattle.vx_meaning.proofs.frames.entered.Goals as goal

-- The formals are brought into an empty scope.
pub returns : goal.returns
returns c =
    λ go otherwise.
    let own : List (List ℕ × Local) → Done = λ scope. go (record { method = c.args.key; arguments = c.args.values; home = c.args.home; scope = scope }) in
    formals_same c.args.formals.now c.args.values own (λ scope. own (scope ++ [])) otherwise (λ scope. ap own (sym (append-nil scope)))
    ∙ ap (λ base. with_formals c.args.formals.now c.args.values (λ scope. own (scope ++ base)) otherwise) (sym c.new-scope.ensures)
    ∙ ap (λ values. with_formals c.args.formals.now values (λ scope. own (scope ++ c.new-scope.result)) otherwise) (sym c.as_slice.ensures)
    ∙ c.in_ok-bring_formals.ensures own otherwise
