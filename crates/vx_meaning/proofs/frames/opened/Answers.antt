use Rattle.std.proofs.Common.{◌≡◌, ◌∙◌, ◌++◌, ap, sym, append-nil, List, ℕ, Some, map}
use Rattle.vx_model.specs.declared.value.Local.{Local}
use Rattle.vx_model.specs.Meaning.{Done, with_formals}
use Rattle.vx_meaning.proofs.frames.opened.Goals as goal

-- The formals are brought into the scope that the closure holds.
pub returns : goal.returns
returns c =
    λ go otherwise.
    let held = c.args.held.now in
    let own : List (List ℕ × Local) → Done = λ scope. go (record { method = held.method; arguments = held.arguments; home = held.home; scope = scope }) in
    let formals : c.as_slice-3.result.now ≡ map Some held.formals = c.as_slice-3.ensures ∙ c.in_ok-formals.ensures ∙ ap (map Some) c.as_slice-2.ensures in
    let base : c.bring_all.new.self ≡ held.scope =
    c.in_ok-bring_all.ensures ∙ ap (λ l. c.as_slice.result.now ++ l) c.new-scope.ensures ∙ append-nil c.as_slice.result.now ∙ c.as_slice.ensures in
    let scope = c.bring_formals.new.scope in
    ap (λ fs. with_formals fs c.args.values.now (λ scope. own (scope ++ held.scope)) otherwise) (sym formals)
    ∙ ap (λ b. with_formals c.as_slice-3.result.now c.args.values.now (λ scope. own (scope ++ b)) otherwise) (sym base)
    ∙ c.in_ok-bring_formals.ensures own otherwise
    ∙ ap (λ m. go (record { method = m; arguments = held.arguments; home = held.home; scope = scope })) (sym c.in_ok-copy.ensures)
    ∙ ap (λ a. go (record { method = c.in_ok-copy.field-0; arguments = a; home = held.home; scope = scope }))
    (sym (c.in_ok-copy_values.ensures ∙ c.as_slice-4.ensures))
