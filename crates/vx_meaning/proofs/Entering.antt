-- How the bodies of methods and closures begin.
use Rattle.std.proofs.Common.{◌≡◌, ◌∙◌, List, ◌++◌, Option, Some, length, map, suc, sym}
use Rattle.std.proofs.lemmas.List.{length-map}
use Rattle.vx_names.specs.declared.key.MethodKey.{MethodKey}
use Rattle.vx_syntax.specs.declared.decl.Decl.{Decl}
use Rattle.vx_syntax.specs.declared.expr.Body.{Body}
use Rattle.vx_syntax.specs.Expressions.{Bytes}
use Rattle.vx_model.specs.declared.value.Held.{Held}
use Rattle.vx_model.specs.declared.value.Value.{Value}
use Rattle.vx_model.specs.Meaning.{State, Done, Stops, Stuck, Allowance, Frame, body_of, caught, entered, evaluated, with_formals}
use Rattle.vx_meaning.proofs.Formals.{formals_differ}

-- a method with as many arguments as formals begins in the activation to which its formals lead
module _ (program : List Decl) (lower : Allowance) (key : MethodKey) (formals : List (Option Bytes)) (body : Body) (values : List Value) (state : State) where
  pub entered_is : (frame : Frame) →
      ((go : Frame → Done) (otherwise : Done) →
      with_formals formals values (λ scope. go (record { method = key; arguments = values; home = state.next; scope = scope })) otherwise ≡ go frame) →
      entered program lower key formals body values state
      ≡ caught state.next (body_of program body lower frame (record { heap = state.heap; next = suc state.next; lines = state.lines }))
  entered_is frame leads =
      leads (λ frame. caught state.next (body_of program body lower frame (record { heap = state.heap; next = suc state.next; lines = state.lines })))
      (Stops Stuck state)

  pub entered_differs : (length formals ≡ length values → ⊥) → entered program lower key formals body values state ≡ Stops Stuck state
  entered_differs differ =
      formals_differ formals values (λ scope. caught state.next (body_of program body lower
      (record { method = key; arguments = values; home = state.next; scope = scope })
      (record { heap = state.heap; next = suc state.next; lines = state.lines })))
      (Stops Stuck state) differ

-- so does a closure
module _ (program : List Decl) (lower : Allowance) (held : Held) (values : List Value) (state : State) where
  pub evaluated_is : (frame : Frame) →
      ((go : Frame → Done) (otherwise : Done) → with_formals (map Some held.formals) values
      (λ scope. go (record { method = held.method; arguments = held.arguments; home = held.home; scope = scope ++ held.scope })) otherwise ≡ go frame) →
      evaluated program lower held values state ≡ body_of program held.body lower frame state
  evaluated_is frame leads = leads (λ frame. body_of program held.body lower frame state) (Stops Stuck state)

  pub evaluated_differs : (length held.formals ≡ length values → ⊥) → evaluated program lower held values state ≡ Stops Stuck state
  evaluated_differs differ =
      formals_differ (map Some held.formals) values (λ scope. body_of program held.body lower
      (record { method = held.method; arguments = held.arguments; home = held.home; scope = scope ++ held.scope }) state)
      (Stops Stuck state) (λ e. differ (sym (length-map held.formals Some) ∙ e))
