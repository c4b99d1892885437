use Rattle.std.proofs.Common.{◌≡◌, ◌↔◌, ◌++◌, [], take, drop}
use Rattle.vx_syntax.specs.Expressions.{Scope, field_names}
use Rattle.vx_syntax.specs.Written.{AreStated}
use Rattle.vx_program.proofs.Trees.{AllWritten, AllFields}
use Rattle.vx_program.proofs.written.+written.Given as goal

abbrev pub invariant-is_body_written-loop-place : goal.invariant-is_body_written-loop-place
invariant-is_body_written-loop-place l =
    (AreStated l.body l.fn.scope ↔ AreStated (drop l.place l.body) l.scope)
    × ((inner : Scope) × (l.scope ≡ inner ++ l.fn.scope))

abbrev pub invariant-is_new_written-loop-place : goal.invariant-is_new_written-loop-place
invariant-is_new_written-loop-place l =
    (AllFields l.fields [] l.fn.scope ↔ AllFields (drop l.place l.fields) (field_names (take l.place l.fields)) l.fn.scope)
    × (l.scope ≡ l.fn.scope)

abbrev pub invariant-is_send_written-loop-argument : goal.invariant-is_send_written-loop-argument
invariant-is_send_written-loop-argument l =
    (AllWritten l.fn.scope l.arguments ↔ AllWritten l.fn.scope (drop l.argument-index l.arguments))
    × (l.scope ≡ l.fn.scope)
