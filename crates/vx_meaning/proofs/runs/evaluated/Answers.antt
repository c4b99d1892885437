use Rattle.std.proofs.Common.{◌∙◌, ap, sym, None, List, []}
use Rattle.vx_model.specs.declared.value.Value.{Value}
use Rattle.vx_model.specs.Meaning.{report, allowance, call, main_message, Message}
use Rattle.vx_model.specs.Values.{opening}
use Rattle.vx_syntax.specs.Expressions.{Bytes}
use Rattle.vx_meaning.proofs.Spends.{meaning_is}
use Rattle.vx_meaning.proofs.runs.evaluated.Goals as goal

-- The run is the call of `main`, in the heap and with the lines that the definition begins with.
pub returns : goal.returns
returns c =
    let lower = allowance c.args.program.now c.args.f in
    let named : Bytes → Message = λ name. record { selector = record { name = name; arity = 0 }; arguments = []; below = None } in
    let sent : List Value → Message = λ values. record { selector = record { name = c.in_ok-name_of.field-0; arity = 0 }; arguments = values; below = None } in
    c.reported.ensures
    ∙ ap report (sym c.in_ok-outcome.ensures.done)
    ∙ ap (λ values. report (call lower (sent values) (record { heap = c.in_ok-opening.field-0; next = 0; lines = c.new.result }))) c.new-2.ensures
    ∙ ap (λ name. report (call lower (named name) (record { heap = c.in_ok-opening.field-0; next = 0; lines = c.new.result }))) c.in_ok-name_of.ensures
    ∙ ap (λ heap. report (call lower main_message (record { heap = heap; next = 0; lines = c.new.result }))) c.in_ok-opening.ensures
    ∙ ap (λ lines. report (call lower main_message (record { heap = opening c.args.program.now; next = 0; lines = lines }))) c.new.ensures
    ∙ sym (meaning_is c.args.program.now c.args.f)
