use Rattle.std.proofs.Common.{◌≡◌, ◌∙◌, ◌++◌, ◌∷◌, [], List, map, ap, sym, append_assoc}
use Rattle.vx_compilation.specs.Cloning as spec
use Rattle.vx_clone.specs.Sends.{parts_sends, fields_sends}
use Rattle.vx_clone.proofs.Rows.{went_well, send_sends, new_sends, closure_sends}
use Rattle.vx_clone.proofs.collecting.+sends.Goals as goal

pub push_part-returns-in_ok-push_send-in-Send : goal.push_part-returns-in_ok-push_send-in-Send
push_part-returns-in_ok-push_send-in-Send t c =
    let old = c.args.sendings.now in
    let own : List spec.Sending = (c.in-Send.selector, map spec.name_alone c.in-Send.parts) ∷ [] in
    let first : c.push_send.new.sendings ≡ old ++ own =
    c.in_ok-push_send-in-Send.ensures ∙ ap (λ l. old ++ (c.in-Send.selector, map spec.name_alone l) ∷ []) c.as_slice.ensures in
    went_well c.push_parts.result (λ e. e
    ∙ ap (λ l. l ++ parts_sends c.as_slice-in-Send.result.now) first
    ∙ ap (λ l. old ++ own ++ parts_sends l) c.as_slice-in-Send.ensures
    ∙ append_assoc old own (parts_sends c.in-Send.parts)
    ∙ ap (λ l. old ++ l) (sym (send_sends c.in-Send.selector c.in-Send.parts))
    ∙ ap (λ p. old ++ spec.sends p) (sym c.in-Send.is)) c.push_parts.ensures

pub push_part-returns-in-Closure : goal.push_part-returns-in-Closure
push_part-returns-in-Closure t c =
    went_well c.push_body.result (λ e. e ∙ ap (λ l. c.args.sendings.now ++ l) (sym (closure_sends c.in-Closure.field-0 c.in-Closure.body))
    ∙ ap (λ p. c.args.sendings.now ++ spec.sends p) (sym c.in-Closure.is)) c.push_body.ensures

pub push_part-returns-in-New : goal.push_part-returns-in-New
push_part-returns-in-New t c =
    went_well c.push_fields.result (λ e. e ∙ ap (λ l. c.args.sendings.now ++ fields_sends l) c.as_slice-in-New.ensures
    ∙ ap (λ l. c.args.sendings.now ++ l) (sym (new_sends c.in-New.field-0 c.in-New.fields))
    ∙ ap (λ p. c.args.sendings.now ++ spec.sends p) (sym c.in-New.is)) c.push_fields.ensures
