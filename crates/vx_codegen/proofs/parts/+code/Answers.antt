use Rattle.std.proofs.Common.{◌∙◌, ◌++◌, ap, subst, refl, false, length, map, ◌+◌, ◌==◌}
use Rattle.vx_node.specs.declared.unit.Symbol.TheVariants as symbols
use Rattle.vx_compilation.specs.TreeMeaning.{Sends, Resends}
use Rattle.vx_compilation.specs.Machine as machine
use Rattle.vx_compilation.specs.Code.{part_code, stores_code}
use Rattle.vx_units.specs.Signs.{named}
use Rattle.vx_units.specs.CodeUnit.{operation}
use Rattle.vx_codegen.specs.Emitted.{Emits, Comes, parts_code}
use Rattle.vx_codegen.proofs.Views.{send_code, resend_code, primitive_code, get_code, set_code, call_code, fail_code}
use Rattle.vx_codegen.proofs.Emitting.{on_ok, takes, makes, inlines, act_ends, act_goes}
use Rattle.vx_codegen.proofs.parts.+code.Goals as goal

pub append_part-returns-in_ok-copy-in-Send : goal.append_part-returns-in_ok-copy-in-Send
append_part-returns-in_ok-copy-in-Send t c =
    on_ok c.append_named.result (λ is.
    takes c.args.unit.now c.append_parts.new.unit c.append_named.new.unit c.args.part.now c.in-Send.parts c.as_slice-in-Send.result.now
    (machine.Send (Sends c.in-Send.selector))
    (λ following. ap (λ own. part_code own following) c.in-Send.is ∙ send_code c.in-Send.selector c.in-Send.parts following)
    c.as_slice-in-Send.ensures c.in_ok-append_parts-in-Send.ensures
    (is ∙ ap (λ own. c.append_parts.new.unit ++ operation 10 (named (symbols.Table own))) c.in_ok-copy-in-Send.ensures)) c.append_named.ensures

pub append_part-returns-in_ok-copy-in-Get : goal.append_part-returns-in_ok-copy-in-Get
append_part-returns-in_ok-copy-in-Get t c =
    on_ok c.append_named-in-Get.result (λ is.
    takes c.args.unit.now c.append_parts-in-Get.new.unit c.append_named-in-Get.new.unit c.args.part.now c.in-Get.parts c.as_slice-in-Get.result.now
    (machine.Get c.in-Get.field) (λ following. ap (λ own. part_code own following) c.in-Get.is ∙ get_code c.in-Get.field c.in-Get.parts following)
    c.as_slice-in-Get.ensures c.in_ok-append_parts-in-Get.ensures
    (is ∙ ap (λ own. c.append_parts-in-Get.new.unit ++ operation 14 (named (symbols.Field own))) c.in_ok-copy-in-Get.ensures)) c.append_named-in-Get.ensures

pub append_part-returns-in_ok-copy-in-Set : goal.append_part-returns-in_ok-copy-in-Set
append_part-returns-in_ok-copy-in-Set t c =
    on_ok c.append_named-in-Set.result (λ is.
    takes c.args.unit.now c.append_parts-in-Set.new.unit c.append_named-in-Set.new.unit c.args.part.now c.in-Set.parts c.as_slice-in-Set.result.now
    (machine.Set c.in-Set.field) (λ following. ap (λ own. part_code own following) c.in-Set.is ∙ set_code c.in-Set.field c.in-Set.parts following)
    c.as_slice-in-Set.ensures c.in_ok-append_parts-in-Set.ensures
    (is ∙ ap (λ own. c.append_parts-in-Set.new.unit ++ operation 15 (named (symbols.Field own))) c.in_ok-copy-in-Set.ensures)) c.append_named-in-Set.ensures

pub append_part-returns-in_ok-append_parts-in-Resend : goal.append_part-returns-in_ok-append_parts-in-Resend
append_part-returns-in_ok-append_parts-in-Resend t c =
    on_ok c.append_resend.result (takes c.args.unit.now c.append_parts-in-Resend.new.unit c.append_resend.new.unit c.args.part.now c.in-Resend.parts
    c.as_slice-in-Resend.result.now
    (machine.Send (Resends c.in-Resend.method c.in-Resend.row))
    (λ following. ap (λ own. part_code own following) c.in-Resend.is ∙ resend_code c.in-Resend.method c.in-Resend.row c.in-Resend.parts following)
    c.as_slice-in-Resend.ensures c.in_ok-append_parts-in-Resend.ensures) (c.append_resend.ensures (length (map part_code c.in-Resend.parts)))

pub append_part-returns-in_ok-append_parts-in-Prim : goal.append_part-returns-in_ok-append_parts-in-Prim
append_part-returns-in_ok-append_parts-in-Prim t c =
    on_ok c.append_primitive.result (takes c.args.unit.now c.append_parts-in-Prim.new.unit c.append_primitive.new.unit c.args.part.now c.in-Prim.parts
    c.as_slice-in-Prim.result.now
    (machine.Perform c.in-Prim.number) (λ following. ap (λ own. part_code own following) c.in-Prim.is ∙ primitive_code c.in-Prim.number c.in-Prim.parts
    following)
    c.as_slice-in-Prim.ensures c.in_ok-append_parts-in-Prim.ensures) (c.append_primitive.ensures (length (map part_code c.in-Prim.parts)))

pub append_part-returns-in_ok-append_parts-in-Call : goal.append_part-returns-in_ok-append_parts-in-Call
append_part-returns-in_ok-append_parts-in-Call t c =
    on_ok c.append_call.result (takes c.args.unit.now c.append_parts-in-Call.new.unit c.append_call.new.unit c.args.part.now c.in-Call.parts
    c.as_slice-in-Call.result.now
    (machine.Enter (record { method = c.in-Call.method; variant = c.in-Call.variant }))
    (λ following. ap (λ own. part_code own following) c.in-Call.is ∙ call_code c.in-Call.method c.in-Call.variant c.in-Call.parts following)
    c.as_slice-in-Call.ensures c.in_ok-append_parts-in-Call.ensures) (c.append_call.ensures (length (map part_code c.in-Call.parts)))

pub append_part-returns-in_ok-append_parts-in-Fail : goal.append_part-returns-in_ok-append_parts-in-Fail
append_part-returns-in_ok-append_parts-in-Fail t c =
    on_ok c.append_fail.result (takes c.args.unit.now c.append_parts-in-Fail.new.unit c.append_fail.new.unit c.args.part.now c.in-Fail.parts
    c.as_slice-in-Fail.result.now
    (λ n. machine.Fail c.in-Fail.error) (λ following. ap (λ own. part_code own following) c.in-Fail.is ∙ fail_code c.in-Fail.error c.in-Fail.parts following)
    c.as_slice-in-Fail.ensures c.in_ok-append_parts-in-Fail.ensures) c.append_fail.ensures

pub append_part-returns-in_ok-append_values-in-New : goal.append_part-returns-in_ok-append_values-in-New
append_part-returns-in_ok-append_values-in-New t c =
    on_ok c.append_new.result (makes c.args.unit.now c.append_values.new.unit c.append_new.new.unit c.args.part.now c.in-New.class c.in-New.fields
    c.as_slice-in-New.result.now c.as_slice-in-New-2.result.now c.in-New.is c.as_slice-in-New.ensures c.as_slice-in-New-2.ensures
    c.in_ok-append_values-in-New.ensures) (c.append_new.ensures 0)

pub append_part-returns-in_ok-append_acts-in-Inlined : goal.append_part-returns-in_ok-append_acts-in-Inlined
append_part-returns-in_ok-append_acts-in-Inlined t c =
    inlines c.args.unit.now c.append_parts-in-Inlined.new.unit c.append_plain.new.unit c.append_stores.new.unit c.append_acts.new.unit c.args.part.now
    c.in-Inlined.parts c.in-Inlined.locals c.in-Inlined.acts c.in-Inlined.is
    (subst (λ own. Emits c.args.unit.now c.append_parts-in-Inlined.new.unit (parts_code own)) c.as_slice-in-Inlined.ensures
    c.in_ok-append_parts-in-Inlined.ensures)
    c.in_ok-append_plain-in-Inlined.ensures
    (subst (λ own. Emits c.append_plain.new.unit c.append_stores.new.unit (stores_code own)) c.as_slice-in-Inlined-2.ensures
    c.in_ok-append_stores-in-Inlined.ensures)
    (subst (λ own. Comes c.append_stores.new.unit c.append_acts.new.unit c.in_ok-append_acts-in-Inlined.field-0 false own) c.as_slice-in-Inlined-3.ensures
    c.in_ok-append_acts-in-Inlined.ensures)

pub append_acts-returns-in-Some : goal.append_acts-returns-in-Some
append_acts-returns-in-Some t c =
    act_ends c.args.acts.now c.loop-place.place c.index-acts-place.result (c.loop-place.place + 1 == length c.args.acts.now) c.args.is_closure c.in-Some.left
    c.in_ok-left.field-0 c.args.unit.now c.loop-place.unit c.append_act.new.unit
    (record { within = c.loop-place-test.true; is = c.index-acts-place.is; last = refl }) c.in-Some.is c.in_ok-left.ensures c.loop-place.invariant

pub append_acts-loop-place-preserved : goal.append_acts-loop-place-preserved
append_acts-loop-place-preserved t c =
    act_goes c.args.acts.now c.loop-place.place c.index-acts-place.result (c.loop-place.place + 1 == length c.args.acts.now) c.args.is_closure
    c.in_ok-left.field-0 c.args.unit.now c.loop-place.unit c.append_act.new.unit
    (record { within = c.loop-place-test.true; is = c.index-acts-place.is; last = refl }) c.in_default.is c.in_ok-left.ensures c.loop-place.invariant
