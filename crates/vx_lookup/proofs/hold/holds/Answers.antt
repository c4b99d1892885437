use Rattle.std.proofs.Common.{◌≡◌, ◌&&◌, ◌||◌, not, true, false, sym, ap, ◌∙◌, subst}
use Rattle.std.specs.List.{list_all}
use Rattle.std.proofs.lemmas.Bool.{false_from_ne_true}
use Rattle.vx_program.specs.Program.{is_there, leads}
use Rattle.vx_model.specs.Order.{is_above}
use Rattle.vx_model.specs.Holds.{class_of, lets_hold}
use Rattle.vx_model.proofs.Orders.{stands_somewhere}
use Rattle.vx_model.proofs.Places.{Found, found}
use Rattle.vx_lookup.proofs.Held.{at_plain, there}
use Rattle.vx_lookup.proofs.hold.holds.Goals as goal

pub returns-in-Object : goal.returns-in-Object
returns-in-Object c =
    let own : Found c.args.program.now c.args.object.now c.index-declarations-place.result =
    found c.args.program.now c.declarations.result.now c.args.object.now c.bytes.result.now c.in-Some.place c.index-declarations-place.result c.declarations.ensures.all
    c.index-declarations-place.is c.bytes.ensures.bytes c.in-Some.ensures.some in
    c.is_above.ensures ∙ ap (λ class. leads c.args.program.now class c.bytes-in-Object.result.now) c.class_of.ensures ∙
    ap (leads c.args.program.now (class_of c.args.heap.now c.args.value.now)) c.bytes-in-Object.ensures.bytes ∙
    sym (at_plain c.args.program.now c.declarations.ensures.program (record { finds = c.chains_are_found.ensures.found; are = c.chains_are_found.ensures.are })
    c.args.heap.now c.args.value.now c.args.object.now c.in-Object.name c.in-Object.parents c.index-declarations-place.result own c.in-Object.is)

pub returns-in_default-declarations : goal.returns-in_default-declarations
returns-in_default-declarations c =
    let own : Found c.args.program.now c.args.object.now c.index-declarations-place.result =
    found c.args.program.now c.declarations.result.now c.args.object.now c.bytes.result.now c.in-Some.place c.index-declarations-place.result c.declarations.ensures.all
    c.index-declarations-place.is c.bytes.ensures.bytes c.in-Some.ensures.some in
    c.holds_all.ensures ∙ sym (ap (λ b. b && list_all (λ decl. not (is_above c.args.program.now c.args.object.now decl) ||
    lets_hold c.args.program.now c.args.heap.now c.args.value.now decl) c.args.program.now)
    (there c.args.program.now c.args.object.now c.index-declarations-place.result own))

pub returns-in_default : goal.returns-in_default
returns-in_default c =
    let none : is_there c.args.program.now c.args.object.now ≡ false = false_from_ne_true (is_there c.args.program.now c.args.object.now) (λ there.
    let at = stands_somewhere c.args.program.now c.bytes.result.now (subst (λ x. is_there c.args.program.now x ≡ true) (sym c.bytes.ensures.bytes) there) in
    absurd (cc (c.in_default.is, c.place.ensures.only at.0 at.1 at.2 at.3))) in
    sym (ap (λ b. b && list_all (λ decl. not (is_above c.args.program.now c.args.object.now decl) ||
    lets_hold c.args.program.now c.args.heap.now c.args.value.now decl) c.args.program.now) none)
