use Rattle.std.proofs.Common.{◌≡◌, ◌<◌, false, length, get_or, sym, ◌∙◌, arith}
use Rattle.std.proofs.lemmas.List.{length-set}
use Rattle.vx_model.proofs.Walking.{as_much, has_room, passes, has_come, no_one, comes}
use Rattle.vx_model.proofs.above.come.Goals as goal

pub push-requires : goal.push-requires
push-requires c =
    let unseen : get_or c.args.marks.now c.in-Some.place false ≡ false = sym c.has.ensures ∙ c.if-not-has.true in
    (omega arith, has_room c.args.program.now c.args.marks.now c.args.left.now.items c.in-Some.place c.requires c.in-Some.ensures.within unseen)

pub returns-then-not-has-clause-room : goal.returns-then-not-has-clause-room
returns-then-not-has-clause-room c =
    let unseen : get_or c.args.marks.now c.in-Some.place false ≡ false = sym c.has.ensures ∙ c.if-not-has.true in
    let there : c.in-Some.place < length c.args.marks.now = omega (arith, c.in-Some.ensures.within, c.requires.within, c.requires.places) in
    rw c.mark.ensures (rw c.push.ensures.items record {
      within = c.requires.within;
      places = length-set c.args.marks.now c.in-Some.place _ ∙ c.requires.places;
      room = omega (arith, as_much c.args.program.now c.args.marks.now c.args.left.now.items c.in-Some.place c.in-Some.ensures.within there unseen, c.requires.room);
    })

pub returns-then-not-has-clause-to_do : goal.returns-then-not-has-clause-to_do
returns-then-not-has-clause-to_do c =
    let unseen : get_or c.args.marks.now c.in-Some.place false ≡ false = sym c.has.ensures ∙ c.if-not-has.true in
    let there : c.in-Some.place < length c.args.marks.now = omega (arith, c.in-Some.ensures.within, c.requires.within, c.requires.places) in
    rw c.mark.ensures (rw c.push.ensures.items
    (as_much c.args.program.now c.args.marks.now c.args.left.now.items c.in-Some.place c.in-Some.ensures.within there unseen))

pub returns-then-not-has-clause-walked : goal.returns-then-not-has-clause-walked
returns-then-not-has-clause-walked c = λ x next walked.
    let there : c.in-Some.place < length c.args.marks.now = omega (arith, c.in-Some.ensures.within, c.requires.within, c.requires.places) in
    rw c.mark.ensures (rw c.push.ensures.items
    (comes c.args.program.now x c.args.y.now c.args.marks.now c.args.left.now.items next c.in-Some.place walked
    (λ place decl e n. sym c.in-Some.is ∙ c.place.ensures.only place decl e n) c.in-Some.ensures.some c.in-Some.ensures.within there))

pub returns-in_default-clause-walked : goal.returns-in_default-clause-walked
returns-in_default-clause-walked c = λ x next walked. passes c.args.program.now x c.args.y.now c.args.marks.now c.args.left.now.items next walked
    (no_one c.args.program.now c.args.marks.now c.args.y.now (λ place decl e n. sym c.in_default.is ∙ c.place.ensures.only place decl e n))

pub returns-else-not-has-clause-walked : goal.returns-else-not-has-clause-walked
returns-else-not-has-clause-walked c = λ x next walked. passes c.args.program.now x c.args.y.now c.args.marks.now c.args.left.now.items next walked
    (has_come c.args.program.now c.args.marks.now c.args.y.now c.in-Some.place (λ place decl e n. sym c.in-Some.is ∙ c.place.ensures.only place decl e n) (sym c.has.ensures ∙ c.if-not-has.false))
