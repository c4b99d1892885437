use Rattle.std.proofs.Common.{refl, sym, ◌≡◌, ◌<◌, ◌∙◌, ap, length, vec_len, Some, arith, rules}
use Rattle.std.specs.Prelude.{slice_get}
use Rattle.std.proofs.lemmas.Option.{slice_get-get_or}
use Rattle.vx_machine.specs.declared.word.Object.{Object}
use Rattle.vx_machine.specs.Slots.{place_from}
use Rattle.vx_machine.proofs.Fielding.{placing, no_place, changes, not_held}
use Rattle.vx_machine.proofs.objects.change.Goals as goal

pub put-requires : goal.put-requires
put-requires c =
    let sizes : vec_len c.args.objects.now ≡ length c.args.objects.now.items = search rules in
    let lt : c.args.number < length c.args.objects.now.items = omega (arith, c.if-number-len.false, c.len.ensures, sizes) in
    let read : slice_get c.args.objects.now.items c.args.number ≡ Some c.index.result.now =
    slice_get-get_or c.args.objects.now.items c.args.number c.index.result.now lt ∙ ap (λ (o : Object). Some o) (sym c.index.ensures) in
    let lent : slice_get c.args.objects.now.items c.args.number ≡ Some c.index_mut.result.now =
    slice_get-get_or c.args.objects.now.items c.args.number c.index_mut.result.now lt ∙ ap (λ (o : Object). Some o) (sym c.index_mut.ensures.value) in
    let same : c.index.result.now ≡ c.index_mut.result.now = cc in
    let at : place_from c.args.field 0 c.index_mut.result.now.slots ≡ Some c.in-Some.found =
    ap (λ (o : Object). place_from c.args.field 0 o.slots) (sym same) ∙ rw c.as_slice.ensures at (sym c.in-Some.ensures) in
    let p = placing c.args.field 0 c.index_mut.result.now.slots c.in-Some.found at in
    omega (arith, p.at, p.within)

pub returns-in-None : goal.returns-in-None
returns-in-None c =
    let sizes : vec_len c.args.objects.now ≡ length c.args.objects.now.items = search rules in
    let lt : c.args.number < length c.args.objects.now.items = omega (arith, c.if-number-len.false, c.len.ensures, sizes) in
    let read : slice_get c.args.objects.now.items c.args.number ≡ Some c.index.result.now =
    slice_get-get_or c.args.objects.now.items c.args.number c.index.result.now lt ∙ ap (λ (o : Object). Some o) (sym c.index.ensures) in (
      not_held c.args.objects.now.items c.args.number c.args.field c.index.result.now read
          (no_place c.args.field 0 c.index.result.now.slots (rw c.as_slice.ensures at (sym c.in-None.ensures))),
      refl,
    )

pub returns-in-Some : goal.returns-in-Some
returns-in-Some c =
    let sizes : vec_len c.args.objects.now ≡ length c.args.objects.now.items = search rules in
    let lt : c.args.number < length c.args.objects.now.items = omega (arith, c.if-number-len.false, c.len.ensures, sizes) in
    let read : slice_get c.args.objects.now.items c.args.number ≡ Some c.index.result.now =
    slice_get-get_or c.args.objects.now.items c.args.number c.index.result.now lt ∙ ap (λ (o : Object). Some o) (sym c.index.ensures) in
    let lent : slice_get c.args.objects.now.items c.args.number ≡ Some c.index_mut.result.now =
    slice_get-get_or c.args.objects.now.items c.args.number c.index_mut.result.now lt ∙ ap (λ (o : Object). Some o) (sym c.index_mut.ensures.value) in
    let same : c.index.result.now ≡ c.index_mut.result.now = cc in
    let at : place_from c.args.field 0 c.index_mut.result.now.slots ≡ Some c.in-Some.found =
    ap (λ (o : Object). place_from c.args.field 0 o.slots) (sym same) ∙ rw c.as_slice.ensures at (sym c.in-Some.ensures) in
    rw c.put.ensures (changes c.args.objects.now.items c.args.number c.args.field c.in-Some.found c.args.word c.index_mut.result.now lent at)
