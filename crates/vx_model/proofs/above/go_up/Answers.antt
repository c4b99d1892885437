use Rattle.std.proofs.Common.{◌≡◌, ◌+◌, List, ◌∷◌, Some, drop, sym, ap, ◌∙◌, subst}
use Rattle.std.specs.List.{slice_get}
use Rattle.std.proofs.lemmas.List.{drop_more}
use Rattle.std.proofs.Math.ListN.{drop_of_length-le}
use Rattle.std.proofs.lemmas.Option.{get_or_from_slice_get}
use Rattle.vx_syntax.specs.Expressions.{Bytes}
use Rattle.vx_program.specs.Program.{parents_of}
use Rattle.vx_model.specs.Walks.{Walked}
use Rattle.vx_model.proofs.above.go_up.Goals as goal

-- src/above.rt:112:5
pub loop-parent-preserved : goal.loop-parent-preserved
loop-parent-preserved c =
    let parents : List Bytes = c.parents_of-parent-items.result.now in
    let i = c.loop-parent.parent-index in
    let next : drop i parents ≡ c.bytes.result.now ∷ drop (i + 1) parents =
    drop_more parents i c.parent-item.result c.loop-parent-test.true ∙ ap (λ y. y ∷ drop (i + 1) parents) (sym c.parent-item.is ∙ sym c.bytes.ensures.bytes) in
    record {
      room = c.come.ensures.room;
      to_do = c.come.ensures.to_do ∙ c.loop-parent.invariant.to_do;
      walked = λ x walked. c.come.ensures.walked x (drop (i + 1) parents)
          (subst (Walked c.args.program.now x c.loop-parent.marks c.loop-parent.left.items) next (c.loop-parent.invariant.walked x walked));
    }

-- src/above.rt:99:1
pub returns-clause-walked : goal.returns-clause-walked
returns-clause-walked c = λ x decl e walked.
    let parents : List Bytes = c.parents_of-parent-items.result.now in
    let own : c.index-declarations-place.result ≡ decl =
    c.index-declarations-place.is ∙ get_or_from_slice_get c.declarations.result.now c.args.place decl c.index-declarations-place.result
    (subst (λ decls. slice_get decls c.args.place ≡ Some decl) (sym c.declarations.ensures.all) e) in
    let same : parents_of decl ≡ parents = ap parents_of (sym own) ∙ sym c.parents_of-parent-items.ensures in
    subst (Walked c.args.program.now x c.loop-parent.marks c.loop-parent.left.items) (drop_of_length-le parents c.loop-parent-test.false)
    (c.loop-parent.invariant.walked x (subst (Walked c.args.program.now x c.args.marks.now c.args.left.now.items) same walked))
