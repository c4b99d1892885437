use Rattle.std.proofs.Common.{◌≡◌, ◌&&◌, ◌||◌, Bool, true, false, not, sym, ap, ◌∙◌}
use Rattle.vx_syntax.specs.declared.test.Test.{Test}
use Rattle.vx_model.specs.Holds.{is_true}
use Rattle.vx_lookup.proofs.Tests.{ands, ors, negates}
use Rattle.vx_lookup.proofs.hold.+is_true.Goals as goal

pub returns-then-is_true : goal.returns-then-is_true
returns-then-is_true t c =
    let is : (Test → Bool) = is_true c.args.program.now c.args.heap.now c.args.value.now in
    let first : is c.in-And.a ≡ true = ap is (sym c.get.ensures) ∙ sym c.is_true.ensures ∙ c.if-is_true.true in
    sym (ap is c.in-And.is ∙ ands c.args.program.now c.args.heap.now c.args.value.now c.in-And.a c.in-And.b ∙ ap (λ x. x && is c.in-And.b) first ∙
    ap is (sym c.get-then-is_true.ensures) ∙ sym c.is_true-then-is_true.ensures)

pub returns-else-is_true : goal.returns-else-is_true
returns-else-is_true t c =
    let is : (Test → Bool) = is_true c.args.program.now c.args.heap.now c.args.value.now in
    let first : is c.in-And.a ≡ false = ap is (sym c.get.ensures) ∙ sym c.is_true.ensures ∙ c.if-is_true.false in
    sym (ap is c.in-And.is ∙ ands c.args.program.now c.args.heap.now c.args.value.now c.in-And.a c.in-And.b ∙ ap (λ x. x && is c.in-And.b) first ∙
    sym c.if-is_true.false)

pub returns-then-is_true-2 : goal.returns-then-is_true-2
returns-then-is_true-2 t c =
    let is : (Test → Bool) = is_true c.args.program.now c.args.heap.now c.args.value.now in
    let first : is c.in-Or.a ≡ true = ap is (sym c.get-in-Or.ensures) ∙ sym c.is_true-in-Or.ensures ∙ c.if-is_true-2.true in
    sym (ap is c.in-Or.is ∙ ors c.args.program.now c.args.heap.now c.args.value.now c.in-Or.a c.in-Or.b ∙ ap (λ x. x || is c.in-Or.b) first ∙
    sym c.if-is_true-2.true)

pub returns-else-is_true-2 : goal.returns-else-is_true-2
returns-else-is_true-2 t c =
    let is : (Test → Bool) = is_true c.args.program.now c.args.heap.now c.args.value.now in
    let first : is c.in-Or.a ≡ false = ap is (sym c.get-in-Or.ensures) ∙ sym c.is_true-in-Or.ensures ∙ c.if-is_true-2.false in
    sym (ap is c.in-Or.is ∙ ors c.args.program.now c.args.heap.now c.args.value.now c.in-Or.a c.in-Or.b ∙ ap (λ x. x || is c.in-Or.b) first ∙
    ap is (sym c.get-else-is_true-2.ensures) ∙ sym c.is_true-else-is_true-2.ensures)

pub returns-in-Not : goal.returns-in-Not
returns-in-Not t c =
    let is : (Test → Bool) = is_true c.args.program.now c.args.heap.now c.args.value.now in
    sym (ap is c.in-Not.is ∙ negates c.args.program.now c.args.heap.now c.args.value.now c.in-Not.a ∙ ap (λ x. not (is x)) (sym c.get-in-Not.ensures) ∙
    ap not (sym c.is_true-in-Not.ensures))
