use Rattle.std.proofs.Common.{drop, ap, sym, ◌∙◌, arith, ◌≡◌, ◌∷◌, ◌++◌}
use Rattle.vx_model.specs.Meaning.{with_formals}
use Rattle.vx_model.specs.declared.value.Local.TheVariants as l
use Rattle.vx_meaning.proofs.Formals.{formals_end, formals_none, formals_some}
use Rattle.vx_meaning.proofs.frames.bring_formals.Goals as goal

pub loop-i-init : goal.loop-i-init
loop-i-init c = λ go otherwise. formals_end c.args.formals.now c.args.values.now (λ own. go (own ++ c.args.scope.now)) otherwise c.requires

pub loop-i-preserved-in_ok-bring : goal.loop-i-preserved-in_ok-bring
loop-i-preserved-in_ok-bring c =
    λ go otherwise.
    let value = c.index-values-i.result in
    formals_some c.args.formals.now c.args.values.now c.loop-i.i c.index-formals-i.result (λ own. go (own ++ c.args.scope.now)) otherwise
    c.loop-i-test.true c.loop-i.auto.i c.requires c.index-formals-i.is c.in-Some.name c.in-Some.is value c.index-values-i.is
    ∙ c.loop-i.invariant (λ scope. go ((c.in-Some.name, l.Plain value) ∷ scope)) otherwise
    ∙ ap (λ name. go ((name, l.Plain value) ∷ c.loop-i.scope)) (sym c.in_ok-name.ensures)
    ∙ ap (λ value. go ((c.in_ok-name.name, l.Plain value) ∷ c.loop-i.scope)) (sym c.in_ok-copy.ensures)
    ∙ ap go (sym c.in_ok-bring.ensures)

pub loop-i-preserved : goal.loop-i-preserved
loop-i-preserved c =
    λ go otherwise.
    formals_none c.args.formals.now c.args.values.now c.loop-i.i c.index-formals-i.result (λ own. go (own ++ c.args.scope.now)) otherwise
    c.loop-i-test.true c.loop-i.auto.i c.requires c.index-formals-i.is c.in_default.is
    ∙ c.loop-i.invariant go otherwise

pub returns : goal.returns
returns c =
    let first : 0 ≡ c.loop-i.i = omega (arith, c.loop-i-test.false) in
    λ go otherwise.
    ap (λ n. with_formals (drop n c.args.formals.now) (drop n c.args.values.now) (λ own. go (own ++ c.args.scope.now)) otherwise) first
    ∙ c.loop-i.invariant go otherwise
