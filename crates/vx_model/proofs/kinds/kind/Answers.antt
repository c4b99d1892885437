use Rattle.std.proofs.Common.{◌≡◌, ℕ, ◌<◌, Option, None, ap, sym, ◌∙◌, subst}
use Rattle.std.specs.Option.{IfSome, option_copied}
use Rattle.vx_model.specs.Kinds.{kind_by, maker, number_of, primitive_kind}
use Rattle.vx_model.proofs.Predicates.{few}
use Rattle.vx_model.proofs.kinds.kind.Goals as goal

pub primitive_kind-requires : goal.primitive_kind-requires
primitive_kind-requires c =
    subst (λ (o : Option ℕ). IfSome o (λ n. n < 18)) (sym (c.primitive.ensures ∙ ap number_of c.in_ok-copy.ensures)) (few c.args.key.now)

pub returns : goal.returns
returns c =
    let none : None ≡ maker c.args.program.now c.args.key.now =
    sym (ap option_copied c.in-None.is) ∙ c.maker.ensures ∙ ap (maker c.args.program.now) c.in_ok-copy.ensures in
    c.primitive_kind.ensures ∙ ap primitive_kind (c.primitive.ensures ∙ ap number_of c.in_ok-copy.ensures) ∙ ap (kind_by c.args.key.now) none
