use Rattle.std.proofs.Common.{◌∙◌, Some, sym, ap}
use Rattle.std.specs.List.{list_all}
use Rattle.vx_program.specs.Program.{is_name_of}
use Rattle.vx_fields.proofs.Lowest.{it_is, it_is_behind}
use Rattle.vx_fields.proofs.meaning.lowest.Goals as goal

pub returns-then-have_all : goal.returns-then-have_all
returns-then-have_all c =
    ap Some c.in_ok-copy.ensures
    ∙ sym (c.loop-one.invariant ∙ it_is c.args.keys.now c.args.above.now c.loop-one.one-index c.one-item.result c.loop-one-test.true c.one-item.is
    (sym (c.if-have_all.ensures ∙ ap (λ names. list_all (λ key. is_name_of names key.specialiser) c.args.keys.now) c.as_slice.ensures)))

pub loop-one-preserved : goal.loop-one-preserved
loop-one-preserved c =
    c.loop-one.invariant ∙ it_is_behind c.args.keys.now c.args.above.now c.loop-one.one-index c.one-item.result c.loop-one-test.true c.one-item.is
    (sym (c.if-have_all.ensures ∙ ap (λ names. list_all (λ key. is_name_of names key.specialiser) c.args.keys.now) c.as_slice.ensures))
