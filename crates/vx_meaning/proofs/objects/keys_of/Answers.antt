use Rattle.std.proofs.Common.{drop, ap, sym, ◌∙◌, Some, append-nil, arith, ◌≡◌, None, ◌+◌, ◌++◌}
use Rattle.vx_model.specs.Meaning.{Stops, Fails, keys_of}
use Rattle.vx_model.specs.declared.report.RunError.TheVariants as e
use Rattle.vx_model.specs.Fields.{field_at}
use Rattle.vx_meaning.proofs.Keys.{keys_none, keys_step, keys_end, names}
use Rattle.vx_meaning.proofs.objects.keys_of.Goals as goal

pub loop-field-init : goal.loop-field-init
loop-field-init c =
    λ go state.
    ap (λ keys. keys_of c.args.program.now c.args.class.now (names c.args.fields.now) (λ rest. go (keys ++ rest)) state) (sym c.new-keys.ensures)

pub returns-in-None : goal.returns-in-None
returns-in-None c =
    let found : field_at c.args.program.now c.args.class.now c.field-item.result.0 ≡ None =
    ap (λ class. field_at c.args.program.now class c.field-item.result.0) (sym c.bytes.ensures.bytes) ∙ sym c.in-None.ensures in
    λ go state.
    c.loop-field.invariant go state
    ∙ keys_none c.args.program.now c.args.class.now c.args.fields.now c.loop-field.field-index c.field-item.result state
    (omega (arith, c.loop-field-test.true)) c.field-item.is found (λ rest. go (c.loop-field.keys ++ rest))
    ∙ ap (λ name. Stops (Fails (e.NoField name)) state) (sym c.in_ok-copy-in-None.ensures)

pub loop-field-preserved : goal.loop-field-preserved
loop-field-preserved c =
    let key = c.in_ok-copy-in-Some.field-0 in
    let found : field_at c.args.program.now c.args.class.now c.field-item.result.0 ≡ Some key =
    ap (λ class. field_at c.args.program.now class c.field-item.result.0) (sym c.bytes.ensures.bytes)
    ∙ sym c.in-Some.ensures ∙ ap Some (sym c.in_ok-copy-in-Some.ensures) in
    let rest = names (drop (c.loop-field.field-index + 1) c.args.fields.now) in
    λ go state.
    c.loop-field.invariant go state
    ∙ keys_step c.args.program.now c.args.class.now c.args.fields.now c.loop-field.field-index c.field-item.result state
    (omega (arith, c.loop-field-test.true)) c.field-item.is key found c.loop-field.keys go
    ∙ ap (λ keys. keys_of c.args.program.now c.args.class.now rest (λ rest. go (keys ++ rest)) state) (sym c.in_ok-push-in-Some.ensures.ok)

pub returns : goal.returns
returns c =
    let over = c.loop-field-test.false in
    λ go state.
    c.loop-field.invariant go state
    ∙ keys_end c.args.program.now c.args.class.now c.args.fields.now c.loop-field.field-index (λ rest. go (c.loop-field.keys ++ rest)) state
    (omega (arith, over))
    ∙ ap go (append-nil c.loop-field.keys)
