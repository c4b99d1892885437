use Rattle.std.proofs.Common.{◌≡◌, ◌∙◌, ◌-◌, ◌<◌, ℕ, Some, ap, refl, sym, length, arith}
use Rattle.std.specs.List.{slice_get}
use Rattle.std.proofs.lemmas.Option.{slice_get_read}
use Rattle.std.proofs.lemmas.Result.{IfOk-weaker}
use Rattle.vx_link.specs.Link.{code_of, targets}
use Rattle.vx_link.proofs.Listed.{code_listed, listed_length}
use Rattle.vx_link.proofs.roster.node_at.Goals as goal

pub returns : goal.returns
returns c =
    let r = c.args.roster.now in
    let i = c.args.place in
    let code = c.index-codes-place.result in
    let all = listed_length r in
    let objects : length c.as_slice-objects.result.now ≡ length r.objects = ap length c.as_slice-objects.ensures in
    let tests : length c.as_slice-tests.result.now ≡ length r.tests = ap length c.as_slice-tests.ensures in
    let tables : length c.as_slice-tables.result.now ≡ length r.tables = ap length c.as_slice-tables.ensures in
    let codes : length c.as_slice-codes.result.now ≡ length r.codes = ap length c.as_slice-codes.ensures in
    let within : i < length (targets r) = c.requires in
    let there : ℕ = i - length c.as_slice-objects.result.now - length c.as_slice-tests.result.now - length c.as_slice-tables.result.now in
    let here : slice_get c.as_slice-codes.result.now there ≡ Some code =
    slice_get_read c.as_slice-codes.result.now (length c.as_slice-codes.result.now) there code refl (omega arith) c.index-codes-place.is in
    let same : there ≡ i - length r.objects - length r.tests - length r.tables = omega arith in
    let at : slice_get r.codes (i - length r.objects - length r.tests - length r.tables) ≡ Some code =
    ap (slice_get r.codes) (sym same) ∙ ap (λ xs. slice_get xs there) (sym c.as_slice-codes.ensures) ∙ here in
    let listed = code_listed r i code (omega arith) at in
    IfOk-weaker c.code_of.result (λ made. made ≡ code_of code) (λ made. slice_get (targets r) i ≡ Some made)
    (λ made is. listed ∙ ap Some (sym is)) c.code_of.ensures
