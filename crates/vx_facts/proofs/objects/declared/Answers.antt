use Rattle.std.proofs.Common.{◌≡◌, true, get_or, sym, ap, ◌∙◌}
use Rattle.std.proofs.lemmas.Result.{IfOk-weaker}
use Rattle.vx_program.specs.Program.{is_named}
use Rattle.vx_answers.specs.Facts.{known_as, decl_of}
use Rattle.vx_facts.proofs.Declared.{decl_at, no_decl, read_is}
use Rattle.vx_facts.proofs.objects.declared.Goals as goal

pub returns-in-Some : goal.returns-in-Some
returns-in-Some c =
    let one = c.in-Some.ensures.some in
    let own = read_is c.args.program.now c.in-Some.place one.0 c.index-declarations-place.result one.1
    (c.index-declarations-place.is ∙ ap (λ decls. get_or decls c.in-Some.place c.index-declarations-place.result) c.declarations.ensures.all) in
    let named : is_named c.args.x.now one.0 ≡ true = ap (λ z. is_named z one.0) (sym c.bytes.ensures.bytes) ∙ one.2 in
    let is = decl_at c.args.program.now c.args.x.now c.in-Some.place one.0 one.1 named (λ other decl at n.
    let e = c.in-Some.ensures.only other decl at (ap (λ z. is_named z decl) c.bytes.ensures.bytes ∙ n) in cc) in
    IfOk-weaker c.known_as.result (λ known. known ≡ known_as c.index-declarations-place.result) (λ known. known ≡ decl_of c.args.program.now c.args.x.now)
    (λ known e. e ∙ ap known_as own ∙ sym is) c.known_as.ensures

pub returns-in-None : goal.returns-in-None
returns-in-None c =
    sym (no_decl c.args.program.now c.args.x.now (λ place decl at named.
    absurd (let e = c.in-None.ensures.only place decl at (ap (λ z. is_named z decl) c.bytes.ensures.bytes ∙ named) in cc)))
