use Rattle.std.proofs.Common.{◌≡◌, ◌∙◌, ◌++◌, ◌∷◌, [], ap, length, map}
use Rattle.vx_compilation.specs.Machine.{Leave}
use Rattle.vx_compilation.specs.Code.{statements_code, statement_code}
use Rattle.vx_units.specs.Signs.{Signs, size}
use Rattle.vx_units.specs.CodeUnit.{code_signs, count, small}
use Rattle.vx_codegen.specs.Emitted.{mode}
use Rattle.vx_codegen.proofs.Emitting.{on_ok, block_emitted}
use Rattle.vx_codegen.proofs.blocks.append_block.Goals as goal

pub returns : goal.returns
returns c =
    let own : Signs = c.append_body.new.unit in
    let body : own ≡ code_signs (statements_code (mode c.args.is_closure) (map statement_code c.args.block.now.acts) (Leave ∷ [])) =
    c.in_ok-append_body.ensures ∙ ap (λ all. all ++ code_signs (statements_code (mode c.args.is_closure) (map statement_code c.as_slice.result.now)
    (Leave ∷ []))) c.new-own.ensures
    ∙ ap (λ acts. code_signs (statements_code (mode c.args.is_closure) (map statement_code acts) (Leave ∷ []))) c.as_slice.ensures in
    on_ok c.append.result (λ is.
    is ∙ ap (λ all. all ++ own) (c.in_ok-count_size.ensures ∙ ap (λ all. all ++ count (size own))
    (c.in_ok-small.ensures ∙ ap (λ n. c.count-2.new.self ++ small n) c.len.ensures ∙ ap (λ all. all ++ small (length c.args.block.now.formals))
    (c.in_ok-count-2.ensures ∙ ap (λ all. all ++ count c.args.block.now.captures) c.in_ok-count.ensures)))
    ∙ block_emitted c.args.unit.now c.args.is_closure c.args.block.now own body) c.append.ensures
