use Rattle.std.proofs.Common.{arith, ap, ◌∙◌, Err}
use Rattle.vx_format.specs.declared.fault.FormatFault.TheVariants.{Short, Trailing}
use Rattle.vx_format.specs.Format.{loaded}
use Rattle.vx_image.proofs.Whole.{are_bytes, is_kept, is_laid, kept_as}
use Rattle.vx_image.proofs.loaded.load.Goals as goal

pub invariant_of-result : goal.invariant_of-result
invariant_of-result c =
    let k = is_kept c.images_are_loaded.ensures.laid c.args.bytes.now _ c.in_ok-bytes.ensures.items
    (are_bytes c.args.bytes.now (λ i. let b = c.type_inv.bytes i in omega (arith, b))) c.in_ok-version.version c.in_ok-version.image
    c.in_ok-version.ensures.gives in
    (k.0, k.1, k.2, c.in_ok-forms.ensures, c.in_ok-codes.ensures)

pub returns-clause-laid : goal.returns-clause-laid
returns-clause-laid c =
    is_laid c.images_are_loaded.ensures.laid c.args.bytes.now (are_bytes c.args.bytes.now (λ i. let b = c.type_inv.bytes i in omega (arith, b))) _ _
    c.in_ok-version.ensures.gives

pub returns-clause-short : goal.returns-clause-short
returns-clause-short c = λ v x more fit e some.
    kept_as c.args.bytes.now _ c.in_ok-bytes.ensures.items _ _ (Err (Short _)) c.in_ok-version.ensures.gives
    (c.images_are_loaded.ensures.fronts v x fit c.args.bytes.now more e some)

pub returns-clause-trailing : goal.returns-clause-trailing
returns-clause-trailing c = λ v x b rest fit e.
    kept_as c.args.bytes.now _ c.in_ok-bytes.ensures.items _ _ (Err (Trailing _)) c.in_ok-version.ensures.gives
    (ap loaded e ∙ c.images_are_loaded.ensures.more v x fit b rest)
