use Rattle.vx_image.proofs.Named.{is_a_name, a_name_is}
use Rattle.vx_image.proofs.names.names_are_names.Goals as goal

pub returns : goal.returns
returns c =
    let law = c.operators_are_names.ensures in
    λ bytes. (is_a_name law.alone bytes, a_name_is law.found bytes)
