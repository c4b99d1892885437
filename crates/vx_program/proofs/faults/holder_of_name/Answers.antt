use Rattle.std.proofs.Common.{◌≡◌, Some, true, refl, sym, ap, ◌∙◌}
use Rattle.vx_lists.proofs.Places.{in_at}
use Rattle.vx_syntax.specs.Keys.{key_of}
use Rattle.vx_program.specs.Program.{is_named, is_there}
use Rattle.vx_program.proofs.Sought.{stands}
use Rattle.vx_program.proofs.Holders.{name_held, name_not_held}
use Rattle.vx_program.proofs.faults.holder_of_name.Goals as goal

pub returns-in_ok-key-in-Some : goal.returns-in_ok-key-in-Some
returns-in_ok-key-in-Some c =
    let s = c.in-Some.ensures.some in
    let own = stands c.args.decls.now c.in-Some.place s.0 c.index-decls-place.result s.1 c.index-decls-place.is in
    let named : is_named c.args.name.now s.0 ≡ true = ap (λ z. is_named z s.0) (sym c.bytes.ensures.bytes) ∙ s.2 in
    ap Some (c.in_ok-key-in-Some.ensures ∙ ap key_of own)
    ∙ sym (name_held c.args.decls.now c.requires c.args.name.now s.0 (in_at c.args.decls.now c.in-Some.place s.0 s.1) named)

pub returns-in-None : goal.returns-in-None
returns-in-None c =
    sym (name_not_held c.args.decls.now c.args.name.now (ap (is_there c.args.decls.now) (sym c.bytes.ensures.bytes) ∙ c.in-None.ensures.none refl))
