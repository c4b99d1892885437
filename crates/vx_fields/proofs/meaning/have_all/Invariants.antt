use Rattle.std.proofs.Common.{◌≡◌, drop}
use Rattle.std.specs.List.{list_all}
use Rattle.vx_program.specs.Program.{is_name_of}
use Rattle.vx_fields.proofs.meaning.have_all.Given as goal

abbrev pub invariant-loop-key : goal.invariant-loop-key
invariant-loop-key l =
    list_all (λ key. is_name_of l.names key.specialiser) l.keys ≡ list_all (λ key. is_name_of l.names key.specialiser) (drop l.key-index l.keys)
