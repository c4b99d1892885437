use Rattle.vx_program.proofs.Edits.{edit_read, edit_written}
use Rattle.vx_program.proofs.writability.writable_edits_are_read.Goals as goal

pub returns-clause-read : goal.returns-clause-read
returns-clause-read c =
    edit_read c.written_declarations_are_read.ensures.read c.written_declarations_are_read.ensures.meant c.written_keys_are_read.ensures.read
    c.written_keys_are_read.ensures.meant

pub returns-clause-written : goal.returns-clause-written
returns-clause-written c =
    let laws = c.what_is_read_can_be_written.ensures in
    edit_written laws.decl laws.decl_rest laws.key laws.key_rest
