use Rattle.std.proofs.Common.{[]}
use Rattle.vx_reader.proofs.Canonical.{addition_read}
use Rattle.vx_reader.proofs.laws.canonical_additions_are_read.Goals as goal

pub returns : goal.returns
returns c decl written low =
    addition_read decl written (c.written_declarations_are_read.ensures.read decl [] written) (c.written_declarations_are_read.ensures.meant decl [] written tt)
    (c.canonical_tokens_are_shallow.ensures decl low)
