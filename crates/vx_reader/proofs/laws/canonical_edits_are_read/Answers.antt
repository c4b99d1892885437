use Rattle.vx_reader.proofs.EditTexts.{text_read}
use Rattle.vx_reader.proofs.laws.canonical_edits_are_read.Goals as goal

pub returns-clause-reads : goal.returns-clause-reads
returns-clause-reads c edit h low =
    text_read (record {
      decl_read = c.written_declarations_are_read.ensures.read;
      decl_meant = c.written_declarations_are_read.ensures.meant;
      key_read = c.written_keys_are_read.ensures.read;
      key_meant = c.written_keys_are_read.ensures.meant;
    }) c.canonical_tokens_are_shallow.ensures edit.changes h low

pub returns-clause-answered : goal.returns-clause-answered
returns-clause-answered c edit h low short =
    c.one_reading.ensures _ _ _ short (c.every_block_is_read.ensures _ short) (returns-clause-reads c edit h low)
