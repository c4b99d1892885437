use Rattle.vx_reader.specs.EditText.{edit_text}
use Rattle.vx_reader.proofs.AnyDepth.{read_is_meant, meant_is_writable}
use Rattle.vx_reader.proofs.EditTexts.{text_means}
use Rattle.vx_reader.proofs.laws.writable_edits_have_texts.Goals as goal

pub returns-clause-text : goal.returns-clause-text
returns-clause-text c edit h =
    text_means (record {
      decl_read = c.written_declarations_are_read.ensures.read;
      decl_meant = c.written_declarations_are_read.ensures.meant;
      key_read = c.written_keys_are_read.ensures.read;
      key_meant = c.written_keys_are_read.ensures.meant;
    }) edit.changes h

pub returns-clause-exactly : goal.returns-clause-exactly
returns-clause-exactly c edit = (
  λ h. (edit_text edit.changes, returns-clause-text c edit h),
  λ some. meant_is_writable c.phrases_are_read.ensures c.writable_edits_are_read.ensures.written some.0 edit some.1,
)

pub returns-clause-depth : goal.returns-clause-depth
returns-clause-depth c = read_is_meant
