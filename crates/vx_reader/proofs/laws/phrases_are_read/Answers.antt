use Rattle.vx_reader.proofs.laws.phrases_are_read.Goals as goal

pub returns : goal.returns
returns c = record {
  decl_complete = c.decl_steps_follow_the_grammar.ensures.complete;
  decl_sound = c.decl_steps_follow_the_grammar.ensures.sound;
  decl_ends = c.decl_steps_follow_the_grammar.ensures.ends;
  decl_at_end = c.decl_steps_follow_the_grammar.ensures.at_end;
  decl_from = c.decl_steps_follow_the_grammar.ensures.begins;
  decl_opens = c.decls_end_before_others.ensures.decls;
  decl_words = c.decls_end_before_others.ensures.words;
  decl_finish = c.decls_can_be_finished.ensures.finish;
  decl_grows = c.decls_can_be_finished.ensures.grows;
  key_complete = c.key_steps_follow_the_grammar.ensures.complete;
  key_sound = c.key_steps_follow_the_grammar.ensures.sound;
  key_ends = c.key_steps_follow_the_grammar.ensures.ends;
  key_at_end = c.key_steps_follow_the_grammar.ensures.at_end;
  key_from = c.key_steps_follow_the_grammar.ensures.begins;
  key_finish = c.key_steps_follow_the_grammar.ensures.finish;
  key_over = c.key_steps_follow_the_grammar.ensures.over;
}
