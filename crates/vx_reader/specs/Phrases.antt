-- The laws of the readers of declarations and keys, in one record for the proofs here: no public contract speaks of it.
use Rattle.std.specs.Prelude.{◌≡◌, ◌+◌, ◌^◌, ◌<◌, ◌≤◌, ◌↔◌, false, List, [], ◌∷◌, Some, None}
use Rattle.vx_names.specs.declared.key.DeclKey.{DeclKey}
use Rattle.vx_syntax.specs.declared.token.Token.{Token}
use Rattle.vx_syntax.specs.declared.token.Token.TheVariants as k
use Rattle.vx_syntax.specs.declared.decl.Decl.{Decl}
use Rattle.vx_syntax.specs.Expressions.{Bytes, is_among}
use Rattle.vx_syntax.specs.Tests.{and_word, or_word}
use Rattle.vx_syntax.specs.Declarations.{IsDecl, IsKey}
use Rattle.vx_phrases.specs.Laws.{IsComplete, IsSound, Ends, IsEnd, Completion}
use Rattle.vx_phrases.specs.declared.decl_state.DeclState.{DeclState}
use Rattle.vx_phrases.specs.declared.key_state.KeyState.{KeyState}
use Rattle.vx_phrases.specs.DeclMachine.{decl_begun, decl_begins, decl_step, decl_finished, names_in}
use Rattle.vx_phrases.specs.KeyMachine.{key_begun, key_step, key_finished}
use Rattle.vx_phrases.specs.DeclRemains.{DeclRemains}
use Rattle.vx_phrases.specs.KeyRemains.{KeyRemains}

pub record Laws : Type 0 where
  pub decl_complete : IsComplete DeclRemains decl_step decl_finished
  pub decl_sound : IsSound DeclRemains decl_step
  pub decl_ends : Ends DeclRemains decl_finished
  pub decl_at_end : IsEnd DeclRemains decl_finished
  pub decl_from : (ts us : List Token) (v : Decl) → (DeclRemains decl_begun ts us v ↔ IsDecl ts us v)
  pub decl_opens : (s : DeclState) (v : Decl) (t : Token) (next : DeclState) → decl_finished s ≡ Some v → decl_begins t ≡ Some next → decl_step s t ≡ None
  pub decl_words : (s : DeclState) (v : Decl) (x : Bytes) → decl_finished s ≡ Some v → is_among (and_word ∷ or_word ∷ []) x ≡ false → decl_step s (k.Word x) ≡ None
  pub decl_finish : (s : DeclState) → names_in s < 2 ^ 64 → Completion (DeclRemains s)
  pub decl_grows : (s next : DeclState) (t : Token) → decl_step s t ≡ Some next → names_in next ≤ names_in s + 1
  pub key_complete : IsComplete KeyRemains key_step key_finished
  pub key_sound : IsSound KeyRemains key_step
  pub key_ends : Ends KeyRemains key_finished
  pub key_at_end : IsEnd KeyRemains key_finished
  pub key_from : (ts us : List Token) (v : DeclKey) → (KeyRemains key_begun ts us v ↔ IsKey ts us v)
  pub key_finish : (s : KeyState) → Completion (KeyRemains s)
  pub key_over : (s : KeyState) (v : DeclKey) (t : Token) → key_finished s ≡ Some v → key_step s t ≡ None
