-- The canonical text of an edit that can be written means that edit, whatever the heights of its declarations.
use Rattle.std.proofs.Common.{◌≡◌, ℕ, ◌≤◌, false, List, [], ◌∷◌, ◌++◌, codes, Ok, refl, sym, ap, subst, ◌∙◌, append_assoc}
use Rattle.std.specs.List.{AllByRecursion}
use Rattle.vx_lists.proofs.Each.{all_joined, all_more}
use Rattle.vx_names.specs.declared.key.DeclKey.{DeclKey}
use Rattle.vx_names.specs.declared.key.DeclKey.TheVariants as y
use Rattle.vx_syntax.specs.declared.token.Token.{Token}
use Rattle.vx_syntax.specs.declared.token.Token.TheVariants as k
use Rattle.vx_syntax.specs.declared.decl.Decl.{Decl}
use Rattle.vx_syntax.specs.declared.decl.Decl.TheVariants as d
use Rattle.vx_syntax.specs.Counts.{height}
use Rattle.vx_syntax.specs.Declarations.{add_word, put_word, drop_word, method_key, IsDecl, IsKey}
use Rattle.vx_syntax.specs.Depth.{first_levels, IsShallow}
use Rattle.vx_syntax.specs.Print.{decl_text}
use Rattle.vx_syntax.specs.PrintedTokens.{printed_decl, printed_key}
use Rattle.vx_syntax.specs.Words.{keyword, IsMeant, AreMeant}
use Rattle.vx_syntax.specs.Written.{IsDeclWritten, IsKeyWritten}
use Rattle.vx_syntax.proofs.Closed.{Closes, shallow_before, word, behind, decl_closes, key_closes}
use Rattle.vx_syntax.proofs.ShallowKeys.{dropped_is_shallow}
use Rattle.vx_program.specs.declared.edit.Change.{Change}
use Rattle.vx_program.specs.declared.edit.Change.TheVariants as c
use Rattle.vx_program.specs.Apply.{IsChangeWritten, IsWritable}
use Rattle.vx_program.specs.Changes.{IsChange, adds, puts, drops, last_decl, last_key, IsChanges, last_change, next_change}
use Rattle.vx_reader.specs.declared.command.Command.TheVariants as command
use Rattle.vx_reader.specs.Tokens.{front, placed_tokens, tokens}
use Rattle.vx_reader.specs.Commands.{IsCommand, edit}
use Rattle.vx_reader.specs.Reads.{is_large_token, AreSmall, Reads}
use Rattle.vx_reader.specs.AnyDepth.{WouldMean}
use Rattle.vx_reader.specs.EditText.{change_text, line_feed, edit_text, change_height}
use Rattle.vx_reader.proofs.CutDecls.{addition_cut}
use Rattle.vx_reader.proofs.CutKeys.{removal_cut}
use Rattle.vx_reader.proofs.Lines.{lines_part}

-- an edit, written out
written_out : edit_text (c.Add (d.Object (codes "b") (codes "a" ∷ [])) ∷ c.Drop (y.Method (method_key (codes "m") (codes "a" ∷ codes "any" ∷ []))) ∷ [])
    ≡ codes "add object b isa a" ++ line_feed ∷ codes "drop method m(@a,@any)"
written_out = refl

-- the tokens of a change, with those after them
abbrev printed_change : Change → List Token → List Token
printed_change (c.Add decl) us = k.Word add_word ∷ printed_decl decl us
printed_change (c.Put decl) us = k.Word put_word ∷ printed_decl decl us
printed_change (c.Drop key) us = k.Word drop_word ∷ printed_key key us

abbrev printed_edit : List Change → List Token
printed_edit [] = []
printed_edit (change ∷ changes) = printed_change change (printed_edit changes)

change_closes : (change : Change) → Closes (printed_change change)
change_closes (c.Add decl) = behind (word add_word) (decl_closes decl)
change_closes (c.Put decl) = behind (word put_word) (decl_closes decl)
change_closes (c.Drop key) = behind (word drop_word) (key_closes key)

-- all tokens but the first
abbrev further : List Token → List Token
further [] = []
further (token ∷ ts) = ts

put_cut : (decl : Decl) → IsDeclWritten decl → tokens (codes "put " ++ decl_text decl) ≡ k.Word put_word ∷ printed_decl decl []
unfolding placed_tokens front keyword
put_cut decl h = ap (λ ts. k.Word put_word ∷ further ts) (addition_cut decl h)

change_cut : (change : Change) → IsChangeWritten change → tokens (change_text change) ≡ printed_change change []
change_cut (c.Add decl) h = addition_cut decl h
change_cut (c.Put decl) h = put_cut decl h
change_cut (c.Drop key) h = removal_cut key h

-- the tokens of the canonical text
edit_cut : (change : Change) (changes : List Change) → IsChangeWritten change → AllByRecursion IsChangeWritten changes →
    tokens (edit_text (change ∷ changes)) ≡ printed_edit (change ∷ changes)
edit_cut change [] h all = change_cut change h
edit_cut change (next ∷ changes) h all =
    lines_part (change_text change) (edit_text (next ∷ changes)) ∙ ap (λ ts. ts ++ tokens (edit_text (next ∷ changes))) (change_cut change h)
    ∙ ap (λ us. printed_change change [] ++ us) (edit_cut next changes all.0 all.1) ∙ sym ((change_closes change).before (printed_edit (next ∷ changes)))

-- numbers
token_small : (token : Token) → IsMeant token → is_large_token token ≡ false
token_small (k.Word x) h = refl
token_small (k.Keyword x) h = refl
token_small (k.Number n) h = h
token_small (k.Text bytes) h = refl
token_small (k.Operator x) h = refl
token_small (k.Mark x) h = refl
token_small k.Bad h = refl

all_small : (ts : List Token) → AreMeant ts → AreSmall ts
all_small ts h = all_more IsMeant (λ token. is_large_token token ≡ false) ts token_small h

-- what holds of the canonical tokens of declarations and keys
pub record Canonical : Type 0 where
  pub decl_read : (decl : Decl) (us : List Token) → IsDeclWritten decl → IsDecl (printed_decl decl us) us decl
  pub decl_meant : (decl : Decl) (us : List Token) → IsDeclWritten decl → AreMeant us → AreMeant (printed_decl decl us)
  pub key_read : (key : DeclKey) (us : List Token) → IsKeyWritten key → IsKey (printed_key key us) us key
  pub key_meant : (key : DeclKey) (us : List Token) → IsKeyWritten key → AreMeant us → AreMeant (printed_key key us)

module _ (laws : Canonical) where
  change_read : (before : List Change) (change : Change) (us : List Token) → IsChangeWritten change →
      IsChange before (printed_change change us) us (before ++ change ∷ [])
  change_read before (c.Add decl) us h = adds (last_decl (laws.decl_read decl us h))
  change_read before (c.Put decl) us h = puts (last_decl (laws.decl_read decl us h))
  change_read before (c.Drop key) us h = drops (last_key (laws.key_read key us h))

  changes_read : (before : List Change) (change : Change) (changes : List Change) → IsChangeWritten change → AllByRecursion IsChangeWritten changes →
      IsChanges before (printed_edit (change ∷ changes)) [] (before ++ change ∷ changes)
  changes_read before change [] h all = last_change (change_read before change [] h)
  changes_read before change (next ∷ changes) h all =
      next_change (change_read before change (printed_edit (next ∷ changes)) h)
      (subst (λ l. IsChanges (before ++ change ∷ []) (printed_edit (next ∷ changes)) [] l) (append_assoc before (change ∷ []) (next ∷ changes))
      (changes_read (before ++ change ∷ []) next changes all.0 all.1))

  change_small : (change : Change) → IsChangeWritten change → AreSmall (printed_change change [])
  change_small (c.Add decl) h = (refl, all_small (printed_decl decl []) (laws.decl_meant decl [] h tt))
  change_small (c.Put decl) h = (refl, all_small (printed_decl decl []) (laws.decl_meant decl [] h tt))
  change_small (c.Drop key) h = (refl, all_small (printed_key key []) (laws.key_meant key [] h tt))

  edit_small : (changes : List Change) → AllByRecursion IsChangeWritten changes → AreSmall (printed_edit changes)
  edit_small [] all = tt
  edit_small (change ∷ changes) all =
      subst AreSmall (sym ((change_closes change).before (printed_edit changes)))
      (all_joined (λ token. is_large_token token ≡ false) (printed_change change []) (printed_edit changes) (change_small change all.0)
      (edit_small changes all.1))

  pub text_means : (changes : List Change) → IsWritable changes → WouldMean (edit_text changes) (command.Edit (record { changes = changes }))
  text_means [] h = absurd h
  text_means (change ∷ changes) h = record {
    command = subst (λ ts. IsCommand ts (command.Edit (record { changes = change ∷ changes }))) (sym (edit_cut change changes h.0 h.1))
        (edit (changes_read [] change changes h.0 h.1));
    small = subst AreSmall (sym (edit_cut change changes h.0 h.1)) (edit_small (change ∷ changes) h);
  }

  module _ (shallow : (decl : Decl) → height decl ≤ 64 → IsShallow first_levels (k.Word add_word ∷ printed_decl decl [])) where
    -- a change begins at the block itself, whose count begins anew there
    change_shallow : (change : Change) (n : ℕ) → change_height change ≤ 64 → IsShallow (n ∷ []) (printed_change change [])
    change_shallow (c.Add decl) n low = shallow decl low
    change_shallow (c.Put decl) n low = shallow decl low
    change_shallow (c.Drop key) n low = dropped_is_shallow key

    edit_shallow : (changes : List Change) (n : ℕ) → AllByRecursion (λ change. change_height change ≤ 64) changes → IsShallow (n ∷ []) (printed_edit changes)
    edit_shallow [] n low = tt
    edit_shallow (change ∷ changes) n low =
        shallow_before (change_closes change) n [] (printed_edit changes) (change_shallow change n low.0) (λ i. edit_shallow changes i low.1)

    pub text_read : (changes : List Change) → IsWritable changes → AllByRecursion (λ change. change_height change ≤ 64) changes →
        Reads (edit_text changes) (Ok (command.Edit (record { changes = changes })))
    text_read [] h low = absurd h
    text_read (change ∷ changes) h low =
        let means = text_means (change ∷ changes) h in
        record {
          command = means.command;
          shallow = subst (IsShallow first_levels) (sym (edit_cut change changes h.0 h.1)) (edit_shallow (change ∷ changes) 0 low);
          small = means.small;
        }
