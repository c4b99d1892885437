-- The canonical texts of expressions, statements and bodies are cut into their tokens.
use Rattle.std.proofs.Common.{◌≡◌, ℕ, true, false, not, ◌&&◌, ◌==◌, List, [], ◌∷◌, ◌++◌, length, get_or, map, codes, Some, None, refl, sym, ap, subst, ◌∙◌, arith}
use Rattle.std.proofs.lemmas.Bool.{cond-true, cond-false}
use Rattle.std.specs.List.{AllByRecursion}
use Rattle.vx_names.specs.Bytes.{is_letter, is_word_byte}
use Rattle.vx_names.specs.declared.operator.Operator.{Operator}
use Rattle.vx_names.specs.declared.operator.Operator.TheVariants as o
use Rattle.vx_names.specs.Operator.{spelling, operator_of}
use Rattle.vx_syntax.specs.declared.token.Token.{Token}
use Rattle.vx_syntax.specs.declared.token.Token.TheVariants as k
use Rattle.vx_syntax.specs.declared.token.Keyword.TheVariants as w
use Rattle.vx_syntax.specs.declared.token.Mark.TheVariants as m
use Rattle.vx_syntax.specs.declared.expr.Expr.{Expr, Row_of-Expr, end_of-Expr, more_of-Expr, Row_of-Stmt, end_of-Stmt, more_of-Stmt, Row_of-Expr-New-1-2, end_of-Expr-New-1-2, more_of-Expr-New-1-2, items-the_row-Expr, items-the_row-Stmt, items-the_row-Expr-New-1-2}
use Rattle.vx_syntax.specs.declared.expr.Expr.TheVariants as e
use Rattle.vx_syntax.specs.declared.expr.Stmt.{Stmt}
use Rattle.vx_syntax.specs.declared.expr.Stmt.TheVariants as t
use Rattle.vx_syntax.specs.Expressions.{Bytes, Scope, with_formals, brings}
use Rattle.vx_syntax.specs.Words.{keyword, IsWord}
use Rattle.vx_syntax.specs.Print.{joined, listed, braced, send_text, call_text, infix_text, closure_formals_text, field_text, new_text, expr_text, stmt_text, body_text, expr_text_step, stmt_text_step, body_text_step}
use Rattle.vx_syntax.specs.PrintedTokens.{printed, printed_arguments, printed_more, printed_operands, printed_fields, printed_more_fields, printed_formals, printed_more_names, printed_body, printed_next, printed_stmt, printed_statements, printed_more_statements}
use Rattle.vx_syntax.specs.Written.{count, IsSent, AreNew, IsWritten, AreWritten, AreFieldsWritten, IsBodyWritten, IsStmtWritten, AreStated}
use Rattle.vx_syntax.proofs.Views.{send_is, closure_is, new_is}
use Rattle.vx_syntax.proofs.Meant.{new_words}
use Rattle.vx_syntax.proofs.Layers as l
use Rattle.vx_syntax.proofs.Texts.{text_of_send, text_of_closure, text_of_new, text_of_resend}
use Rattle.vx_reader.specs.Tokens.{front}
use Rattle.vx_reader.proofs.Cuts.{Ends, Any, Cuts, behind, then_any, whatever, by_text, nothing}
use Rattle.vx_reader.proofs.CutSigns.{blank, open_bracket, close_bracket, open_block, close_block, comma, semicolon, ampersand, caret, becomes, dots, operator_cut}
use Rattle.vx_reader.proofs.CutWords.{identifier_cut, word_cut, literal_cut}
use Rattle.vx_reader.proofs.CutStrings.{string_cut}

-- marks and reserved words with their blanks
pub comma_blank : Cuts Any (codes ", ") (λ us. k.Mark m.Comma ∷ us)
comma_blank = then_any comma blank

pub close_blank : Cuts Any (codes ") ") (λ us. k.Mark m.Close ∷ us)
close_blank = then_any close_bracket blank

semicolon_blank : Cuts Any (codes "; ") (λ us. k.Mark m.Semicolon ∷ us)
semicolon_blank = then_any semicolon blank

pub becomes_blank : Cuts Any (codes " := ") (λ us. k.Mark m.Becomes ∷ us)
becomes_blank = then_any blank (then_any becomes blank)

-- what stands between parts ends the part before it
pub joined_ends : (b : ℕ) (bs : Bytes) (texts : List Bytes) (rest : List ℕ) → is_word_byte b ≡ false → Ends rest → Ends (joined (b ∷ bs) (b ∷ bs) texts ++ rest)
joined_ends b bs [] rest is h = h
joined_ends b bs (text ∷ texts) rest is h = is

-- names with commas between them
more_names_cut : (xs : List Bytes) → AllByRecursion IsWord xs → Cuts Ends (joined (codes ", ") (codes ", ") xs) (printed_more_names xs)
more_names_cut [] h = nothing
more_names_cut (x ∷ xs) h =
    then_any comma_blank (behind (word_cut x h.0) (more_names_cut xs h.1) (λ rest ends. joined_ends 44 (32 ∷ []) xs rest refl ends))

pub names_cut : (x : Bytes) (xs : List Bytes) → IsWord x → AllByRecursion IsWord xs → Cuts Ends (listed (x ∷ xs)) (λ us. k.Word x ∷ printed_more_names xs us)
names_cut x xs first others = behind (word_cut x first) (more_names_cut xs others) (λ rest ends. joined_ends 44 (32 ∷ []) xs rest refl ends)

-- what stands between braces
braces_cut : {text : Bytes} {f : List Token → List Token} → Cuts Ends text f → Cuts Ends (codes "{" ++ text ++ codes " }") (λ us. k.Mark m.OpenBlock ∷ f (k.Mark m.CloseBlock ∷ us))
braces_cut inner = whatever (then_any open_block (behind inner (then_any blank close_block) (λ rest any. refl)))

-- a closure by its formals and its body
closure_cut : (formals : List Bytes) (scope : Scope) (body : Bytes) (f : List Token → List Token) → AreNew scope formals → Cuts Ends body f →
    Cuts Ends (closure_formals_text formals ++ body) (λ us. printed_formals formals (f us))
closure_cut [] scope body f new h = h
closure_cut (x ∷ xs) scope body f new h =
    then_any (then_any ampersand (then_any open_bracket (behind (names_cut x xs new.0 (new_words _ xs new.2)) close_blank (λ rest any. refl)))) h

-- an operator begins with no letter, and a word with one
sign_first : (op : Operator) → is_letter (get_or (spelling op) 0 0) ≡ false
sign_first o.Plus = refl
sign_first o.Minus = refl
sign_first o.Star = refl
sign_first o.Slash = refl
sign_first o.Percent = refl
sign_first o.Less = refl
sign_first o.Greater = refl
sign_first o.LessEqual = refl
sign_first o.GreaterEqual = refl
sign_first o.Equal = refl
sign_first o.PlusPlus = refl
sign_first o.EqualEqual = refl

word_first : (x : Bytes) → IsWord x → is_letter (get_or x 0 0) ≡ true
word_first [] h = absurd h.identifier
word_first (b ∷ bs) h = h.identifier.0

called : (x : Bytes) (texts : List Bytes) → IsWord x → send_text x texts ≡ call_text x texts
called x texts h = cond-false _ _ _ (ap (λ letter. not letter && length texts == 2) (word_first x h))

infixed : (op : Operator) (a b : Bytes) → send_text (spelling op) (a ∷ b ∷ []) ≡ infix_text (spelling op) (a ∷ b ∷ [])
infixed op a b = cond-true _ _ _ (ap (λ letter. not letter && true) (sign_first op))

-- an operator between blanks
operator_blanks : (op : Operator) → Cuts Any (codes " " ++ spelling op ++ codes " ") (λ us. k.Operator op ∷ us)
operator_blanks op = then_any blank (behind (operator_cut op) blank (λ rest any. (refl, refl, refl)))

object_isa : Cuts Any (codes "object isa ") (λ us. k.Keyword w.Object ∷ k.Keyword w.Isa ∷ us)
unfolding front keyword
object_isa = record { same = λ rest any. refl }

let_blank : Cuts Any (codes "let ") (λ us. k.Keyword w.Let ∷ us)
unfolding front keyword
let_blank = record { same = λ rest any. refl }

pub var_blank : Cuts Any (codes "var ") (λ us. k.Keyword w.Var ∷ us)
unfolding front keyword
var_blank = record { same = λ rest any. refl }

let_var_blank : Cuts Any (codes "let var ") (λ us. k.Keyword w.Let ∷ k.Keyword w.Var ∷ us)
let_var_blank = then_any let_blank var_blank

resend : Cuts Ends (codes "resend(...)") (λ us. k.Keyword w.Resend ∷ k.Mark m.Open ∷ k.Mark m.Dots ∷ k.Mark m.Close ∷ us)
unfolding keyword
resend =
    whatever (behind (identifier_cut (codes "resend") (k.Keyword w.Resend) (refl, (refl, (refl, (refl, (refl, (refl, tt)))))) refl)
    (then_any open_bracket (then_any dots close_bracket)) (λ rest any. refl))

-- a call, by its arguments
call_cut : (x : Bytes) (texts : List Bytes) (f : List Token → List Token) → IsWord x → Cuts Ends (listed texts) f →
    Cuts Ends (send_text x texts) (λ us. k.Word x ∷ k.Mark m.Open ∷ f (k.Mark m.Close ∷ us))
call_cut x texts f word arguments =
    by_text (called x texts word) (whatever (behind (then_any (behind (word_cut x word) open_bracket (λ rest any. refl)) arguments) close_bracket (λ rest any. refl)))

-- a field of a constructor, by what it begins with
field_cut : (x text : Bytes) (f : List Token → List Token) → IsWord x → Cuts Ends text f → Cuts Ends (field_text (x, text)) (λ us. k.Word x ∷ k.Mark m.Becomes ∷ f us)
field_cut x text f word begun = then_any (behind (word_cut x word) becomes_blank (λ rest any. refl)) begun

mutual
  expr_cut : (a : Expr) (scope : Scope) → IsWritten a scope → Cuts Ends (expr_text a) (printed a)
  expr_cut (e.Int n) scope h = by_text (l.of_int Bytes Bytes Bytes expr_text_step stmt_text_step body_text_step n) (literal_cut n h)
  expr_cut (e.Text bytes) scope h = by_text (l.of_text Bytes Bytes Bytes expr_text_step stmt_text_step body_text_step bytes) (whatever (string_cut bytes h))
  expr_cut (e.Name x) scope h = by_text (l.of_name Bytes Bytes Bytes expr_text_step stmt_text_step body_text_step x) (word_cut x h)
  expr_cut (e.Send' selector shape row) scope h =
      by_text (sym (ap expr_text (send_is selector shape row)) ∙ text_of_send selector (items-the_row-Expr _ row))
      ((elim (operator_of selector.name) as (λ o. IsSent o selector.name (count row) →
      Cuts Ends (send_text selector.name (map expr_text (items-the_row-Expr _ row))) (λ us. elim o [
        | None ↦ k.Word selector.name ∷ k.Mark m.Open ∷ printed_arguments row (k.Mark m.Close ∷ us)
        | Some op ↦ k.Mark m.Open ∷ printed_operands row op (k.Mark m.Close ∷ us)
      ])) [
        | None ↦ λ sent. call_cut selector.name _ (printed_arguments row) sent.0 (arguments_cut row scope h.2)
        | Some op ↦ λ sent. operands_cut row op selector.name scope sent.0 sent.1 h.2
      ]) h.0)
  expr_cut (e.Closure' formals shape row) scope h =
      by_text (sym (ap expr_text (closure_is formals shape row)) ∙ text_of_closure formals (record { 0 = items-the_row-Stmt _ row })
      ∙ ap (λ body. closure_formals_text formals ++ body) (l.of_body Bytes Bytes Bytes expr_text_step stmt_text_step body_text_step (items-the_row-Stmt _ row)))
      (closure_cut formals scope (braced (codes "; ") (map stmt_text (items-the_row-Stmt _ row))) (λ us. k.Mark m.OpenBlock ∷ printed_body row (k.Mark m.CloseBlock ∷ us)) h.0
      (braces_cut (body_cut row (with_formals scope formals) h.2)))
  expr_cut (e.New' x shape row) scope h =
      by_text (sym (ap expr_text (new_is x shape row)) ∙ text_of_new x (items-the_row-Expr-New-1-2 _ row)) (new_cut row x scope h.0 h.1)
  expr_cut e.Resend scope h = by_text text_of_resend resend

  arguments_cut : {n : _} (row : Row_of-Expr n) (scope : Scope) → AreWritten row scope → Cuts Ends (listed (map expr_text (items-the_row-Expr _ row))) (printed_arguments row)
  arguments_cut end_of-Expr scope h = nothing
  arguments_cut (more_of-Expr a rest) scope h =
      behind (expr_cut a scope h.0) (more_cut rest scope h.1) (λ more ends. joined_ends 44 (32 ∷ []) (map expr_text (items-the_row-Expr _ rest)) more refl ends)

  more_cut : {n : _} (row : Row_of-Expr n) (scope : Scope) → AreWritten row scope →
      Cuts Ends (joined (codes ", ") (codes ", ") (map expr_text (items-the_row-Expr _ row))) (printed_more row)
  more_cut end_of-Expr scope h = nothing
  more_cut (more_of-Expr a rest) scope h =
      then_any comma_blank (behind (expr_cut a scope h.0) (more_cut rest scope h.1)
      (λ more ends. joined_ends 44 (32 ∷ []) (map expr_text (items-the_row-Expr _ rest)) more refl ends))

  operands_cut : {n : _} (row : Row_of-Expr n) (op : Operator) (x : Bytes) (scope : Scope) → spelling op ≡ x → count row ≡ 2 → AreWritten row scope →
      Cuts Ends (send_text x (map expr_text (items-the_row-Expr _ row))) (λ us. k.Mark m.Open ∷ printed_operands row op (k.Mark m.Close ∷ us))
  operands_cut (more_of-Expr a (more_of-Expr b end_of-Expr)) op x scope is two h =
      subst (λ y. Cuts Ends (send_text y (expr_text a ∷ expr_text b ∷ [])) (λ us. k.Mark m.Open ∷ printed a (k.Operator op ∷ printed b (k.Mark m.Close ∷ us)))) is
      (by_text (infixed op (expr_text a) (expr_text b))
      (whatever (behind (then_any open_bracket (behind (expr_cut a scope h.0) (behind (then_any (operator_blanks op) (expr_cut b scope h.1.0)) nothing (λ rest ends. ends))
      (λ rest ends. refl))) close_bracket (λ rest any. refl))))
  operands_cut _ op x scope is two h = absurd (omega arith)

  new_cut : {n : _} (row : Row_of-Expr-New-1-2 n) (x : Bytes) (scope : Scope) → IsWord x → AreFieldsWritten row [] scope →
      Cuts Ends (new_text x (map (λ field. field_text (field.0, expr_text field.1)) (items-the_row-Expr-New-1-2 _ row)))
      (λ us. k.Keyword w.Object ∷ k.Keyword w.Isa ∷ k.Word x ∷ printed_fields row us)
  new_cut end_of-Expr-New-1-2 x scope word h = then_any object_isa (word_cut x word)
  new_cut (more_of-Expr-New-1-2 f a rest) x scope word h =
      then_any (behind (then_any object_isa (word_cut x word)) blank (λ more any. refl))
      (braces_cut (then_any blank (behind (field_cut f _ (printed a) h.0 (expr_cut a scope h.3)) (more_fields_cut rest _ scope h.4)
      (λ more ends. joined_ends 44 (32 ∷ []) (map (λ field. field_text (field.0, expr_text field.1)) (items-the_row-Expr-New-1-2 _ rest)) more refl ends))))

  more_fields_cut : {n : _} (row : Row_of-Expr-New-1-2 n) (given : List Bytes) (scope : Scope) → AreFieldsWritten row given scope →
      Cuts Ends (joined (codes ", ") (codes ", ") (map (λ field. field_text (field.0, expr_text field.1)) (items-the_row-Expr-New-1-2 _ row))) (printed_more_fields row)
  more_fields_cut end_of-Expr-New-1-2 given scope h = nothing
  more_fields_cut (more_of-Expr-New-1-2 f a rest) given scope h =
      then_any comma_blank (behind (field_cut f _ (printed a) h.0 (expr_cut a scope h.3)) (more_fields_cut rest _ scope h.4)
      (λ more ends. joined_ends 44 (32 ∷ []) (map (λ field. field_text (field.0, expr_text field.1)) (items-the_row-Expr-New-1-2 _ rest)) more refl ends))

  body_cut : {n : _} (row : Row_of-Stmt n) (scope : Scope) → IsBodyWritten row scope →
      Cuts Ends (joined (codes " ") (codes "; ") (map stmt_text (items-the_row-Stmt _ row))) (printed_body row)
  body_cut end_of-Stmt scope h = nothing
  body_cut (more_of-Stmt a rest) scope h =
      then_any blank (behind (stmt_cut a scope h.0) (next_cut rest (brings scope a) h.2)
      (λ more ends. joined_ends 59 (32 ∷ []) (map stmt_text (items-the_row-Stmt _ rest)) more refl ends))

  next_cut : {n : _} (row : Row_of-Stmt n) (scope : Scope) → IsBodyWritten row scope →
      Cuts Ends (joined (codes "; ") (codes "; ") (map stmt_text (items-the_row-Stmt _ row))) (printed_next row)
  next_cut end_of-Stmt scope h = nothing
  next_cut (more_of-Stmt a rest) scope h =
      then_any semicolon_blank (behind (stmt_cut a scope h.0) (next_cut rest (brings scope a) h.2)
      (λ more ends. joined_ends 59 (32 ∷ []) (map stmt_text (items-the_row-Stmt _ rest)) more refl ends))

  stmt_cut : (a : Stmt) (scope : Scope) → IsStmtWritten a scope → Cuts Ends (stmt_text a) (printed_stmt a)
  stmt_cut (t.Let x a) scope h =
      by_text (l.of_let Bytes Bytes Bytes expr_text_step stmt_text_step body_text_step x a)
      (then_any (behind (then_any let_blank (word_cut x h.0)) becomes_blank (λ rest any. refl)) (expr_cut a scope h.2))
  stmt_cut (t.LetVar x a) scope h =
      by_text (l.of_let_var Bytes Bytes Bytes expr_text_step stmt_text_step body_text_step x a)
      (then_any (behind (then_any let_var_blank (word_cut x h.0)) becomes_blank (λ rest any. refl)) (expr_cut a scope h.2))
  stmt_cut (t.Set x a) scope h =
      by_text (l.of_set Bytes Bytes Bytes expr_text_step stmt_text_step body_text_step x a)
      (then_any (behind (word_cut x h.0) becomes_blank (λ rest any. refl)) (expr_cut a scope h.2))
  stmt_cut (t.Do a) scope h = by_text (l.of_do Bytes Bytes Bytes expr_text_step stmt_text_step body_text_step a) (expr_cut a scope h)
  stmt_cut (t.Back a) scope h =
      by_text (l.of_back Bytes Bytes Bytes expr_text_step stmt_text_step body_text_step a) (then_any caret (then_any blank (expr_cut a scope h)))

-- the statements of a method, as a list
more_statements_cut : (body : List Stmt) (scope : Scope) → AreStated body scope → Cuts Ends (joined (codes "; ") (codes "; ") (map stmt_text body)) (printed_more_statements body)
more_statements_cut [] scope h = nothing
more_statements_cut (a ∷ body) scope h =
    then_any semicolon_blank (behind (stmt_cut a scope h.0) (more_statements_cut body (brings scope a) h.2)
    (λ more ends. joined_ends 59 (32 ∷ []) (map stmt_text body) more refl ends))

statements_cut : (body : List Stmt) (scope : Scope) → AreStated body scope → Cuts Ends (joined (codes " ") (codes "; ") (map stmt_text body)) (printed_statements body)
statements_cut [] scope h = nothing
statements_cut (a ∷ body) scope h =
    then_any blank (behind (stmt_cut a scope h.0) (more_statements_cut body (brings scope a) h.2)
    (λ more ends. joined_ends 59 (32 ∷ []) (map stmt_text body) more refl ends))

pub method_body_cut : (body : List Stmt) (scope : Scope) → AreStated body scope →
    Cuts Ends (body_text (record { 0 = body })) (λ us. k.Mark m.OpenBlock ∷ printed_statements body (k.Mark m.CloseBlock ∷ us))
method_body_cut body scope h =
    by_text (l.of_body Bytes Bytes Bytes expr_text_step stmt_text_step body_text_step body) (braces_cut (statements_cut body scope h))
