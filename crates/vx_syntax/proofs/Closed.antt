-- The canonical tokens of a tree stand before those that follow, and close each bracket that they open.
use Rattle.std.proofs.Common.{◌≡◌, ℕ, ℤ, suc, pos, negsuc, Bool, true, false, if◌then◌else◌, List, [], ◌∷◌, ◌++◌, Option, Some, None, refl, sym, ap, subst, ◌∙◌, append_assoc}
use Rattle.std.specs.Str.{bytes_eq}
use Rattle.vx_names.specs.declared.key.FieldKey.{FieldKey}
use Rattle.vx_names.specs.declared.key.DeclKey.{DeclKey}
use Rattle.vx_names.specs.declared.key.DeclKey.TheVariants as y
use Rattle.vx_names.specs.declared.operator.Operator.{Operator}
use Rattle.vx_names.specs.Operator.{operator_of}
use Rattle.vx_syntax.specs.declared.token.Token.{Token}
use Rattle.vx_syntax.specs.declared.token.Token.TheVariants as k
use Rattle.vx_syntax.specs.declared.token.Keyword.{Keyword}
use Rattle.vx_syntax.specs.declared.token.Keyword.TheVariants as w
use Rattle.vx_syntax.specs.declared.token.Mark.TheVariants as m
use Rattle.vx_syntax.specs.declared.expr.Expr.{Expr, Row_of-Expr, end_of-Expr, more_of-Expr, Row_of-Stmt, end_of-Stmt, more_of-Stmt, Row_of-Expr-New-1-2, end_of-Expr-New-1-2, more_of-Expr-New-1-2}
use Rattle.vx_syntax.specs.declared.expr.Expr.TheVariants as e
use Rattle.vx_syntax.specs.declared.expr.Stmt.{Stmt}
use Rattle.vx_syntax.specs.declared.expr.Stmt.TheVariants as t
use Rattle.vx_syntax.specs.declared.test.Test.{Test, end_of-Test, more_of-Test}
use Rattle.vx_syntax.specs.declared.test.Test.TheVariants as q
use Rattle.vx_syntax.specs.declared.decl.Start.{Start}
use Rattle.vx_syntax.specs.declared.decl.Start.TheVariants as s
use Rattle.vx_syntax.specs.declared.decl.Decl.{Decl}
use Rattle.vx_syntax.specs.declared.decl.Decl.TheVariants as d
use Rattle.vx_syntax.specs.Expressions.{Bytes, is_among}
use Rattle.vx_syntax.specs.Tests.{joining_words, and_word, or_word, not_word}
use Rattle.vx_syntax.specs.Declarations.{any, true_word, false_word}
use Rattle.vx_syntax.specs.Depth.{anew_outside, changing_words, word_counted, keyword_counted, counted, levels_after, IsShallow}
use Rattle.vx_syntax.specs.PrintedTokens.{printed_number, printed_more_names, printed_names, printed_formals, printed, printed_arguments, printed_more, printed_operands, printed_fields, printed_more_fields, printed_body, printed_next, printed_stmt, compares_by, printed_test, printed_more_statements, printed_statements, printed_parents, printed_start, message, printed_formal, printed_more_formals, printed_method_formals, printed_field, printed_decl, printed_more_specialisers, printed_specialisers, printed_key}

-- f puts tokens of its own before others, and behind them the same levels are open, the innermost with any count.
pub record Closes (f : List Token → List Token) : Type 0 where
  pub before : (us : List Token) → f us ≡ f [] ++ us
  pub level : (n : ℕ) (ls : List ℕ) → (i : ℕ) × (levels_after (n ∷ ls) (f []) ≡ i ∷ ls)

levels_both : (ls : List ℕ) (ts us : List Token) → levels_after ls (ts ++ us) ≡ levels_after (levels_after ls ts) us
levels_both ls [] us = refl
levels_both ls (token ∷ ts) us = levels_both (counted ls token) ts us

both_shallow : (ls : List ℕ) (ts us : List Token) → IsShallow ls ts → IsShallow (levels_after ls ts) us → IsShallow ls (ts ++ us)
both_shallow ls [] us h more = more
both_shallow ls (token ∷ ts) us h more = (h.0, both_shallow (counted ls token) ts us h.1 more)

-- where they lie nowhere too deep by themselves, and what follows does so whatever the count, all of it does
pub shallow_before : {f : List Token → List Token} → Closes f → (n : ℕ) (ls : List ℕ) (us : List Token) → IsShallow (n ∷ ls) (f []) →
    ((i : ℕ) → IsShallow (i ∷ ls) us) → IsShallow (n ∷ ls) (f us)
shallow_before {f} x n ls us h more =
    let after = x.level n ls in
    subst (IsShallow (n ∷ ls)) (sym (x.before us)) (both_shallow (n ∷ ls) (f []) us h (subst (λ l. IsShallow l us) (sym after.1) (more after.0)))

nothing : Closes (λ us. us)
nothing = record { before = λ us. refl; level = λ n ls. (n, refl) }

-- one behind the other
pub behind : {f g : List Token → List Token} → Closes f → Closes g → Closes (λ us. f (g us))
behind {f} {g} x y = record {
  before = λ us. x.before (g us) ∙ ap (λ ts. f [] ++ ts) (y.before us) ∙ sym (append_assoc (f []) (g []) us) ∙ ap (λ ts. ts ++ us) (sym (x.before (g [])));
  level = λ n ls.
      let first = x.level n ls in
      let last = y.level first.0 ls in (
        last.0,
        ap (levels_after (n ∷ ls)) (x.before (g [])) ∙ levels_both (n ∷ ls) (f []) (g []) ∙ ap (λ l. levels_after l (g [])) first.1 ∙ last.1,
      );
}

-- a token that opens and closes nothing
one : (token : Token) → ((n : ℕ) (ls : List ℕ) → (i : ℕ) × (counted (n ∷ ls) token ≡ i ∷ ls)) → Closes (λ us. token ∷ us)
one token stays = record { before = λ us. refl; level = stays }

outside_stays : (n : ℕ) (ls : List ℕ) → (i : ℕ) × (anew_outside (n ∷ ls) ≡ i ∷ ls)
outside_stays n [] = (0, refl)
outside_stays n (o ∷ ls) = (n, refl)

word_stays : (joins changes : Bool) (n : ℕ) (ls : List ℕ) → (i : ℕ) × (word_counted (n ∷ ls) joins changes ≡ i ∷ ls)
word_stays true changes n ls = (suc n, refl)
word_stays false true n ls = outside_stays n ls
word_stays false false n ls = (n, refl)

keyword_stays : (x : Keyword) (n : ℕ) (ls : List ℕ) → (i : ℕ) × (keyword_counted (n ∷ ls) x ≡ i ∷ ls)
keyword_stays w.Object n ls = outside_stays n ls
keyword_stays w.Predicate n ls = outside_stays n ls
keyword_stays w.Method n ls = outside_stays n ls
keyword_stays w.Field n ls = outside_stays n ls
keyword_stays w.Isa n ls = (n, refl)
keyword_stays w.When n ls = (n, refl)
keyword_stays w.Let n ls = (n, refl)
keyword_stays w.Var n ls = (n, refl)
keyword_stays w.Resend n ls = (n, refl)

pub word : (x : Bytes) → Closes (λ us. k.Word x ∷ us)
word x = one (k.Word x) (λ n ls. word_stays (is_among joining_words x) (is_among changing_words x) n ls)

keyword : (x : Keyword) → Closes (λ us. k.Keyword x ∷ us)
keyword x = one (k.Keyword x) (keyword_stays x)

operator : (op : Operator) → Closes (λ us. k.Operator op ∷ us)
operator op = one (k.Operator op) (λ n ls. (suc n, refl))

text : (bytes : Bytes) → Closes (λ us. k.Text bytes ∷ us)
text bytes = one (k.Text bytes) (λ n ls. (n, refl))

plain_number : (n : ℕ) → Closes (λ us. k.Number n ∷ us)
plain_number n = one (k.Number n) (λ i ls. (i, refl))

comma : Closes (λ us. k.Mark m.Comma ∷ us)
comma = one (k.Mark m.Comma) (λ n ls. (0, refl))

semicolon : Closes (λ us. k.Mark m.Semicolon ∷ us)
semicolon = one (k.Mark m.Semicolon) (λ n ls. (0, refl))

at_sign : Closes (λ us. k.Mark m.At ∷ us)
at_sign = one (k.Mark m.At) (λ n ls. (n, refl))

ampersand : Closes (λ us. k.Mark m.Ampersand ∷ us)
ampersand = one (k.Mark m.Ampersand) (λ n ls. (n, refl))

caret : Closes (λ us. k.Mark m.Caret ∷ us)
caret = one (k.Mark m.Caret) (λ n ls. (n, refl))

becomes : Closes (λ us. k.Mark m.Becomes ∷ us)
becomes = one (k.Mark m.Becomes) (λ n ls. (n, refl))

dots : Closes (λ us. k.Mark m.Dots ∷ us)
dots = one (k.Mark m.Dots) (λ n ls. (n, refl))

-- tokens between an opening and a closing one
between : {f : List Token → List Token} (open_token close_token : Token) → ((ls : List ℕ) → counted ls open_token ≡ 0 ∷ ls) →
    ((i n : ℕ) (ls : List ℕ) → counted (i ∷ n ∷ ls) close_token ≡ n ∷ ls) → Closes f → Closes (λ us. open_token ∷ f (close_token ∷ us))
between {f} open_token close_token opens closes x = record {
  before = λ us.
      ap (λ ts. open_token ∷ ts) (x.before (close_token ∷ us) ∙ sym (append_assoc (f []) (close_token ∷ []) us)
      ∙ ap (λ ts. ts ++ us) (sym (x.before (close_token ∷ []))));
  level = λ n ls.
      let inside = x.level 0 (n ∷ ls) in (
        n,
        ap (λ l. levels_after l (f (close_token ∷ []))) (opens (n ∷ ls)) ∙ ap (levels_after (0 ∷ n ∷ ls)) (x.before (close_token ∷ []))
            ∙ levels_both (0 ∷ n ∷ ls) (f []) (close_token ∷ []) ∙ ap (λ l. levels_after l (close_token ∷ [])) inside.1 ∙ closes inside.0 n ls,
      );
}

brackets : {f : List Token → List Token} → Closes f → Closes (λ us. k.Mark m.Open ∷ f (k.Mark m.Close ∷ us))
brackets x = between (k.Mark m.Open) (k.Mark m.Close) (λ ls. refl) (λ i n ls. refl) x

block : {f : List Token → List Token} → Closes f → Closes (λ us. k.Mark m.OpenBlock ∷ f (k.Mark m.CloseBlock ∷ us))
block x = between (k.Mark m.OpenBlock) (k.Mark m.CloseBlock) (λ ls. refl) (λ i n ls. refl) x

number : (i : ℤ) → Closes (printed_number i)
number (pos n) = plain_number n
number (negsuc n) = behind (operator _) (plain_number (suc n))

more_names : (xs : List Bytes) → Closes (printed_more_names xs)
more_names [] = nothing
more_names (x ∷ xs) = behind comma (behind (word x) (more_names xs))

names : (xs : List Bytes) → Closes (printed_names xs)
names [] = nothing
names (x ∷ xs) = behind (word x) (more_names xs)

formals : (xs : List Bytes) → Closes (printed_formals xs)
formals [] = nothing
formals (x ∷ xs) = behind ampersand (brackets (behind (word x) (more_names xs)))

-- a send, by the operator that its name is
send : (o : Option Operator) (x : Bytes) (f : List Token → List Token) (g : Operator → List Token → List Token) → Closes f →
    ((op : Operator) → Closes (g op)) →
    Closes (λ us. elim o [ None ↦ k.Word x ∷ k.Mark m.Open ∷ f (k.Mark m.Close ∷ us) | Some op ↦ k.Mark m.Open ∷ g op (k.Mark m.Close ∷ us) ])
send None x f g called infixed = behind (word x) (brackets called)
send (Some op) x f g called infixed = brackets (infixed op)

mutual
  expr : (a : Expr) → Closes (printed a)
  expr (e.Int n) = number n
  expr (e.Text bytes) = text bytes
  expr (e.Name x) = word x
  expr (e.Send' selector shape row) =
      send (operator_of selector.name) selector.name (printed_arguments row) (printed_operands row) (arguments row) (λ op. operands row op)
  expr (e.Closure' xs shape row) = behind (formals xs) (block (body row))
  expr (e.New' x shape row) = behind (keyword w.Object) (behind (keyword w.Isa) (behind (word x) (fields row)))
  expr e.Resend = behind (keyword w.Resend) (brackets dots)

  arguments : {n : _} (row : Row_of-Expr n) → Closes (printed_arguments row)
  arguments end_of-Expr = nothing
  arguments (more_of-Expr a rest) = behind (expr a) (more rest)

  more : {n : _} (row : Row_of-Expr n) → Closes (printed_more row)
  more end_of-Expr = nothing
  more (more_of-Expr a rest) = behind comma (behind (expr a) (more rest))

  operands : {n : _} (row : Row_of-Expr n) (op : Operator) → Closes (printed_operands row op)
  operands end_of-Expr op = nothing
  operands (more_of-Expr a rest) op = behind (expr a) (behind (operator op) (arguments rest))

  fields : {n : _} (row : Row_of-Expr-New-1-2 n) → Closes (printed_fields row)
  fields end_of-Expr-New-1-2 = nothing
  fields (more_of-Expr-New-1-2 f a rest) = block (behind (word f) (behind becomes (behind (expr a) (more_fields rest))))

  more_fields : {n : _} (row : Row_of-Expr-New-1-2 n) → Closes (printed_more_fields row)
  more_fields end_of-Expr-New-1-2 = nothing
  more_fields (more_of-Expr-New-1-2 f a rest) = behind comma (behind (word f) (behind becomes (behind (expr a) (more_fields rest))))

  body : {n : _} (row : Row_of-Stmt n) → Closes (printed_body row)
  body end_of-Stmt = nothing
  body (more_of-Stmt a rest) = behind (stmt a) (next rest)

  next : {n : _} (row : Row_of-Stmt n) → Closes (printed_next row)
  next end_of-Stmt = nothing
  next (more_of-Stmt a rest) = behind semicolon (behind (stmt a) (next rest))

  stmt : (a : Stmt) → Closes (printed_stmt a)
  stmt (t.Let x a) = behind (keyword w.Let) (behind (word x) (behind becomes (expr a)))
  stmt (t.LetVar x a) = behind (keyword w.Let) (behind (keyword w.Var) (behind (word x) (behind becomes (expr a))))
  stmt (t.Set x a) = behind (word x) (behind becomes (expr a))
  stmt (t.Do a) = expr a
  stmt (t.Back a) = behind caret (expr a)

test : (part : Bool) (a : Test) → Closes (printed_test part a)
test part (q.Compare field how n) = behind (word field) (behind (operator (compares_by how)) (number n))
test part (q.And' s (more_of-Test a end_of-Test) s' (more_of-Test b end_of-Test)) = brackets (behind (test true a) (behind (word and_word) (test true b)))
test part (q.Or' s (more_of-Test a end_of-Test) s' (more_of-Test b end_of-Test)) = brackets (behind (test true a) (behind (word or_word) (test true b)))
test false (q.Not' s (more_of-Test a end_of-Test)) = behind (word not_word) (test false a)
test true (q.Not' s (more_of-Test a end_of-Test)) = brackets (behind (word not_word) (test false a))

more_statements : (all : List Stmt) → Closes (printed_more_statements all)
more_statements [] = nothing
more_statements (a ∷ rest) = behind semicolon (behind (stmt a) (more_statements rest))

statements : (all : List Stmt) → Closes (printed_statements all)
statements [] = nothing
statements (a ∷ rest) = behind (stmt a) (more_statements rest)

one_parent : (plain : Bool) (x : Bytes) → Closes (λ us. if plain then us else k.Keyword w.Isa ∷ k.Word x ∷ us)
one_parent true x = nothing
one_parent false x = behind (keyword w.Isa) (word x)

parents : (xs : List Bytes) → Closes (printed_parents xs)
parents [] = nothing
parents (x ∷ []) = one_parent (bytes_eq x any) x
parents (x ∷ y ∷ xs) = behind (keyword w.Isa) (names (x ∷ y ∷ xs))

start : (x : Start) → Closes (printed_start x)
start s.Nil = nothing
start s.True = behind becomes (word true_word)
start s.False = behind becomes (word false_word)
start (s.Int n) = behind becomes (number n)
start (s.Text bytes) = behind becomes (text bytes)

-- the name of a message
named : (o : Option Operator) (x : Bytes) → Closes (λ us. message o x ∷ us)
named None x = word x
named (Some op) x = operator op

specialiser : (is_any : Bool) (x : Bytes) → Closes (λ us. if is_any then us else k.Mark m.At ∷ k.Word x ∷ us)
specialiser true x = nothing
specialiser false x = behind at_sign (word x)

formal : (x : Option Bytes) (of : Bytes) → Closes (printed_formal x of)
formal (Some x) of = behind (word x) (specialiser (bytes_eq of any) of)
formal None of = behind at_sign (word of)

more_formals : (xs : List (Option Bytes)) (specialisers : List Bytes) → Closes (printed_more_formals xs specialisers)
more_formals [] specialisers = nothing
more_formals (x ∷ xs) [] = nothing
more_formals (x ∷ xs) (of ∷ specialisers) = behind comma (behind (formal x of) (more_formals xs specialisers))

method_formals : (xs : List (Option Bytes)) (specialisers : List Bytes) → Closes (printed_method_formals xs specialisers)
method_formals [] specialisers = nothing
method_formals (x ∷ xs) [] = nothing
method_formals (x ∷ xs) (of ∷ specialisers) = behind (formal x of) (more_formals xs specialisers)

field : (key : FieldKey) (x : Start) → Closes (printed_field key x)
field key x = behind (keyword w.Field) (behind (word key.name) (behind (brackets (behind at_sign (word key.specialiser))) (start x)))

pub decl_closes : (decl : Decl) → Closes (printed_decl decl)
decl_closes (d.Object x xs) = behind (keyword w.Object) (behind (word x) (parents xs))
decl_closes (d.Predicate x xs condition) =
    behind (keyword w.Predicate) (behind (word x) (behind (keyword w.Isa) (behind (names xs) (behind (keyword w.When) (test false condition)))))
decl_closes (d.Field key x false) = field key x
decl_closes (d.Field key x true) = behind (keyword w.Var) (field key x)
decl_closes (d.Method key xs body) =
    behind (keyword w.Method) (behind (named (operator_of key.selector.name) key.selector.name)
    (behind (brackets (method_formals xs key.specialisers)) (block (statements body.0))))

more_specialisers : (xs : List Bytes) → Closes (printed_more_specialisers xs)
more_specialisers [] = nothing
more_specialisers (x ∷ xs) = behind comma (behind at_sign (behind (word x) (more_specialisers xs)))

specialisers : (xs : List Bytes) → Closes (printed_specialisers xs)
specialisers [] = nothing
specialisers (x ∷ xs) = behind at_sign (behind (word x) (more_specialisers xs))

pub key_closes : (key : DeclKey) → Closes (printed_key key)
key_closes (y.Object x) = behind (keyword w.Object) (word x)
key_closes (y.Predicate x) = behind (keyword w.Predicate) (word x)
key_closes (y.Field key) = field key s.Nil
key_closes (y.Method key) =
    behind (keyword w.Method) (behind (named (operator_of key.selector.name) key.selector.name) (brackets (specialisers key.specialisers)))
