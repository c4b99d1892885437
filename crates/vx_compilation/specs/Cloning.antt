-- Which methods have code of their own for classes of one argument: where that binds a send of this argument which is open for all of them.
use Rattle.std.specs.Prelude.{ℕ, suc, Bool, true, false, not, ◌&&◌, List, [], ◌∷◌, ◌++◌, map, length, Option, Some, None, if◌then◌else◌, nat_le}
use Rattle.std.specs.List.{list_all, list_any}
use Rattle.std.specs.Str.{bytes_eq}
use Rattle.vx_names.specs.declared.key.Selector.{Selector}
use Rattle.vx_names.specs.declared.key.MethodKey.{MethodKey}
use Rattle.vx_syntax.specs.declared.expr.Expr as x
use Rattle.vx_syntax.specs.declared.expr.Stmt as t
use Rattle.vx_syntax.specs.Expressions.{Bytes}
use Rattle.vx_syntax.specs.Declarations.{any}
use Rattle.vx_node.specs.declared.node.Info.{Info}
use Rattle.vx_node.specs.declared.node.Info.TheVariants as i
use Rattle.vx_node.specs.declared.answer.Bound.{Bound}
use Rattle.vx_node.specs.declared.answer.Bound.TheVariants as b
use Rattle.vx_model.specs.Kinds.{Source}
use Rattle.vx_compilation.specs.Binding.{Order, is_plain}

-- a send, by its arguments that are names alone
abbrev pub Sending : Type 0
Sending = Selector × List (Option Bytes)

abbrev pub name_alone : x.Expr → Option Bytes
name_alone (x.Name name) = Some name
name_alone other = None

abbrev pub names_alone : {n : _} → x.Row_of-Expr n → List (Option Bytes)
names_alone x.end_of-Expr = []
names_alone (x.more_of-Expr part rest) = name_alone part ∷ names_alone rest

-- the sends of a text, in the order in which they begin
abbrev mutual
  pub sends : x.Expr → List Sending
  sends (x.Int n) = []
  sends (x.Text bytes) = []
  sends (x.Name name) = []
  sends (x.Send' selector shape row) = (selector, names_alone row) ∷ sends_in row
  sends (x.Closure' formals shape row) = sends_in_body row
  sends (x.New' class shape row) = sends_in_fields row
  sends x.Resend = []

  pub sends_in : {n : _} → x.Row_of-Expr n → List Sending
  sends_in x.end_of-Expr = []
  sends_in (x.more_of-Expr part rest) = sends part ++ sends_in rest

  pub sends_in_fields : {n : _} → x.Row_of-Expr-New-1-2 n → List Sending
  sends_in_fields x.end_of-Expr-New-1-2 = []
  sends_in_fields (x.more_of-Expr-New-1-2 name part rest) = sends part ++ sends_in_fields rest

  pub sends_in_body : {n : _} → x.Row_of-Stmt n → List Sending
  sends_in_body x.end_of-Stmt = []
  sends_in_body (x.more_of-Stmt statement rest) = sends_in_statement statement ++ sends_in_body rest

  pub sends_in_statement : t.Stmt → List Sending
  sends_in_statement (t.Let name part) = sends part
  sends_in_statement (t.LetVar name part) = sends part
  sends_in_statement (t.Set name part) = sends part
  sends_in_statement (t.Do part) = sends part
  sends_in_statement (t.Back part) = sends part

abbrev pub sends_of : List t.Stmt → List Sending
sends_of [] = []
sends_of (statement ∷ rest) = sends_in_statement statement ++ sends_of rest

abbrev pub is_name : Bytes → Option Bytes → Bool
is_name name None = false
is_name name (Some own) = bytes_eq own name

-- this info where the name stands, and nothing known of the others
abbrev pub infos_for : Bytes → Info → List (Option Bytes) → List Info
infos_for name info arguments = map (λ argument. if is_name name argument then info else i.Any) arguments

abbrev pub is_open : Bound → Bool
is_open b.Open = true
is_open bound = false

abbrev pub is_one : Bound → Bool
is_one (b.One key kind) = true
is_one bound = false

module _ (order : Order) (bind : Selector → List Info → Option MethodKey → Bound) where
  -- whether a send of the name is open for all values below x, and bound for each class
  abbrev pub is_split : Bytes → Bytes → List Bytes → Sending → Bool
  is_split name x classes sending =
      list_any (is_name name) sending.1 && is_open (bind sending.0 (infos_for name (i.Cone x) sending.1) None)
      && list_all (λ class. is_one (bind sending.0 (infos_for name (i.Exact class) sending.1) None)) classes

  abbrev pub splits : Option Bytes → Bytes → List Sending → Bool
  splits None x sendings = false
  splits (Some name) x sendings =
      not (bytes_eq x any) && is_plain order x && nat_le 2 (length (order.cone x)) && nat_le (length (order.cone x)) 4 &&
      list_any (is_split name x (order.cone x)) sendings

  -- the first position that splits, and its classes
  abbrev pub first_split : ℕ → List (Option Bytes) → List Bytes → List Sending → Option (ℕ × List Bytes)
  first_split position [] xs sendings = None
  first_split position (formal ∷ formals) [] sendings = None
  first_split position (formal ∷ formals) (x ∷ xs) sendings =
      if splits formal x sendings then Some (position, order.cone x) else first_split (suc position) formals xs sendings

  abbrev pub clones : MethodKey → Option Source → Option (ℕ × List Bytes)
  clones key None = None
  clones key (Some own) = first_split 0 own.formals key.specialisers (sends_of own.body.0)
