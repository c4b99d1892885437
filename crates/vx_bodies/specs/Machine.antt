-- The machine that reads a body, token by token: it starts after the `{` that opens it, and is done at the `}` that
-- closes it.
use Rattle.std.specs.Prelude.{◌≡◌, pos, neg_ℤ, ◌+◌, nat_lt, Bool, true, false, if◌then◌else◌, List, [], ◌∷◌, ◌++◌, length, map, Option, Some, None}
use Rattle.vx_names.specs.declared.operator.Operator.{Operator}
use Rattle.vx_names.specs.declared.operator.Operator.TheVariants as o
use Rattle.vx_syntax.specs.declared.token.Token.{Token}
use Rattle.vx_syntax.specs.declared.token.Token.TheVariants as k
use Rattle.vx_syntax.specs.declared.token.Keyword.TheVariants as kw
use Rattle.vx_syntax.specs.declared.token.Mark.TheVariants as mk
use Rattle.vx_syntax.specs.declared.expr.Expr.{Expr}
use Rattle.vx_syntax.specs.declared.expr.Expr.TheVariants as e
use Rattle.vx_syntax.specs.declared.expr.Stmt.{Stmt}
use Rattle.vx_syntax.specs.declared.expr.Stmt.TheVariants as t
use Rattle.vx_syntax.specs.Words.{is_large}
use Rattle.vx_syntax.specs.Expressions as g
use Rattle.vx_syntax.specs.Expressions.{Bytes, Scope, level, is_bound, is_variable, is_among, operation, is_back, brings, with_formals, max_arguments, max_closure_formals, max_field_bytes, field_names}
use Rattle.vx_bodies.specs.declared.state.Left.{Left}
use Rattle.vx_bodies.specs.declared.state.Pending.{Pending}
use Rattle.vx_bodies.specs.declared.state.Bracket.{Bracket}
use Rattle.vx_bodies.specs.declared.state.Bracket.TheVariants.{Paren, Arguments, Fields}
use Rattle.vx_bodies.specs.declared.state.Kind.{Kind}
use Rattle.vx_bodies.specs.declared.state.Kind.TheVariants.{Value, Changed, Plain, Answer}
use Rattle.vx_bodies.specs.declared.state.Level.{Level}
use Rattle.vx_bodies.specs.declared.state.Block.{Block}
use Rattle.vx_bodies.specs.declared.state.Within.{Within}
use Rattle.vx_bodies.specs.declared.state.Part.{Part}
use Rattle.vx_bodies.specs.declared.state.Part.TheVariants as pt
use Rattle.vx_bodies.specs.declared.state.State.{State}
use Rattle.vx_bodies.specs.declared.state.State.TheVariants as st
use Rattle.vx_bodies.specs.declared.state.Next.{Next}
use Rattle.vx_bodies.specs.declared.state.Next.TheVariants.{Stuck, On, Done}

-- a number that an expression can hold
abbrev pub IsSmall : Token → Type 0
IsSmall (k.Number n) = is_large n ≡ false
IsSmall _ = Unit {0}

abbrev pub no_pending : Pending
no_pending = record { comparing = None; adding = None; multiplying = None }

abbrev pub waiting : Operator → Expr → Option Left
waiting op a = Some (record { operand = a; operator = op })

-- what an operand and what waits for it make, at one level
abbrev pub joined : Option Left → Expr → Expr
joined None a = a
joined (Some l) a = operation l.operator l.operand a

-- what an operand ends, where no operator follows
abbrev pub value : Pending → Expr → Expr
value p a = joined p.comparing (joined p.adding (joined p.multiplying a))

-- what is in scope in the bodies outside, and in the closure that stands open in the innermost of them
abbrev pub outer_scope : List Level → Scope
outer_scope [] = []
outer_scope (l ∷ ls) = with_formals (l.declared ++ outer_scope ls) l.formals

abbrev pub block_scope : Block → Scope
block_scope b = b.declared ++ outer_scope b.levels

abbrev pub scope_in : Within → Scope
scope_in w = block_scope w.block

abbrev pub made : Kind → Expr → Stmt
made (Value true x) a = t.LetVar x a
made (Value false x) a = t.Let x a
made (Changed x) a = t.Set x a
made Plain a = t.Do a
made Answer a = t.Back a

-- a call
abbrev pub sent : Bytes → List Expr → Expr
sent x arguments = e.Send (record { name = x; arity = length arguments }) arguments

abbrev pub within : List Bracket → Kind → Block → Within
within bs kind b = record { brackets = bs; kind = kind; block = b }

-- one more bracket is open
abbrev pub bracketed : Bracket → Within → Within
bracketed bracket w = within (bracket ∷ w.brackets) w.kind w.block

-- the end of a body
unfoldable pub closed : List Level → List Stmt → Next
closed [] body = Done (record { 0 = body })
closed (l ∷ ls) body = On (st.Operated l.pending (e.Closure l.formals (record { 0 = body }))
    (within l.brackets l.kind (record { levels = ls; declared = l.declared; statements = l.statements })))

abbrev pub with_statement : Block → Stmt → Block
with_statement b a = record { levels = b.levels; declared = brings b.declared a; statements = b.statements ++ a ∷ [] }

-- the end of a statement
unfoldable pub stated : Stmt → Block → Token → Next
stated a b (k.Mark mk.Semicolon) = On (if is_back a then st.Closing (with_statement b a) else st.Statement (with_statement b a))
stated a b (k.Mark mk.CloseBlock) = closed b.levels (b.statements ++ a ∷ [])
stated a b _ = Stuck

-- the end of an expression
unfoldable pub ended : List Bracket → Kind → Block → Expr → Token → Next
ended (Paren p ∷ bs) kind b v (k.Mark mk.Close) = On (st.Operated p v (within bs kind b))
ended (Arguments p x given ∷ bs) kind b v (k.Mark mk.Close) = On (st.Operated p (sent x (given ++ v ∷ [])) (within bs kind b))
ended (Arguments p x given ∷ bs) kind b v (k.Mark mk.Comma) =
    if nat_lt (length given + 1) max_arguments then On (st.Operand no_pending (within (Arguments p x (given ++ v ∷ []) ∷ bs) kind b)) else Stuck
ended (Fields p x given f ∷ bs) kind b v (k.Mark mk.CloseBlock) = On (st.Operated p (e.New x (given ++ (f, v) ∷ [])) (within bs kind b))
ended (Fields p x given f ∷ bs) kind b v (k.Mark mk.Comma) = On (st.Inside (pt.Field x (given ++ (f, v) ∷ [])) p (within bs kind b))
ended [] kind b v token = stated (made kind v) b token
ended _ _ _ _ _ = Stuck

-- an operator of the level after an operand: what groups to its left is joined, the rest waits
unfoldable pub operated : g.Level → Operator → Pending → Expr → Pending
operated g.multiplying op p a = record { comparing = p.comparing; adding = p.adding; multiplying = waiting op (joined p.multiplying a) }
operated g.adding op p a = record { comparing = p.comparing; adding = waiting op (joined p.adding (joined p.multiplying a)); multiplying = None }
operated g.comparing op p a = record { comparing = waiting op (value p a); adding = None; multiplying = None }

-- after an operand: an operator, or the end of the expression
unfoldable pub after_operand : Pending → Expr → Within → Token → Next
after_operand p a w (k.Operator op) = On (st.Operand (operated (level op) op p a) w)
after_operand p a w token = ended w.brackets w.kind w.block (value p a) token

-- the body of a closure begins
unfoldable pub opened : List Bytes → Pending → Within → Block
opened formals p w = record {
  levels = record { pending = p; brackets = w.brackets; kind = w.kind; declared = w.block.declared; statements = w.block.statements; formals = formals } ∷ w.block.levels;
  declared = [];
  statements = [];
}

-- where an operand is wanted
unfoldable pub operand : Pending → Within → Token → Next
operand p w (k.Number n) = On (st.Operated p (e.Int (pos n)) w)
operand p w (k.Text bytes) = On (st.Operated p (e.Text bytes) w)
operand p w (k.Word x) = On (st.Inside (pt.Called x) p w)
operand p w (k.Operator o.Minus) = On (st.Inside pt.Signed p w)
operand p w (k.Mark mk.Open) = On (st.Operand no_pending (bracketed (Paren p) w))
operand p w (k.Mark mk.OpenBlock) = On (st.Statement (opened [] p w))
operand p w (k.Mark mk.Ampersand) = On (st.Inside pt.Ampersand p w)
operand p w (k.Keyword kw.Object) = On (st.Inside pt.Object p w)
operand p w (k.Keyword kw.Resend) = On (st.Inside pt.Resend p w)
operand p w _ = Stuck

-- after a `-` that is no operator
unfoldable pub signed : Pending → Within → Token → Next
signed p w (k.Number n) = On (st.Operated p (e.Int (neg_ℤ (pos n))) w)
signed p w _ = Stuck

-- after a name, which may be called
unfoldable pub called : Bytes → Pending → Within → Token → Next
called x p w (k.Mark mk.Open) = On (st.Inside (pt.FirstArgument x) p w)
called x p w token = after_operand p (e.Name x) w token

-- after `name (`
unfoldable pub first_argument : Bytes → Pending → Within → Token → Next
first_argument x p w (k.Mark mk.Close) = On (st.Operated p (sent x []) w)
first_argument x p w token = operand no_pending (bracketed (Arguments p x []) w) token

-- a name after formals of a closure
unfoldable pub formal : List Bytes → Bytes → Pending → Within → Next
formal given x p w = if is_bound (with_formals (scope_in w) given) x then Stuck else On (st.Inside (pt.Formed given x) p w)

-- after `&`
unfoldable pub ampersand : Pending → Within → Token → Next
ampersand p w (k.Mark mk.Open) = On (st.Inside pt.FirstFormal p w)
ampersand p w _ = Stuck

-- after `& (`
unfoldable pub first_formal : Pending → Within → Token → Next
first_formal p w (k.Mark mk.Close) = On (st.Inside (pt.Formals []) p w)
first_formal p w (k.Word x) = formal [] x p w
first_formal p w _ = Stuck

-- after `& ( .. ,`
unfoldable pub next_formal : List Bytes → Pending → Within → Token → Next
next_formal given p w (k.Word x) = formal given x p w
next_formal given p w _ = Stuck

-- after `& ( .. name`
unfoldable pub formed : List Bytes → Bytes → Pending → Within → Token → Next
formed given x p w (k.Mark mk.Close) = On (st.Inside (pt.Formals (given ++ x ∷ [])) p w)
formed given x p w (k.Mark mk.Comma) = if nat_lt (length given + 1) max_closure_formals then On (st.Inside (pt.Formal (given ++ x ∷ [])) p w) else Stuck
formed given x p w _ = Stuck

-- after `& ( .. )`
unfoldable pub formals : List Bytes → Pending → Within → Token → Next
formals given p w (k.Mark mk.OpenBlock) = On (st.Statement (opened given p w))
formals given p w _ = Stuck

-- after `object`
unfoldable pub object : Pending → Within → Token → Next
object p w (k.Keyword kw.Isa) = On (st.Inside pt.Isa p w)
object p w _ = Stuck

-- after `object isa`
unfoldable pub isa : Pending → Within → Token → Next
isa p w (k.Word x) = On (st.Inside (pt.Parent x) p w)
isa p w _ = Stuck

-- after `object isa name`, which may be all
unfoldable pub parent : Bytes → Pending → Within → Token → Next
parent x p w (k.Mark mk.OpenBlock) = On (st.Inside (pt.FirstField x) p w)
parent x p w token = after_operand p (e.New x []) w token

-- the name of a field after fields of a constructor
unfoldable pub field : Bytes → List (Bytes × Expr) → Bytes → Pending → Within → Next
field x given f p w =
    if nat_lt max_field_bytes (length f) then Stuck else
    if is_among (field_names given) f then Stuck else On (st.Inside (pt.FieldName x given f) p w)

-- after `object isa name {`
unfoldable pub first_field : Bytes → Pending → Within → Token → Next
first_field x p w (k.Mark mk.CloseBlock) = On (st.Operated p (e.New x []) w)
first_field x p w (k.Word f) = field x [] f p w
first_field x p w _ = Stuck

-- after `object isa name { .. ,`
unfoldable pub next_field : Bytes → List (Bytes × Expr) → Pending → Within → Token → Next
next_field x given p w (k.Word f) = field x given f p w
next_field x given p w _ = Stuck

-- after `object isa name { .. field`
unfoldable pub field_name : Bytes → List (Bytes × Expr) → Bytes → Pending → Within → Token → Next
field_name x given f p w (k.Mark mk.Becomes) = On (st.Operand no_pending (bracketed (Fields p x given f) w))
field_name x given f p w _ = Stuck

-- after `resend`
unfoldable pub resend : Pending → Within → Token → Next
resend p w (k.Mark mk.Open) = On (st.Inside pt.ResendOpen p w)
resend p w _ = Stuck

-- after `resend (`
unfoldable pub resend_open : Pending → Within → Token → Next
resend_open p w (k.Mark mk.Dots) = On (st.Inside pt.ResendDots p w)
resend_open p w _ = Stuck

-- after `resend ( ...`
unfoldable pub resend_dots : Pending → Within → Token → Next
resend_dots p w (k.Mark mk.Close) = On (st.Operated p e.Resend w)
resend_dots p w _ = Stuck

-- where an operand has begun
unfoldable pub inside : Part → Pending → Within → Token → Next
inside pt.Signed p w token = signed p w token
inside (pt.Called x) p w token = called x p w token
inside (pt.FirstArgument x) p w token = first_argument x p w token
inside pt.Ampersand p w token = ampersand p w token
inside pt.FirstFormal p w token = first_formal p w token
inside (pt.Formal given) p w token = next_formal given p w token
inside (pt.Formed given x) p w token = formed given x p w token
inside (pt.Formals given) p w token = formals given p w token
inside pt.Object p w token = object p w token
inside pt.Isa p w token = isa p w token
inside (pt.Parent x) p w token = parent x p w token
inside (pt.FirstField x) p w token = first_field x p w token
inside (pt.Field x given) p w token = next_field x given p w token
inside (pt.FieldName x given f) p w token = field_name x given f p w token
inside pt.Resend p w token = resend p w token
inside pt.ResendOpen p w token = resend_open p w token
inside pt.ResendDots p w token = resend_dots p w token

abbrev pub as_statement : Kind → Block → Within
as_statement kind b = within [] kind b

-- a `;` where no statement has begun
unfoldable pub semicolon : List Stmt → Block → Next
semicolon [] b = On (st.Closing b)
semicolon _ b = Stuck

-- where a statement may begin
unfoldable pub statement : Block → Token → Next
statement b (k.Keyword kw.Let) = On (st.Let b)
statement b (k.Mark mk.Caret) = On (st.Operand no_pending (as_statement Answer b))
statement b (k.Word x) = On (st.Named b x)
statement b (k.Mark mk.CloseBlock) = closed b.levels b.statements
statement b (k.Mark mk.Semicolon) = semicolon b.statements b
statement b token = operand no_pending (as_statement Plain b) token

-- after the first name of a statement
unfoldable pub named : Block → Bytes → Token → Next
named b x (k.Mark mk.Becomes) = if is_variable (block_scope b) x then On (st.Operand no_pending (as_statement (Changed x) b)) else Stuck
named b x token = called x no_pending (as_statement Plain b) token

-- the name of a `let`
unfoldable pub fresh : Block → Bool → Bytes → Next
fresh b var x = if is_bound (block_scope b) x then Stuck else On (st.Bound b var x)

-- after `let`
unfoldable pub after_let : Block → Token → Next
after_let b (k.Keyword kw.Var) = On (st.LetVar b)
after_let b (k.Word x) = fresh b false x
after_let b _ = Stuck

-- after `let var`
unfoldable pub after_var : Block → Token → Next
after_var b (k.Word x) = fresh b true x
after_var b _ = Stuck

-- after `let name` or `let var name`
unfoldable pub bound : Block → Bool → Bytes → Token → Next
bound b var x (k.Mark mk.Becomes) = On (st.Operand no_pending (as_statement (Value var x) b))
bound b var x _ = Stuck

-- where only the end of the body may follow
unfoldable pub closing : Block → Token → Next
closing b (k.Mark mk.CloseBlock) = closed b.levels b.statements
closing b _ = Stuck

-- where the token leads
unfoldable pub step : State → Token → Next
step (st.Operand p w) token = operand p w token
step (st.Inside part p w) token = inside part p w token
step (st.Operated p a w) token = after_operand p a w token
step (st.Statement b) token = statement b token
step (st.Named b x) token = named b x token
step (st.Let b) token = after_let b token
step (st.LetVar b) token = after_var b token
step (st.Bound b var x) token = bound b var x token
step (st.Closing b) token = closing b token

-- a body where these names are in scope
unfoldable pub begun : Scope → State
begun scope = st.Statement (record { levels = []; declared = scope; statements = [] })

-- the names of formals or fields, as those that may not be assigned
abbrev pub constants : List Bytes → Scope
constants xs = map (λ x. (x, false)) xs

-- the fields of the constructors that are open
abbrev pub open_fields : List Bracket → Scope
open_fields [] = []
open_fields (Fields p x given f ∷ bs) = (f, false) ∷ (constants (field_names given) ++ open_fields bs)
open_fields (_ ∷ bs) = open_fields bs

abbrev pub names_outside : List Level → Scope
names_outside [] = []
names_outside (l ∷ ls) = constants l.formals ++ (open_fields l.brackets ++ (l.declared ++ names_outside ls))

abbrev pub names_of_block : Block → Scope
names_of_block b = b.declared ++ names_outside b.levels

abbrev pub names_within : Within → Scope
names_within w = open_fields w.brackets ++ names_of_block w.block

abbrev pub names_of_part : Part → Scope
names_of_part (pt.Formal given) = constants given
names_of_part (pt.Formed given x) = (x, false) ∷ constants given
names_of_part (pt.Formals given) = constants given
names_of_part (pt.Field x given) = constants (field_names given)
names_of_part (pt.FieldName x given f) = (f, false) ∷ constants (field_names given)
names_of_part _ = []

-- the names that a new one may have to differ from: those in scope, and the fields of the constructors that are open
unfoldable pub scope_of : State → Scope
scope_of (st.Operand p w) = names_within w
scope_of (st.Inside part p w) = names_of_part part ++ names_within w
scope_of (st.Operated p a w) = names_within w
scope_of (st.Statement b) = names_of_block b
scope_of (st.Named b x) = names_of_block b
scope_of (st.Let b) = names_of_block b
scope_of (st.LetVar b) = names_of_block b
scope_of (st.Bound b var x) = names_of_block b
scope_of (st.Closing b) = names_of_block b
