-- What remains of where a token leads remains of the state before, with the token in front.
use Rattle.std.proofs.Common.{◌≡◌, ◌≤◌, ◌+◌, Bool, true, false, List, [], ◌∷◌, ◌++◌, length, refl, sym, subst, if◌then◌else◌, ltb-true, ltb-false, nat_lt}
use Rattle.vx_names.specs.declared.operator.Operator.{Operator}
use Rattle.vx_names.specs.declared.operator.Operator.TheVariants as o
use Rattle.vx_syntax.specs.declared.token.Token.{Token}
use Rattle.vx_syntax.specs.declared.token.Token.TheVariants as k
use Rattle.vx_syntax.specs.declared.token.Keyword.TheVariants as kw
use Rattle.vx_syntax.specs.declared.token.Mark.TheVariants as mk
use Rattle.vx_syntax.specs.declared.expr.Expr.{Expr}
use Rattle.vx_syntax.specs.declared.expr.Expr.TheVariants as e
use Rattle.vx_syntax.specs.declared.expr.Stmt.{Stmt}
use Rattle.vx_syntax.specs.Expressions as g
use Rattle.vx_syntax.specs.Expressions.{Bytes, level, is_bound, is_variable, is_among, is_back, with_formals, max_arguments, max_closure_formals, max_field_bytes, field_names, IsExpr, IsArguments, IsFields, IsMoreFormals, IsBody, IsStatements, IsStmt}
use Rattle.vx_bodies.specs.declared.state.Pending.{Pending}
use Rattle.vx_bodies.specs.declared.state.Bracket.{Bracket}
use Rattle.vx_bodies.specs.declared.state.Bracket.TheVariants.{Paren, Arguments, Fields}
use Rattle.vx_bodies.specs.declared.state.Kind.{Kind}
use Rattle.vx_bodies.specs.declared.state.Kind.TheVariants.{Value, Changed, Plain, Answer}
use Rattle.vx_bodies.specs.declared.state.Level.{Level}
use Rattle.vx_bodies.specs.declared.state.Block.{Block}
use Rattle.vx_bodies.specs.declared.state.Within.{Within}
use Rattle.vx_bodies.specs.declared.state.Part.{Part}
use Rattle.vx_bodies.specs.declared.state.Part.TheVariants as pt
use Rattle.vx_bodies.specs.declared.state.State.{State}
use Rattle.vx_bodies.specs.declared.state.State.TheVariants as st
use Rattle.vx_bodies.specs.declared.state.Next.TheVariants.{Stuck, On}
use Rattle.vx_bodies.specs.Machine as m
use Rattle.vx_bodies.specs.Machine.{no_pending, block_scope, scope_in, made, sent, within, bracketed, with_statement, as_statement, value}
use Rattle.vx_bodies.specs.Remains as r
use Rattle.vx_bodies.specs.Remains.{AfterOperand, AfterExpr, AfterStatement, AfterBody, AfterPart, WantsOperand, WantsExpr, WantsBody, WantsStatement, AfterFirst, Remains, Moves}
use Rattle.vx_bodies.proofs.Complete.{brings_scope}

pub expr_of : {w : Within} {ts us : List Token} {c : List Stmt} → WantsOperand no_pending w ts us c → WantsExpr w ts us c
expr_of (vs, v, prim, r.after products sums compares rest) = (_, _, g.expr (g.sum_of (g.product_of prim products) sums) compares, rest)

body_end : (ls : List Level) (body : List Stmt) (ts us : List Token) (c : List Stmt) → Moves (m.closed ls body) ts us c → AfterBody ls body ts us c
unfolding m.closed
body_end [] body ts us c (same, means) = subst (λ d. AfterBody [] body ts us d) means (subst (λ vs. AfterBody [] body ts vs body) same r.whole)
body_end (l ∷ ls) body ts us c (r.after_operand h) = r.closure h

no_empty : (l : List Stmt) (a : Stmt) → l ++ a ∷ [] ≡ [] → ⊥
no_empty [] a e = cc
no_empty (x ∷ l) a e = cc

after_semicolon : (a : Stmt) (b : Block) (ts us : List Token) (c : List Stmt) (x : Bool) → is_back a ≡ x →
    Remains (if x then st.Closing (with_statement b a) else st.Statement (with_statement b a)) ts us c → AfterStatement a b (k.Mark mk.Semicolon ∷ ts) us c
after_semicolon a b ts us c true e (r.wants_close h) = r.semicolon_ends h
after_semicolon a b ts us c false e (r.wants_statement (r.none h)) = r.semicolon_ends h
after_semicolon a b ts us c false e (r.wants_statement (r.semicolon is h)) = absurd (no_empty b.statements a is)
after_semicolon a b ts us c false e (r.wants_statement (r.some {vs = vs} {body = body} more h)) =
    r.goes_on e (subst (λ scope. IsStatements scope (b.statements ++ a ∷ []) ts (k.Mark mk.CloseBlock ∷ vs) body) (sym (brings_scope a b)) more) h

of_stated : (a : Stmt) (b : Block) (token : Token) (ts us : List Token) (c : List Stmt) → Moves (m.stated a b token) ts us c → AfterStatement a b (token ∷ ts) us c
unfolding m.stated
of_stated a b (k.Mark mk.Semicolon) ts us c h = after_semicolon a b ts us c (is_back a) refl h
of_stated a b (k.Mark mk.CloseBlock) ts us c h = r.ends (body_end b.levels (b.statements ++ a ∷ []) ts us c h)
of_stated a b _ ts us c h = absurd h

arguments_then : {p : Pending} {x : Bytes} {given : List Expr} {bs : List Bracket} {kind : Kind} {b : Block} {ts us : List Token} {c : List Stmt} →
    WantsExpr (within (Arguments p x given ∷ bs) kind b) ts us c →
    (vs : List Token) × (arguments : List Expr) × IsArguments (block_scope b) given ts vs arguments × AfterOperand p (sent x arguments) (within bs kind b) vs us c
arguments_then (vs, v, one, r.close_arguments h) = (_, _, g.last_argument one, h)
arguments_then (vs, v, one, r.another few more h) = (_, _, g.next_argument one few more, h)

of_comma : (p : Pending) (x : Bytes) (given : List Expr) (bs : List Bracket) (kind : Kind) (b : Block) (v : Expr) (ts us : List Token) (c : List Stmt) (y : Bool) →
    nat_lt (length given + 1) max_arguments ≡ y →
    Moves (if y then On (st.Operand no_pending (within (Arguments p x (given ++ v ∷ []) ∷ bs) kind b)) else Stuck) ts us c →
    AfterExpr (Arguments p x given ∷ bs) kind b v (k.Mark mk.Comma ∷ ts) us c
of_comma p x given bs kind b v ts us c true e (r.wants_operand h) = let found = arguments_then (expr_of h) in r.another (ltb-true _ _ e) found.2 found.3
of_comma p x given bs kind b v ts us c false e h = absurd h

of_ended : (bs : List Bracket) (kind : Kind) (b : Block) (v : Expr) (token : Token) (ts us : List Token) (c : List Stmt) →
    Moves (m.ended bs kind b v token) ts us c → AfterExpr bs kind b v (token ∷ ts) us c
unfolding m.ended
of_ended (Paren p ∷ bs) kind b v (k.Mark mk.Close) ts us c (r.after_operand h) = r.close_paren h
of_ended (Arguments p x given ∷ bs) kind b v (k.Mark mk.Close) ts us c (r.after_operand h) = r.close_arguments h
of_ended (Arguments p x given ∷ bs) kind b v (k.Mark mk.Comma) ts us c h = of_comma p x given bs kind b v ts us c _ refl h
of_ended (Fields p x given f ∷ bs) kind b v (k.Mark mk.CloseBlock) ts us c (r.after_operand h) = r.close_fields h
of_ended (Fields p x given f ∷ bs) kind b v (k.Mark mk.Comma) ts us c (r.inside (r.more_fields more h)) = r.another_field more h
of_ended [] kind b v token ts us c h = r.stated (of_stated (made kind v) b token ts us c h)
of_ended _ kind b v _ ts us c h = absurd h

of_operated : (l : g.Level) (op : Operator) (p : Pending) (a : Expr) (w : Within) (ts us : List Token) (c : List Stmt) → level op ≡ l →
    Remains (st.Operand (m.operated l op p a) w) ts us c → AfterOperand p a w (k.Operator op ∷ ts) us c
unfolding m.operated
of_operated g.multiplying op p a w ts us c is (r.wants_operand (vs, v, prim, r.after products sums compares h)) =
    r.after (g.more_products op is prim products) sums compares h
of_operated g.adding op p a w ts us c is (r.wants_operand (vs, v, prim, r.after products sums compares h)) =
    r.after g.no_more_products (g.more_sums op is (g.product_of prim products) sums) compares h
of_operated g.comparing op p a w ts us c is (r.wants_operand (vs, v, prim, r.after products sums compares h)) =
    r.after g.no_more_products g.no_more_sums (g.more_compares op is (g.sum_of (g.product_of prim products) sums) compares) h

of_after : (p : Pending) (a : Expr) (w : Within) (token : Token) (ts us : List Token) (c : List Stmt) →
    Moves (m.after_operand p a w token) ts us c → AfterOperand p a w (token ∷ ts) us c
unfolding m.after_operand
of_after p a w (k.Operator op) ts us c h = of_operated (level op) op p a w ts us c refl h
of_after p a w token ts us c h =
    r.after g.no_more_products g.no_more_sums g.no_more_compares (of_ended w.brackets w.kind w.block (value p a) token ts us c h)

of_opened : {formals : List Bytes} {p : Pending} {w : Within} {ts us : List Token} {c : List Stmt} →
    WantsStatement (m.opened formals p w) ts us c → WantsBody formals p w ts us c
unfolding m.opened
of_opened (r.none (r.closure h)) = (_, _, g.empty, h)
of_opened (r.semicolon is (r.closure h)) = (_, _, g.only_semicolon, h)
of_opened (r.some more (r.closure h)) = (_, _, g.statements more, h)

in_paren : {p : Pending} {bs : List Bracket} {kind : Kind} {b : Block} {v : Expr} {ts us : List Token} {c : List Stmt} →
    AfterExpr (Paren p ∷ bs) kind b v ts us c → (vs : List Token) × (ts ≡ k.Mark mk.Close ∷ vs) × AfterOperand p v (within bs kind b) vs us c
in_paren (r.close_paren h) = (_, refl, h)

paren_of : {p : Pending} {w : Within} {ts us : List Token} {c : List Stmt} → WantsExpr (bracketed (Paren p) w) ts us c →
    WantsOperand p w (k.Mark mk.Open ∷ ts) us c
paren_of {w = w} {ts = ts} (vs, v, inner, rest) =
    let found = in_paren rest in
    (_, _, g.paren (subst (λ l. IsExpr (scope_in w) ts l v) found.1 inner), found.2)

of_operand : (p : Pending) (w : Within) (token : Token) (ts us : List Token) (c : List Stmt) →
    Moves (m.operand p w token) ts us c → WantsOperand p w (token ∷ ts) us c
unfolding m.operand
of_operand p w (k.Number n) ts us c (r.after_operand h) = (_, _, g.number n, h)
of_operand p w (k.Text bytes) ts us c (r.after_operand h) = (_, _, g.string bytes, h)
of_operand p w (k.Word x) ts us c (r.inside (r.is_operand h)) = (_, _, g.name x, h)
of_operand p w (k.Word x) ts us c (r.inside (r.wants_arguments (r.of_none h))) = (_, _, g.call_of_none x, h)
of_operand p w (k.Word x) ts us c (r.inside (r.wants_arguments (r.of_some arguments h))) = (_, _, g.call x arguments, h)
of_operand p w (k.Operator o.Minus) ts us c (r.inside (r.wants_number {n = n} h)) = (_, _, g.negative n, h)
of_operand p w (k.Mark mk.Open) ts us c (r.wants_operand h) = paren_of {w = w} (expr_of h)
of_operand p w (k.Mark mk.OpenBlock) ts us c (r.wants_statement h) = let found = of_opened {w = w} h in (_, _, g.closure found.2, found.3)
of_operand p w (k.Mark mk.Ampersand) ts us c (r.inside (r.wants_formals (r.some_formals xs (vs, body, is, h)))) = (_, _, g.closure_of xs is, h)
of_operand p w (k.Keyword kw.Object) ts us c (r.inside (r.wants_isa (r.wants_parent (r.is_new {x = x} h)))) = (_, _, g.constructor_plain x, h)
of_operand p w (k.Keyword kw.Object) ts us c (r.inside (r.wants_isa (r.wants_parent (r.wants_fields (r.no_fields {x = x} h))))) =
    (_, _, g.constructor_empty x, h)
of_operand p w (k.Keyword kw.Object) ts us c (r.inside (r.wants_isa (r.wants_parent (r.wants_fields (r.some_fields (r.more_fields {x = x} fields h)))))) =
    (_, _, g.constructor x fields, h)
of_operand p w (k.Keyword kw.Resend) ts us c (r.inside (r.wants_open (r.wants_dots (r.is_resend h)))) = (_, _, g.resend, h)
of_operand p w _ ts us c h = absurd h

of_called : (x : Bytes) (p : Pending) (w : Within) (token : Token) (ts us : List Token) (c : List Stmt) →
    Moves (m.called x p w token) ts us c → AfterPart (pt.Called x) p w (token ∷ ts) us c
unfolding m.called
of_called x p w (k.Mark mk.Open) ts us c (r.inside h) = r.wants_arguments h
of_called x p w token ts us c h = r.is_operand (of_after p (e.Name x) w token ts us c h)

first_then : {x : Bytes} {p : Pending} {w : Within} {ts us : List Token} {c : List Stmt} →
    WantsOperand no_pending (bracketed (Arguments p x []) w) ts us c → AfterPart (pt.FirstArgument x) p w ts us c
first_then {w = w} h = let found = arguments_then (expr_of h) in r.of_some found.2 found.3

of_first_argument : (x : Bytes) (p : Pending) (w : Within) (token : Token) (ts us : List Token) (c : List Stmt) →
    Moves (m.first_argument x p w token) ts us c → AfterPart (pt.FirstArgument x) p w (token ∷ ts) us c
unfolding m.first_argument
of_first_argument x p w (k.Mark mk.Close) ts us c (r.after_operand h) = r.of_none h
of_first_argument x p w token ts us c h = first_then {w = w} (of_operand no_pending (bracketed (Arguments p x []) w) token ts us c h)

pub formals_then : {given : List Bytes} {x : Bytes} {p : Pending} {w : Within} {ts us : List Token} {c : List Stmt} → is_bound (with_formals (scope_in w) given) x ≡ false →
    AfterPart (pt.Formed given x) p w ts us c →
    (vs : List Token) × (xs : List Bytes) × IsMoreFormals (scope_in w) given (k.Word x ∷ ts) (k.Mark mk.OpenBlock ∷ vs) xs × WantsBody xs p w vs us c
formals_then {x = x} new (r.last_formal (r.wants_body body)) = (_, _, g.last_formal x new, body)
formals_then {x = x} new (r.next_formal few (r.more_formals more body)) = (_, _, g.next_formal x new few more, body)

formal_by : (given : List Bytes) (x : Bytes) (p : Pending) (w : Within) (ts us : List Token) (c : List Stmt) (y : Bool) →
    is_bound (with_formals (scope_in w) given) x ≡ y → Moves (if y then Stuck else On (st.Inside (pt.Formed given x) p w)) ts us c →
    (vs : List Token) × (xs : List Bytes) × IsMoreFormals (scope_in w) given (k.Word x ∷ ts) (k.Mark mk.OpenBlock ∷ vs) xs × WantsBody xs p w vs us c
formal_by given x p w ts us c true is h = absurd h
formal_by given x p w ts us c false is (r.inside h) = formals_then is h

of_formal : (given : List Bytes) (x : Bytes) (p : Pending) (w : Within) (ts us : List Token) (c : List Stmt) → Moves (m.formal given x p w) ts us c →
    (vs : List Token) × (xs : List Bytes) × IsMoreFormals (scope_in w) given (k.Word x ∷ ts) (k.Mark mk.OpenBlock ∷ vs) xs × WantsBody xs p w vs us c
unfolding m.formal
of_formal given x p w ts us c h = formal_by given x p w ts us c _ refl h

of_first_formal : (p : Pending) (w : Within) (token : Token) (ts us : List Token) (c : List Stmt) →
    Moves (m.first_formal p w token) ts us c → AfterPart pt.FirstFormal p w (token ∷ ts) us c
unfolding m.first_formal
of_first_formal p w (k.Mark mk.Close) ts us c (r.inside (r.wants_body body)) = r.some_formals g.no_formals body
of_first_formal p w (k.Word x) ts us c h = let found = of_formal [] x p w ts us c h in r.some_formals (g.formals found.2) found.3
of_first_formal p w _ ts us c h = absurd h

of_next_formal : (given : List Bytes) (p : Pending) (w : Within) (token : Token) (ts us : List Token) (c : List Stmt) →
    Moves (m.next_formal given p w token) ts us c → AfterPart (pt.Formal given) p w (token ∷ ts) us c
unfolding m.next_formal
of_next_formal given p w (k.Word x) ts us c h = let found = of_formal given x p w ts us c h in r.more_formals found.2 found.3
of_next_formal given p w _ ts us c h = absurd h

formed_by : (given : List Bytes) (x : Bytes) (p : Pending) (w : Within) (ts us : List Token) (c : List Stmt) (y : Bool) →
    nat_lt (length given + 1) max_closure_formals ≡ y → Moves (if y then On (st.Inside (pt.Formal (given ++ x ∷ [])) p w) else Stuck) ts us c →
    AfterPart (pt.Formed given x) p w (k.Mark mk.Comma ∷ ts) us c
formed_by given x p w ts us c true e (r.inside h) = r.next_formal (ltb-true _ _ e) h
formed_by given x p w ts us c false e h = absurd h

of_formed : (given : List Bytes) (x : Bytes) (p : Pending) (w : Within) (token : Token) (ts us : List Token) (c : List Stmt) →
    Moves (m.formed given x p w token) ts us c → AfterPart (pt.Formed given x) p w (token ∷ ts) us c
unfolding m.formed
of_formed given x p w (k.Mark mk.Close) ts us c (r.inside h) = r.last_formal h
of_formed given x p w (k.Mark mk.Comma) ts us c h = formed_by given x p w ts us c _ refl h
of_formed given x p w _ ts us c h = absurd h

of_parent : (x : Bytes) (p : Pending) (w : Within) (token : Token) (ts us : List Token) (c : List Stmt) →
    Moves (m.parent x p w token) ts us c → AfterPart (pt.Parent x) p w (token ∷ ts) us c
unfolding m.parent
of_parent x p w (k.Mark mk.OpenBlock) ts us c (r.inside h) = r.wants_fields h
of_parent x p w token ts us c h = r.is_new (of_after p (e.New x []) w token ts us c h)

pub fields_then : {x f : Bytes} {given : List (Bytes × Expr)} {p : Pending} {bs : List Bracket} {kind : Kind} {b : Block} {ts us : List Token} {c : List Stmt} →
    length f ≤ max_field_bytes → is_among (field_names given) f ≡ false → WantsExpr (within (Fields p x given f ∷ bs) kind b) ts us c →
    (vs : List Token) × (fields : List (Bytes × Expr)) × IsFields (block_scope b) given (k.Word f ∷ k.Mark mk.Becomes ∷ ts) vs fields ×
    AfterOperand p (e.New x fields) (within bs kind b) vs us c
fields_then {f = f} short new (vs, v, one, r.close_fields h) = (_, _, g.last_field f short new one, h)
fields_then {f = f} short new (vs, v, one, r.another_field more h) = (_, _, g.next_field f short new one more, h)

field_by : (x : Bytes) (given : List (Bytes × Expr)) (f : Bytes) (p : Pending) (w : Within) (ts us : List Token) (c : List Stmt) (y z : Bool) →
    nat_lt max_field_bytes (length f) ≡ y → is_among (field_names given) f ≡ z →
    Moves (if y then Stuck else if z then Stuck else On (st.Inside (pt.FieldName x given f) p w)) ts us c →
    AfterPart (pt.Field x given) p w (k.Word f ∷ ts) us c
field_by x given f p w ts us c true z short new h = absurd h
field_by x given f p w ts us c false true short new h = absurd h
field_by x given f p w ts us c false false short new (r.inside (r.wants_value v)) =
    let found = fields_then {bs = w.brackets} {kind = w.kind} {b = w.block} (ltb-false _ _ short) new v in r.more_fields found.2 found.3

of_field : (x : Bytes) (given : List (Bytes × Expr)) (f : Bytes) (p : Pending) (w : Within) (ts us : List Token) (c : List Stmt) →
    Moves (m.field x given f p w) ts us c → AfterPart (pt.Field x given) p w (k.Word f ∷ ts) us c
unfolding m.field
of_field x given f p w ts us c h = field_by x given f p w ts us c _ _ refl refl h

of_first_field : (x : Bytes) (p : Pending) (w : Within) (token : Token) (ts us : List Token) (c : List Stmt) →
    Moves (m.first_field x p w token) ts us c → AfterPart (pt.FirstField x) p w (token ∷ ts) us c
unfolding m.first_field
of_first_field x p w (k.Mark mk.CloseBlock) ts us c (r.after_operand h) = r.no_fields h
of_first_field x p w (k.Word f) ts us c h = r.some_fields (of_field x [] f p w ts us c h)
of_first_field x p w _ ts us c h = absurd h

of_next_field : (x : Bytes) (given : List (Bytes × Expr)) (p : Pending) (w : Within) (token : Token) (ts us : List Token) (c : List Stmt) →
    Moves (m.next_field x given p w token) ts us c → AfterPart (pt.Field x given) p w (token ∷ ts) us c
unfolding m.next_field
of_next_field x given p w (k.Word f) ts us c h = of_field x given f p w ts us c h
of_next_field x given p w _ ts us c h = absurd h

of_part : (part : Part) (p : Pending) (w : Within) (token : Token) (ts us : List Token) (c : List Stmt) →
    Moves (m.inside part p w token) ts us c → AfterPart part p w (token ∷ ts) us c
unfolding m.inside m.signed m.ampersand m.formals m.object m.isa m.field_name m.resend m.resend_open m.resend_dots
of_part pt.Signed p w (k.Number n) ts us c (r.after_operand h) = r.wants_number h
of_part (pt.Called x) p w token ts us c h = of_called x p w token ts us c h
of_part (pt.FirstArgument x) p w token ts us c h = of_first_argument x p w token ts us c h
of_part pt.Ampersand p w (k.Mark mk.Open) ts us c (r.inside h) = r.wants_formals h
of_part pt.FirstFormal p w token ts us c h = of_first_formal p w token ts us c h
of_part (pt.Formal given) p w token ts us c h = of_next_formal given p w token ts us c h
of_part (pt.Formed given x) p w token ts us c h = of_formed given x p w token ts us c h
of_part (pt.Formals xs) p w (k.Mark mk.OpenBlock) ts us c (r.wants_statement h) = r.wants_body (of_opened {w = w} h)
of_part pt.Object p w (k.Keyword kw.Isa) ts us c (r.inside h) = r.wants_isa h
of_part pt.Isa p w (k.Word x) ts us c (r.inside h) = r.wants_parent h
of_part (pt.Parent x) p w token ts us c h = of_parent x p w token ts us c h
of_part (pt.FirstField x) p w token ts us c h = of_first_field x p w token ts us c h
of_part (pt.Field x given) p w token ts us c h = of_next_field x given p w token ts us c h
of_part (pt.FieldName x given f) p w (k.Mark mk.Becomes) ts us c (r.wants_operand h) = r.wants_value (expr_of h)
of_part pt.Resend p w (k.Mark mk.Open) ts us c (r.inside h) = r.wants_open h
of_part pt.ResendOpen p w (k.Mark mk.Dots) ts us c (r.inside h) = r.wants_dots h
of_part pt.ResendDots p w (k.Mark mk.Close) ts us c (r.after_operand h) = r.is_resend h
of_part _ p w _ ts us c h = absurd h

statements_of : {b : Block} {a : Stmt} {ts vs us : List Token} {c : List Stmt} → IsStmt (block_scope b) ts vs a → AfterStatement a b vs us c → WantsStatement b ts us c
statements_of one (r.ends h) = r.some (g.last one) h
statements_of one (r.semicolon_ends h) = r.some (g.last_semicolon one) h
statements_of one (r.goes_on other more h) = r.some (g.next one other more) h

-- an expression that makes a statement
stated_expr : {kind : Kind} {b : Block} {ts us : List Token} {c : List Stmt} → WantsExpr (as_statement kind b) ts us c →
    (vs : List Token) × (v : Expr) × IsExpr (block_scope b) ts vs v × AfterStatement (made kind v) b vs us c
stated_expr (vs, v, one, r.stated h) = (_, _, one, h)

plain_of : {b : Block} {ts us : List Token} {c : List Stmt} → WantsOperand no_pending (as_statement Plain b) ts us c → WantsStatement b ts us c
plain_of {b} h = let found = stated_expr {kind = Plain} {b = b} (expr_of h) in statements_of (g.plain found.2) found.3

semicolon_end : (b : Block) (l : List Stmt) (ts us : List Token) (c : List Stmt) → b.statements ≡ l → Moves (m.semicolon l b) ts us c →
    WantsStatement b (k.Mark mk.Semicolon ∷ ts) us c
unfolding m.semicolon
semicolon_end b [] ts us c is (r.wants_close {ts = vs} h) = r.semicolon is (subst (λ l. AfterBody b.levels l vs us c) is h)
semicolon_end b (x ∷ l) ts us c is h = absurd h

of_statement : (b : Block) (token : Token) (ts us : List Token) (c : List Stmt) → Moves (m.statement b token) ts us c → WantsStatement b (token ∷ ts) us c
unfolding m.statement m.operand
of_statement b (k.Keyword kw.Let) ts us c (r.let_constant {x = x} new (r.wants_becomes v)) =
    let found = stated_expr {kind = Value false x} {b = b} v in statements_of (g.let_of x new found.2) found.3
of_statement b (k.Keyword kw.Let) ts us c (r.let_variable (r.wants_name {x = x} new (r.wants_becomes v))) =
    let found = stated_expr {kind = Value true x} {b = b} v in statements_of (g.let_var x new found.2) found.3
of_statement b (k.Mark mk.Caret) ts us c (r.wants_operand h) = let found = stated_expr {kind = Answer} {b = b} (expr_of h) in statements_of (g.back found.2) found.3
of_statement b (k.Word x) ts us c (r.after_first (r.changes variable v)) =
    let found = stated_expr {kind = Changed x} {b = b} v in statements_of (g.set x variable found.2) found.3
of_statement b (k.Word x) ts us c (r.after_first (r.begins h)) =
    plain_of {b = b} (of_operand no_pending (as_statement Plain b) (k.Word x) ts us c (r.inside h))
of_statement b (k.Mark mk.CloseBlock) ts us c h = r.none (body_end b.levels b.statements ts us c h)
of_statement b (k.Mark mk.Semicolon) ts us c h = semicolon_end b b.statements ts us c refl h
of_statement b token ts us c h = plain_of {b = b} (of_operand no_pending (as_statement Plain b) token ts us c h)

assigned : (b : Block) (x : Bytes) (ts us : List Token) (c : List Stmt) (y : Bool) → is_variable (block_scope b) x ≡ y →
    Moves (if y then On (st.Operand no_pending (as_statement (Changed x) b)) else Stuck) ts us c → AfterFirst b x (k.Mark mk.Becomes ∷ ts) us c
assigned b x ts us c true is (r.wants_operand h) = r.changes is (expr_of h)
assigned b x ts us c false is h = absurd h

of_named : (b : Block) (x : Bytes) (token : Token) (ts us : List Token) (c : List Stmt) → Moves (m.named b x token) ts us c → AfterFirst b x (token ∷ ts) us c
unfolding m.named
of_named b x (k.Mark mk.Becomes) ts us c h = assigned b x ts us c _ refl h
of_named b x token ts us c h = r.begins (of_called x no_pending (as_statement Plain b) token ts us c h)

fresh_by : (b : Block) (var : Bool) (x : Bytes) (ts us : List Token) (c : List Stmt) (y : Bool) → is_bound (block_scope b) x ≡ y →
    Moves (if y then Stuck else On (st.Bound b var x)) ts us c → (is_bound (block_scope b) x ≡ false) × Remains (st.Bound b var x) ts us c
fresh_by b var x ts us c true is h = absurd h
fresh_by b var x ts us c false is h = (is, h)

of_fresh : (b : Block) (var : Bool) (x : Bytes) (ts us : List Token) (c : List Stmt) → Moves (m.fresh b var x) ts us c →
    (is_bound (block_scope b) x ≡ false) × Remains (st.Bound b var x) ts us c
unfolding m.fresh
of_fresh b var x ts us c h = fresh_by b var x ts us c _ refl h

of_let : (b : Block) (token : Token) (ts us : List Token) (c : List Stmt) → Moves (m.after_let b token) ts us c → Remains (st.Let b) (token ∷ ts) us c
unfolding m.after_let
of_let b (k.Keyword kw.Var) ts us c h = r.let_variable h
of_let b (k.Word x) ts us c h = let found = of_fresh b false x ts us c h in r.let_constant found.0 found.1
of_let b _ ts us c h = absurd h

of_var : (b : Block) (token : Token) (ts us : List Token) (c : List Stmt) → Moves (m.after_var b token) ts us c → Remains (st.LetVar b) (token ∷ ts) us c
unfolding m.after_var
of_var b (k.Word x) ts us c h = let found = of_fresh b true x ts us c h in r.wants_name found.0 found.1
of_var b _ ts us c h = absurd h

-- What remains of where a token leads remains of the state before, with the token in front.
pub sound : (state : State) (token : Token) (ts us : List Token) (c : List Stmt) → Moves (m.step state token) ts us c → Remains state (token ∷ ts) us c
unfolding m.step m.bound m.closing
sound (st.Operand p w) token ts us c h = r.wants_operand (of_operand p w token ts us c h)
sound (st.Inside part p w) token ts us c h = r.inside (of_part part p w token ts us c h)
sound (st.Operated p a w) token ts us c h = r.after_operand (of_after p a w token ts us c h)
sound (st.Statement b) token ts us c h = r.wants_statement (of_statement b token ts us c h)
sound (st.Named b x) token ts us c h = r.after_first (of_named b x token ts us c h)
sound (st.Let b) token ts us c h = of_let b token ts us c h
sound (st.LetVar b) token ts us c h = of_var b token ts us c h
sound (st.Bound b var x) (k.Mark mk.Becomes) ts us c (r.wants_operand h) = r.wants_becomes (expr_of h)
sound (st.Closing b) (k.Mark mk.CloseBlock) ts us c h = r.wants_close (body_end b.levels b.statements ts us c h)
sound _ _ ts us c h = absurd h
