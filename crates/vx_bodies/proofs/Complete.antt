-- What remains of a state before a token remains of where the token leads.
use Rattle.std.proofs.Common.{◌≡◌, ◌≤◌, Bool, true, false, List, [], ◌∷◌, ◌++◌, length, refl, sym, subst, if◌then◌else◌, lt-ltb, le-ltb}
use Rattle.vx_names.specs.declared.operator.Operator.{Operator}
use Rattle.vx_syntax.specs.declared.token.Token.{Token}
use Rattle.vx_syntax.specs.declared.token.Token.TheVariants as k
use Rattle.vx_syntax.specs.declared.token.Keyword.TheVariants as kw
use Rattle.vx_syntax.specs.declared.token.Mark.TheVariants as mk
use Rattle.vx_syntax.specs.declared.expr.Expr.{Expr}
use Rattle.vx_syntax.specs.declared.expr.Expr.TheVariants as e
use Rattle.vx_syntax.specs.declared.expr.Stmt.{Stmt}
use Rattle.vx_syntax.specs.declared.expr.Stmt.TheVariants as t
use Rattle.vx_syntax.specs.Expressions as g
use Rattle.vx_syntax.specs.Expressions.{Bytes, is_bound, is_variable, is_among, is_back, brings, with_formals, max_arguments, max_closure_formals, max_field_bytes, field_names, IsExpr, IsArguments, IsFields, IsFormals, IsMoreFormals, IsBody, IsStatements, IsStmt}
use Rattle.vx_bodies.specs.declared.state.Pending.{Pending}
use Rattle.vx_bodies.specs.declared.state.Bracket.{Bracket}
use Rattle.vx_bodies.specs.declared.state.Bracket.TheVariants.{Paren, Arguments, Fields}
use Rattle.vx_bodies.specs.declared.state.Kind.{Kind}
use Rattle.vx_bodies.specs.declared.state.Kind.TheVariants.{Changed, Plain}
use Rattle.vx_bodies.specs.declared.state.Level.{Level}
use Rattle.vx_bodies.specs.declared.state.Block.{Block}
use Rattle.vx_bodies.specs.declared.state.Within.{Within}
use Rattle.vx_bodies.specs.declared.state.Part.{Part}
use Rattle.vx_bodies.specs.declared.state.Part.TheVariants as pt
use Rattle.vx_bodies.specs.declared.state.State.{State}
use Rattle.vx_bodies.specs.declared.state.State.TheVariants as st
use Rattle.vx_bodies.specs.declared.state.Next.TheVariants.{Stuck, On}
use Rattle.vx_bodies.specs.Machine as m
use Rattle.vx_bodies.specs.Machine.{no_pending, block_scope, scope_in, made, sent, within, bracketed, with_statement, as_statement, value}
use Rattle.vx_bodies.specs.Remains as r
use Rattle.vx_bodies.specs.Remains.{AfterOperand, AfterExpr, AfterStatement, AfterBody, AfterPart, WantsOperand, WantsExpr, WantsBody, WantsStatement, AfterFirst, Remains, Moves}

pub brings_scope : (a : Stmt) (b : Block) → brings (block_scope b) a ≡ block_scope (with_statement b a)
brings_scope (t.Let x v) b = refl
brings_scope (t.LetVar x v) b = refl
brings_scope (t.Set x v) b = refl
brings_scope (t.Do v) b = refl
brings_scope (t.Back v) b = refl

operand_of : {w : Within} {ts us : List Token} {c : List Stmt} → WantsExpr w ts us c → WantsOperand no_pending w ts us c
operand_of (vs, v, g.expr (g.sum_of (g.product_of prim products) sums) compares, rest) = (_, _, prim, r.after products sums compares rest)

closed_by : {ls : List Level} {body c : List Stmt} {ts us : List Token} → AfterBody ls body ts us c → Moves (m.closed ls body) ts us c
unfolding m.closed
closed_by r.whole = (refl, refl)
closed_by (r.closure h) = r.after_operand h

semicolon_then : (b : Block) {ts us : List Token} {c : List Stmt} (x : Bool) → AfterBody b.levels b.statements ts us c →
    Remains (if x then st.Closing b else st.Statement b) (k.Mark mk.CloseBlock ∷ ts) us c
semicolon_then b true h = r.wants_close h
semicolon_then b false h = r.wants_statement (r.none h)

by_stated : {a : Stmt} {b : Block} {token : Token} {ts us : List Token} {c : List Stmt} → AfterStatement a b (token ∷ ts) us c →
    Moves (m.stated a b token) ts us c
unfolding m.stated
by_stated (r.ends h) = closed_by h
by_stated {a} {b} (r.semicolon_ends h) = semicolon_then (with_statement b a) (is_back a) h
by_stated {a} {b} {ts = ts} {us = us} {c = c} (r.goes_on {vs = vs} {body = body} other more h) =
    subst (λ x. Remains (if x then st.Closing (with_statement b a) else st.Statement (with_statement b a)) ts us c) (sym other)
    (r.wants_statement (r.some (subst (λ scope. IsStatements scope (b.statements ++ a ∷ []) ts (k.Mark mk.CloseBlock ∷ vs) body) (brings_scope a b) more) h))

arguments_of : {p : Pending} {x : Bytes} {given arguments : List Expr} {bs : List Bracket} {kind : Kind} {b : Block} {ts vs us : List Token} {c : List Stmt} →
    IsArguments (block_scope b) given ts vs arguments → AfterOperand p (sent x arguments) (within bs kind b) vs us c →
    WantsExpr (within (Arguments p x given ∷ bs) kind b) ts us c
arguments_of (g.last_argument a) h = (_, _, a, r.close_arguments h)
arguments_of (g.next_argument a few more) h = (_, _, a, r.another few more h)

by_ended : {bs : List Bracket} {kind : Kind} {b : Block} {v : Expr} {token : Token} {ts us : List Token} {c : List Stmt} →
    AfterExpr bs kind b v (token ∷ ts) us c → Moves (m.ended bs kind b v token) ts us c
unfolding m.ended
by_ended (r.close_paren h) = r.after_operand h
by_ended (r.close_arguments h) = r.after_operand h
by_ended {kind = kind} {b = b} {v = v} {ts = ts} {us = us} {c = c} (r.another {p = p} {x = x} {given = given} {bs = bs} few more h) =
    subst (λ y. Moves (if y then On (st.Operand no_pending (within (Arguments p x (given ++ v ∷ []) ∷ bs) kind b)) else Stuck) ts us c)
    (sym (lt-ltb _ _ few)) (r.wants_operand (operand_of (arguments_of more h)))
by_ended (r.close_fields h) = r.after_operand h
by_ended (r.another_field more h) = r.inside (r.more_fields more h)
by_ended (r.stated {b = b} h) = by_stated {b = b} h

-- these do not end an expression
data IsNoEnd : Token → Type 0 where
  operator : {op : Operator} → IsNoEnd (k.Operator op)
  open_paren : IsNoEnd (k.Mark mk.Open)
  open_block : IsNoEnd (k.Mark mk.OpenBlock)

unended : (bs : List Bracket) (kind : Kind) (b : Block) (v : Expr) {token : Token} → IsNoEnd token → m.ended bs kind b v token ≡ Stuck
unfolding m.ended m.stated
unended [] kind b v operator = refl
unended [] kind b v open_paren = refl
unended [] kind b v open_block = refl
unended (Paren p ∷ bs) kind b v operator = refl
unended (Paren p ∷ bs) kind b v open_paren = refl
unended (Paren p ∷ bs) kind b v open_block = refl
unended (Arguments p x given ∷ bs) kind b v operator = refl
unended (Arguments p x given ∷ bs) kind b v open_paren = refl
unended (Arguments p x given ∷ bs) kind b v open_block = refl
unended (Fields p x given f ∷ bs) kind b v operator = refl
unended (Fields p x given f ∷ bs) kind b v open_paren = refl
unended (Fields p x given f ∷ bs) kind b v open_block = refl

never : (w : Within) (v : Expr) {token : Token} (ts us : List Token) (c : List Stmt) {A : Type 0} → IsNoEnd token →
    Moves (m.ended w.brackets w.kind w.block v token) ts us c → A
never w v ts us c other h = absurd (subst (λ next. Moves next ts us c) (unended w.brackets w.kind w.block v other) h)

past_operand : (p : Pending) (a : Expr) (w : Within) (token : Token) (ts us : List Token) (c : List Stmt) →
    Moves (m.ended w.brackets w.kind w.block (value p a) token) ts us c → Moves (m.after_operand p a w token) ts us c
unfolding m.after_operand
past_operand p a w (k.Operator op) ts us c h = never w (value p a) ts us c operator h
past_operand p a w _ ts us c h = h

by_after : (p : Pending) (a : Expr) (bs : List Bracket) (kind : Kind) (b : Block) {token : Token} {ts us : List Token} {c : List Stmt} →
    AfterOperand p a (within bs kind b) (token ∷ ts) us c → Moves (m.after_operand p a (within bs kind b) token) ts us c
unfolding m.after_operand m.operated
by_after p a bs kind b {ts = ts} {us = us} {c = c} (r.after (g.more_products op is prim products) sums compares h) =
    subst (λ l. Remains (st.Operand (m.operated l op p a) (within bs kind b)) ts us c) (sym is)
    (r.wants_operand (_, _, prim, r.after products sums compares h))
by_after p a bs kind b {ts = ts} {us = us} {c = c} (r.after g.no_more_products (g.more_sums op is (g.product_of prim products) sums) compares h) =
    subst (λ l. Remains (st.Operand (m.operated l op p a) (within bs kind b)) ts us c) (sym is)
    (r.wants_operand (_, _, prim, r.after products sums compares h))
by_after p a bs kind b {ts = ts} {us = us} {c = c} (r.after g.no_more_products g.no_more_sums (g.more_compares op is (g.sum_of (g.product_of prim products) sums) compares) h) =
    subst (λ l. Remains (st.Operand (m.operated l op p a) (within bs kind b)) ts us c) (sym is)
    (r.wants_operand (_, _, prim, r.after products sums compares h))
by_after p a bs kind b {token = token} {ts = ts} {us = us} {c = c} (r.after g.no_more_products g.no_more_sums g.no_more_compares h) =
    past_operand p a (within bs kind b) token ts us c (by_ended h)

-- the body of a closure
body_of : {formals : List Bytes} {p : Pending} {w : Within} {ts us : List Token} {c : List Stmt} →
    WantsBody formals p w ts us c → WantsStatement (m.opened formals p w) ts us c
unfolding m.opened
body_of (vs, body, g.empty, h) = r.none (r.closure h)
body_of (vs, body, g.only_semicolon, h) = r.semicolon refl (r.closure h)
body_of (vs, body, g.statements more, h) = r.some more (r.closure h)

by_operand : {p : Pending} {w : Within} {token : Token} {ts us : List Token} {c : List Stmt} →
    WantsOperand p w (token ∷ ts) us c → Moves (m.operand p w token) ts us c
unfolding m.operand
by_operand (vs, v, g.number n, h) = r.after_operand h
by_operand (vs, v, g.negative n, h) = r.inside (r.wants_number h)
by_operand (vs, v, g.string bytes, h) = r.after_operand h
by_operand (vs, v, g.name x, h) = r.inside (r.is_operand h)
by_operand (vs, v, g.call_of_none x, h) = r.inside (r.wants_arguments (r.of_none h))
by_operand (vs, v, g.call x arguments, h) = r.inside (r.wants_arguments (r.of_some arguments h))
by_operand (vs, v, g.paren inner, h) = r.wants_operand (operand_of (_, _, inner, r.close_paren h))
by_operand (vs, v, g.closure body, h) = r.wants_statement (body_of (_, _, body, h))
by_operand (vs, v, g.closure_of xs body, h) = r.inside (r.wants_formals (r.some_formals xs (_, _, body, h)))
by_operand (vs, v, g.constructor_plain x, h) = r.inside (r.wants_isa (r.wants_parent (r.is_new h)))
by_operand (vs, v, g.constructor_empty x, h) = r.inside (r.wants_isa (r.wants_parent (r.wants_fields (r.no_fields h))))
by_operand (vs, v, g.constructor x fields, h) = r.inside (r.wants_isa (r.wants_parent (r.wants_fields (r.some_fields (r.more_fields fields h)))))
by_operand (vs, v, g.resend, h) = r.inside (r.wants_open (r.wants_dots (r.is_resend h)))

uncalled : (x : Bytes) (p : Pending) (w : Within) (token : Token) (ts us : List Token) (c : List Stmt) →
    Moves (m.after_operand p (e.Name x) w token) ts us c → Moves (m.called x p w token) ts us c
unfolding m.called m.after_operand
uncalled x p w (k.Mark mk.Open) ts us c h = never w (value p (e.Name x)) ts us c open_paren h
uncalled x p w _ ts us c h = h

by_called : {x : Bytes} {p : Pending} {w : Within} {token : Token} {ts us : List Token} {c : List Stmt} →
    AfterPart (pt.Called x) p w (token ∷ ts) us c → Moves (m.called x p w token) ts us c
unfolding m.called
by_called {x} {p} {w} {token} {ts} {us} {c} (r.is_operand h) =
    uncalled x p w token ts us c (by_after p (e.Name x) w.brackets w.kind w.block h)
by_called (r.wants_arguments h) = r.inside h

not_close : (x : Bytes) (p : Pending) (w : Within) (token : Token) (ts us : List Token) (c : List Stmt) →
    Moves (m.operand no_pending (bracketed (Arguments p x []) w) token) ts us c → Moves (m.first_argument x p w token) ts us c
unfolding m.first_argument m.operand
not_close x p w (k.Mark mk.Close) ts us c h = absurd h
not_close x p w _ ts us c h = h

by_first_argument : {x : Bytes} {p : Pending} {w : Within} {token : Token} {ts us : List Token} {c : List Stmt} →
    AfterPart (pt.FirstArgument x) p w (token ∷ ts) us c → Moves (m.first_argument x p w token) ts us c
unfolding m.first_argument
by_first_argument (r.of_none h) = r.after_operand h
by_first_argument {x} {p} {w} {token} {ts} {us} {c} (r.of_some arguments h) =
    not_close x p w token ts us c (by_operand (operand_of (arguments_of arguments h)))

by_formal : (given : List Bytes) (x : Bytes) (p : Pending) (w : Within) {ts us : List Token} {c : List Stmt} →
    is_bound (with_formals (scope_in w) given) x ≡ false → AfterPart (pt.Formed given x) p w ts us c → Moves (m.formal given x p w) ts us c
unfolding m.formal
by_formal given x p w {ts} {us} {c} new h =
    subst (λ y. Moves (if y then Stuck else On (st.Inside (pt.Formed given x) p w)) ts us c) (sym new) (r.inside h)

by_more_formals : {given formals : List Bytes} {p : Pending} {w : Within} {token : Token} {ts vs us : List Token} {c : List Stmt} →
    IsMoreFormals (scope_in w) given (token ∷ ts) (k.Mark mk.OpenBlock ∷ vs) formals → WantsBody formals p w vs us c →
    Moves (m.next_formal given p w token) ts us c
unfolding m.next_formal
by_more_formals {given} {p = p} {w = w} (g.last_formal x new) body = by_formal given x p w new (r.last_formal (r.wants_body body))
by_more_formals {given} {p = p} {w = w} (g.next_formal x new few more) body = by_formal given x p w new (r.next_formal few (r.more_formals more body))

not_closed : (p : Pending) (w : Within) (token : Token) (ts us : List Token) (c : List Stmt) →
    Moves (m.next_formal [] p w token) ts us c → Moves (m.first_formal p w token) ts us c
unfolding m.first_formal m.next_formal
not_closed p w (k.Mark mk.Close) ts us c h = absurd h
not_closed p w _ ts us c h = h

by_first_formal : {p : Pending} {w : Within} {formals : List Bytes} {token : Token} {ts vs us : List Token} {c : List Stmt} →
    IsFormals (scope_in w) (token ∷ ts) (k.Mark mk.OpenBlock ∷ vs) formals → WantsBody formals p w vs us c → Moves (m.first_formal p w token) ts us c
unfolding m.first_formal
by_first_formal g.no_formals body = r.inside (r.wants_body body)
by_first_formal {p} {w} {token = token} {ts = ts} {us = us} {c = c} (g.formals more) body = not_closed p w token ts us c (by_more_formals more body)

by_formed : {given : List Bytes} {x : Bytes} {p : Pending} {w : Within} {token : Token} {ts us : List Token} {c : List Stmt} →
    AfterPart (pt.Formed given x) p w (token ∷ ts) us c → Moves (m.formed given x p w token) ts us c
unfolding m.formed
by_formed (r.last_formal h) = r.inside h
by_formed {given} {x} {p} {w} {ts = ts} {us = us} {c = c} (r.next_formal few h) =
    subst (λ y. Moves (if y then On (st.Inside (pt.Formal (given ++ x ∷ [])) p w) else Stuck) ts us c) (sym (lt-ltb _ _ few)) (r.inside h)

unbraced : (x : Bytes) (p : Pending) (w : Within) (token : Token) (ts us : List Token) (c : List Stmt) →
    Moves (m.after_operand p (e.New x []) w token) ts us c → Moves (m.parent x p w token) ts us c
unfolding m.parent m.after_operand
unbraced x p w (k.Mark mk.OpenBlock) ts us c h = never w (value p (e.New x [])) ts us c open_block h
unbraced x p w _ ts us c h = h

by_parent : {x : Bytes} {p : Pending} {w : Within} {token : Token} {ts us : List Token} {c : List Stmt} →
    AfterPart (pt.Parent x) p w (token ∷ ts) us c → Moves (m.parent x p w token) ts us c
unfolding m.parent
by_parent {x} {p} {w} {token} {ts} {us} {c} (r.is_new h) = unbraced x p w token ts us c (by_after p (e.New x []) w.brackets w.kind w.block h)
by_parent (r.wants_fields h) = r.inside h

by_field : (x : Bytes) (given : List (Bytes × Expr)) (f : Bytes) (p : Pending) (w : Within) {ts us : List Token} {c : List Stmt} →
    length f ≤ max_field_bytes → is_among (field_names given) f ≡ false → AfterPart (pt.FieldName x given f) p w ts us c →
    Moves (m.field x given f p w) ts us c
unfolding m.field
by_field x given f p w {ts} {us} {c} short new h =
    let next = On (st.Inside (pt.FieldName x given f) p w) in
    subst (λ y. Moves (if y then Stuck else if is_among (field_names given) f then Stuck else next) ts us c) (sym (le-ltb _ _ short))
    (subst (λ y. Moves (if y then Stuck else next) ts us c) (sym new) (r.inside h))

by_more_fields : {x : Bytes} {given fields : List (Bytes × Expr)} {p : Pending} {w : Within} {token : Token} {ts vs us : List Token} {c : List Stmt} →
    IsFields (scope_in w) given (token ∷ ts) vs fields → AfterOperand p (e.New x fields) w vs us c → Moves (m.next_field x given p w token) ts us c
unfolding m.next_field
by_more_fields {x} {given} {p = p} {w = w} (g.last_field f short new one) h =
    by_field x given f p w short new (r.wants_value (_, _, one, r.close_fields h))
by_more_fields {x} {given} {p = p} {w = w} (g.next_field f short new one more) h =
    by_field x given f p w short new (r.wants_value (_, _, one, r.another_field more h))

by_next_field : {x : Bytes} {given : List (Bytes × Expr)} {p : Pending} {w : Within} {token : Token} {ts us : List Token} {c : List Stmt} →
    AfterPart (pt.Field x given) p w (token ∷ ts) us c → Moves (m.next_field x given p w token) ts us c
by_next_field (r.more_fields more h) = by_more_fields more h

not_empty : (x : Bytes) (p : Pending) (w : Within) (token : Token) (ts us : List Token) (c : List Stmt) →
    Moves (m.next_field x [] p w token) ts us c → Moves (m.first_field x p w token) ts us c
unfolding m.first_field m.next_field
not_empty x p w (k.Mark mk.CloseBlock) ts us c h = absurd h
not_empty x p w _ ts us c h = h

by_first_field : {x : Bytes} {p : Pending} {w : Within} {token : Token} {ts us : List Token} {c : List Stmt} →
    AfterPart (pt.FirstField x) p w (token ∷ ts) us c → Moves (m.first_field x p w token) ts us c
unfolding m.first_field
by_first_field (r.no_fields h) = r.after_operand h
by_first_field {x} {p} {w} {token} {ts} {us} {c} (r.some_fields h) = not_empty x p w token ts us c (by_next_field h)

by_part : {part : Part} {p : Pending} {w : Within} {token : Token} {ts us : List Token} {c : List Stmt} →
    AfterPart part p w (token ∷ ts) us c → Moves (m.inside part p w token) ts us c
unfolding m.inside m.signed m.ampersand m.next_formal m.formals m.object m.isa m.field_name m.resend m.resend_open m.resend_dots
by_part (r.wants_number h) = r.after_operand h
by_part (r.is_operand h) = by_called (r.is_operand h)
by_part (r.wants_arguments h) = by_called (r.wants_arguments h)
by_part (r.of_none h) = by_first_argument (r.of_none h)
by_part (r.of_some arguments h) = by_first_argument (r.of_some arguments h)
by_part (r.wants_formals h) = r.inside h
by_part (r.some_formals xs body) = by_first_formal xs body
by_part (r.more_formals more body) = by_more_formals more body
by_part (r.last_formal h) = by_formed (r.last_formal h)
by_part (r.next_formal few h) = by_formed (r.next_formal few h)
by_part (r.wants_body body) = r.wants_statement (body_of body)
by_part (r.wants_isa h) = r.inside h
by_part (r.wants_parent h) = r.inside h
by_part (r.is_new h) = by_parent (r.is_new h)
by_part (r.wants_fields h) = by_parent (r.wants_fields h)
by_part (r.no_fields h) = by_first_field (r.no_fields h)
by_part (r.some_fields h) = by_first_field (r.some_fields h)
by_part (r.more_fields more h) = by_next_field (r.more_fields more h)
by_part (r.wants_value v) = r.wants_operand (operand_of v)
by_part (r.wants_open h) = r.inside h
by_part (r.wants_dots h) = r.inside h
by_part (r.is_resend h) = r.after_operand h

-- the first statement that is wanted, and what follows it
first_of_statements : {b : Block} {before body c : List Stmt} {ts vs us : List Token} → before ≡ b.statements →
    IsStatements (block_scope b) before ts (k.Mark mk.CloseBlock ∷ vs) body → AfterBody b.levels body vs us c →
    (ws : List Token) × (a : Stmt) × IsStmt (block_scope b) ts ws a × AfterStatement a b ws us c
first_of_statements {b} {c = c} {vs = vs} {us = us} is (g.last {a = a} one) h =
    (_, a, one, r.ends (subst (λ l. AfterBody b.levels (l ++ a ∷ []) vs us c) is h))
first_of_statements {b} {c = c} {vs = vs} {us = us} is (g.last_semicolon {a = a} one) h =
    (_, a, one, r.semicolon_ends (subst (λ l. AfterBody b.levels (l ++ a ∷ []) vs us c) is h))
first_of_statements {b} {body = body} {vs = vs} is (g.next {vs = ws} {a = a} one other more) h =
    (_, a, one, r.goes_on other (subst (λ l. IsStatements (brings (block_scope b) a) (l ++ a ∷ []) ws (k.Mark mk.CloseBlock ∷ vs) body) is more) h)

-- a statement that begins as an expression
plain_first : (b : Block) (token : Token) (ts us : List Token) (c : List Stmt) →
    Moves (m.operand no_pending (as_statement Plain b) token) ts us c → Moves (m.statement b token) ts us c
unfolding m.statement m.operand
plain_first b (k.Word x) ts us c (r.inside h) = r.after_first (r.begins h)
plain_first b (k.Keyword kw.Let) ts us c h = absurd h
plain_first b (k.Mark mk.Caret) ts us c h = absurd h
plain_first b (k.Mark mk.CloseBlock) ts us c h = absurd h
plain_first b (k.Mark mk.Semicolon) ts us c h = absurd h
plain_first b _ ts us c h = h

by_stmt : {b : Block} {a : Stmt} {token : Token} {ts vs us : List Token} {c : List Stmt} →
    IsStmt (block_scope b) (token ∷ ts) vs a → AfterStatement a b vs us c → Moves (m.statement b token) ts us c
unfolding m.statement
by_stmt (g.let_of x new v) h = r.let_constant new (r.wants_becomes (_, _, v, r.stated h))
by_stmt (g.let_var x new v) h = r.let_variable (r.wants_name new (r.wants_becomes (_, _, v, r.stated h)))
by_stmt (g.set x variable v) h = r.after_first (r.changes variable (_, _, v, r.stated h))
by_stmt {b} {token = token} {ts = ts} {us = us} {c = c} (g.plain v) h = plain_first b token ts us c (by_operand (operand_of (_, _, v, r.stated h)))
by_stmt (g.back v) h = r.wants_operand (operand_of (_, _, v, r.stated h))

by_statement : {b : Block} {token : Token} {ts us : List Token} {c : List Stmt} →
    WantsStatement b (token ∷ ts) us c → Moves (m.statement b token) ts us c
unfolding m.statement m.semicolon
by_statement (r.none h) = closed_by h
by_statement {b} {us = us} {c = c} (r.semicolon {ts = ts} is h) =
    subst (λ l. Moves (m.semicolon l b) (k.Mark mk.CloseBlock ∷ ts) us c) (sym is) (r.wants_close (subst (λ l. AfterBody b.levels l ts us c) (sym is) h))
by_statement {b} (r.some more h) = let found = first_of_statements {b = b} refl more h in by_stmt found.2 found.3

unassigned : (b : Block) (x : Bytes) (token : Token) (ts us : List Token) (c : List Stmt) →
    Moves (m.called x no_pending (as_statement Plain b) token) ts us c → Moves (m.named b x token) ts us c
unfolding m.named m.called m.after_operand m.ended m.stated
unassigned b x (k.Mark mk.Becomes) ts us c h = absurd h
unassigned b x _ ts us c h = h

by_first : {b : Block} {x : Bytes} {token : Token} {ts us : List Token} {c : List Stmt} →
    AfterFirst b x (token ∷ ts) us c → Moves (m.named b x token) ts us c
unfolding m.named
by_first {b} {x} {ts = ts} {us = us} {c = c} (r.changes variable v) =
    subst (λ y. Moves (if y then On (st.Operand no_pending (as_statement (Changed x) b)) else Stuck) ts us c) (sym variable)
    (r.wants_operand (operand_of v))
by_first {b} {x} {token} {ts} {us} {c} (r.begins h) = unassigned b x token ts us c (by_called h)

by_fresh : (b : Block) (var : Bool) (x : Bytes) {ts us : List Token} {c : List Stmt} → is_bound (block_scope b) x ≡ false →
    Remains (st.Bound b var x) ts us c → Moves (m.fresh b var x) ts us c
unfolding m.fresh
by_fresh b var x {ts} {us} {c} new h = subst (λ y. Moves (if y then Stuck else On (st.Bound b var x)) ts us c) (sym new) h

-- What remains of a state before a token remains of where the token leads.
pub complete : {state : State} {token : Token} {ts us : List Token} {c : List Stmt} → Remains state (token ∷ ts) us c → Moves (m.step state token) ts us c
unfolding m.step m.after_let m.after_var m.bound m.closing
complete (r.wants_operand h) = by_operand h
complete (r.inside h) = by_part h
complete (r.after_operand {p = p} {a = a} {w = w} h) = by_after p a w.brackets w.kind w.block h
complete (r.wants_statement h) = by_statement h
complete (r.after_first h) = by_first h
complete (r.let_variable h) = h
complete (r.let_constant {b = b} {x = x} new h) = by_fresh b false x new h
complete (r.wants_name {b = b} {x = x} new h) = by_fresh b true x new h
complete (r.wants_becomes v) = r.wants_operand (operand_of v)
complete (r.wants_close h) = closed_by h
