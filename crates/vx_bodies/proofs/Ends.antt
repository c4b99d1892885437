-- Where bodies begin, that each state wants a token, and that all numbers are alike to it.
use Rattle.std.proofs.Common.{◌≡◌, ℕ, List, [], ◌∷◌, ◌++◌, append-nil, refl, sym, subst}
use Rattle.vx_syntax.specs.declared.token.Token.{Token}
use Rattle.vx_syntax.specs.declared.token.Token.TheVariants as k
use Rattle.vx_syntax.specs.declared.token.Mark.TheVariants as mk
use Rattle.vx_syntax.specs.declared.expr.Expr.{Expr}
use Rattle.vx_syntax.specs.declared.expr.Expr.TheVariants as e
use Rattle.vx_syntax.specs.declared.expr.Stmt.{Stmt}
use Rattle.vx_bodies.specs.declared.state.Pending.{Pending}
use Rattle.vx_bodies.specs.declared.state.Bracket.{Bracket}
use Rattle.vx_bodies.specs.declared.state.Bracket.TheVariants.{Paren, Arguments, Fields}
use Rattle.vx_bodies.specs.declared.state.Kind.{Kind}
use Rattle.vx_bodies.specs.declared.state.Block.{Block}
use Rattle.vx_bodies.specs.declared.state.Within.{Within}
use Rattle.vx_bodies.specs.declared.state.Part.{Part}
use Rattle.vx_bodies.specs.declared.state.Part.TheVariants as pt
use Rattle.vx_bodies.specs.declared.state.State.{State}
use Rattle.vx_bodies.specs.declared.state.State.TheVariants as st
use Rattle.vx_bodies.specs.declared.state.Next.TheVariants.{Stuck}
use Rattle.vx_syntax.specs.Expressions as g
use Rattle.vx_bodies.specs.Machine as m
use Rattle.vx_bodies.specs.Remains as r
use Rattle.vx_bodies.specs.Remains.{AfterOperand, AfterExpr, AfterStatement, AfterBody, AfterPart, WantsOperand, WantsExpr, WantsBody, WantsStatement, AfterFirst, Remains, Moves}
use Rattle.vx_syntax.specs.Expressions.{Bytes, Scope, IsExpr, IsPrim, IsArguments, IsFields, IsFormals, IsMoreFormals, IsBody, IsStatements, IsStmt}
use Rattle.vx_bodies.specs.Machine.{made, within, begun}

-- a body with nothing outside it
body_begins : {declared : Scope} {ts us : List Token} {c : List Stmt} → IsBody (declared ++ []) ts (k.Mark mk.CloseBlock ∷ us) c →
    WantsStatement (record { levels = []; declared = declared; statements = [] }) ts us c
body_begins g.empty = r.none r.whole
body_begins g.only_semicolon = r.semicolon refl r.whole
body_begins (g.statements more) = r.some more r.whole

body_began : {declared : Scope} {ts us : List Token} {c : List Stmt} → WantsStatement (record { levels = []; declared = declared; statements = [] }) ts us c →
    IsBody (declared ++ []) ts (k.Mark mk.CloseBlock ∷ us) c
body_began (r.none r.whole) = g.empty
body_began (r.semicolon is r.whole) = g.only_semicolon
body_began (r.some more r.whole) = g.statements more

statement_begun : {b : Block} {ts us : List Token} {c : List Stmt} → Remains (st.Statement b) ts us c → WantsStatement b ts us c
statement_begun (r.wants_statement h) = h

-- What a body is remains where it begins.
pub begins : (scope : Scope) (ts us : List Token) (c : List Stmt) → IsBody scope ts (k.Mark mk.CloseBlock ∷ us) c → Remains (begun scope) ts us c
unfolding begun
begins scope ts us c h = r.wants_statement (body_begins (subst (λ s. IsBody s ts (k.Mark mk.CloseBlock ∷ us) c) (sym (append-nil scope)) h))

-- What remains where a body begins is a body.
pub began : (scope : Scope) (ts us : List Token) (c : List Stmt) → Remains (begun scope) ts us c → IsBody scope ts (k.Mark mk.CloseBlock ∷ us) c
unfolding begun
began scope ts us c h = subst (λ s. IsBody s ts (k.Mark mk.CloseBlock ∷ us) c) (append-nil scope) (body_began (statement_begun h))

no_prim : {scope : Scope} {v : Expr} {us : List Token} → IsPrim scope [] us v → ⊥
no_prim h = elim h [ ]

no_expr : {scope : Scope} {v : Expr} {us : List Token} → IsExpr scope [] us v → ⊥
no_expr (g.expr (g.sum_of (g.product_of prim products) sums) compares) = no_prim prim

no_statement : {b : Block} {a : Stmt} {us : List Token} {c : List Stmt} → AfterStatement a b [] us c → ⊥
no_statement h = elim h [ ]

not_after_expr : {bs : List Bracket} {kind : Kind} {b : Block} {v : Expr} {us : List Token} {c : List Stmt} → AfterExpr bs kind b v [] us c → ⊥
not_after_expr (r.stated h) = no_statement h

not_after : {p : Pending} {a : Expr} {w : Within} {us : List Token} {c : List Stmt} → AfterOperand p a w [] us c → ⊥
not_after (r.after g.no_more_products g.no_more_sums g.no_more_compares h) = not_after_expr h

no_arguments : {scope : Scope} {given arguments : List Expr} {us : List Token} → IsArguments scope given [] us arguments → ⊥
no_arguments (g.last_argument one) = no_expr one
no_arguments (g.next_argument one few more) = no_expr one

no_fields : {scope : Scope} {given fields : List (Bytes × Expr)} {us : List Token} → IsFields scope given [] us fields → ⊥
no_fields h = elim h [ ]

no_more_formals : {scope : Scope} {given xs : List Bytes} {us : List Token} → IsMoreFormals scope given [] us xs → ⊥
no_more_formals h = elim h [ ]

no_formals : {scope : Scope} {xs : List Bytes} {us : List Token} → IsFormals scope [] us xs → ⊥
no_formals (g.formals more) = no_more_formals more

not_next_field : {x : Bytes} {given : List (Bytes × Expr)} {p : Pending} {w : Within} {us : List Token} {c : List Stmt} → AfterPart (pt.Field x given) p w [] us c → ⊥
not_next_field (r.more_fields fields h) = no_fields fields

not_inside : {part : Part} {p : Pending} {w : Within} {us : List Token} {c : List Stmt} → AfterPart part p w [] us c → ⊥
not_inside (r.is_operand h) = not_after h
not_inside (r.of_some arguments h) = no_arguments arguments
not_inside (r.some_formals xs body) = no_formals xs
not_inside (r.more_formals xs body) = no_more_formals xs
not_inside (r.is_new h) = not_after h
not_inside (r.some_fields h) = not_next_field h
not_inside (r.more_fields fields h) = no_fields fields

no_stmt : {scope : Scope} {a : Stmt} {us : List Token} → IsStmt scope [] us a → ⊥
no_stmt (g.plain one) = no_expr one

no_statements : {scope : Scope} {before body : List Stmt} {us : List Token} → IsStatements scope before [] us body → ⊥
no_statements (g.last one) = no_stmt one
no_statements (g.last_semicolon one) = no_stmt one
no_statements (g.next one other more) = no_stmt one

not_block : {b : Block} {us : List Token} {c : List Stmt} → WantsStatement b [] us c → ⊥
not_block (r.some more h) = no_statements more

not_first : {b : Block} {x : Bytes} {us : List Token} {c : List Stmt} → AfterFirst b x [] us c → ⊥
not_first (r.begins h) = not_inside h

-- Each state wants a token.
pub wants : (state : State) (us : List Token) (c : List Stmt) → Remains state [] us c → ⊥
wants state us c (r.wants_operand h) = no_prim h.2
wants state us c (r.inside h) = not_inside h
wants state us c (r.after_operand h) = not_after h
wants state us c (r.wants_statement h) = not_block h
wants state us c (r.after_first h) = not_first h

-- no number ends an expression
ended_number : (bs : List Bracket) (kind : Kind) (b : Block) (v : Expr) (n : ℕ) → m.ended bs kind b v (k.Number n) ≡ Stuck
unfolding m.ended m.stated
ended_number [] kind b v n = refl
ended_number (Paren p ∷ bs) kind b v n = refl
ended_number (Arguments p x given ∷ bs) kind b v n = refl
ended_number (Fields p x given f ∷ bs) kind b v n = refl

after_number : (p : Pending) (a : Expr) (w : Within) (n : ℕ) → m.after_operand p a w (k.Number n) ≡ Stuck
unfolding m.after_operand
after_number p a w n = ended_number w.brackets w.kind w.block _ n

part_number : (part : Part) (p : Pending) (w : Within) (i n : ℕ) → m.inside part p w (k.Number i) ≡ Stuck → m.inside part p w (k.Number n) ≡ Stuck
unfolding m.inside m.signed m.called m.first_argument m.operand m.ampersand m.first_formal m.next_formal m.formed m.formals m.object m.isa m.parent m.first_field m.next_field m.field_name m.resend m.resend_open m.resend_dots
part_number pt.Signed p w i n h = absurd (cc h)
part_number (pt.Called x) p w i n h = after_number p (e.Name x) w n
part_number (pt.FirstArgument x) p w i n h = absurd (cc h)
part_number (pt.Parent x) p w i n h = after_number p (e.New x []) w n
part_number _ p w i n h = refl

-- Whether a number goes on does not depend on the number.
pub takes_number : (state : State) (i n : ℕ) → m.step state (k.Number i) ≡ Stuck → m.step state (k.Number n) ≡ Stuck
unfolding m.step m.operand m.statement m.named m.called m.after_let m.after_var m.bound m.closing
takes_number (st.Operand p w) i n h = absurd (cc h)
takes_number (st.Inside part p w) i n h = part_number part p w i n h
takes_number (st.Operated p a w) i n h = after_number p a w n
takes_number (st.Statement b) i n h = absurd (cc h)
takes_number (st.Named b x) i n h = after_number _ (e.Name x) _ n
takes_number _ i n h = refl
