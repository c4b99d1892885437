-- Each state can be finished.
use Rattle.std.proofs.Common.{◌≡◌, ◌≤◌, ◌<◌, ◌^◌, pos, neg_ℤ, Bool, true, false, List, [], ◌∷◌, ◌++◌, length, arith}
use Rattle.std.specs.List.{AllByRecursion}
use Rattle.vx_syntax.specs.declared.token.Token.{Token}
use Rattle.vx_syntax.specs.declared.token.Token.TheVariants as k
use Rattle.vx_syntax.specs.declared.token.Keyword.TheVariants as kw
use Rattle.vx_syntax.specs.declared.token.Mark.TheVariants as mk
use Rattle.vx_syntax.specs.declared.expr.Expr.{Expr}
use Rattle.vx_syntax.specs.declared.expr.Expr.TheVariants as e
use Rattle.vx_syntax.specs.declared.expr.Stmt.{Stmt}
use Rattle.vx_bodies.specs.declared.state.Pending.{Pending}
use Rattle.vx_bodies.specs.declared.state.Bracket.{Bracket}
use Rattle.vx_bodies.specs.declared.state.Bracket.TheVariants.{Paren, Arguments, Fields}
use Rattle.vx_bodies.specs.declared.state.Kind.{Kind}
use Rattle.vx_bodies.specs.declared.state.Kind.TheVariants.{Value, Plain}
use Rattle.vx_bodies.specs.declared.state.Level.{Level}
use Rattle.vx_bodies.specs.declared.state.Block.{Block}
use Rattle.vx_bodies.specs.declared.state.Within.{Within}
use Rattle.vx_bodies.specs.declared.state.Part.{Part}
use Rattle.vx_bodies.specs.declared.state.Part.TheVariants as pt
use Rattle.vx_bodies.specs.declared.state.State.{State}
use Rattle.vx_bodies.specs.declared.state.State.TheVariants as st
use Rattle.vx_syntax.specs.Expressions as g
use Rattle.vx_bodies.specs.Remains as r
use Rattle.vx_bodies.specs.Remains.{AfterOperand, AfterExpr, AfterStatement, AfterBody, AfterPart, WantsOperand, WantsExpr, WantsBody, WantsStatement, AfterFirst, Remains, Moves}
use Rattle.vx_syntax.specs.Words.{IsToken}
use Rattle.vx_syntax.specs.Expressions.{Bytes, is_bound, with_formals, field_names}
use Rattle.vx_bodies.specs.Machine.{no_pending, block_scope, scope_in, made, sent, within, bracketed, as_statement, value, scope_of}
use Rattle.vx_bodies.proofs.Sound.{expr_of, formals_then, fields_then}
use Rattle.vx_bodies.proofs.Fresh.{fresh_word, fresh_name}
use Rattle.vx_bodies.proofs.Counts.{count, counted, fields_length, formals_length, scope_length}

-- tokens that finish what is wanted, whatever follows
record Finish (Wants : List Token → List Token → List Stmt → Type 0) : Type 0 where
  tokens : List Token
  body : List Stmt
  each : AllByRecursion IsToken tokens
  finishes : (us : List Token) → Wants (tokens ++ us) us body

then_token : {A B : List Token → List Token → List Stmt → Type 0} (token : Token) → IsToken token →
    ((ts us : List Token) (c : List Stmt) → A ts us c → B (token ∷ ts) us c) → Finish A → Finish B
then_token token is f found =
    record { tokens = token ∷ found.tokens; body = found.body; each = (is, found.each); finishes = λ us. f _ us _ (found.finishes us) }

as_is : {A B : List Token → List Token → List Stmt → Type 0} → ((ts us : List Token) (c : List Stmt) → A ts us c → B ts us c) → Finish A → Finish B
as_is f found = record { tokens = found.tokens; body = found.body; each = found.each; finishes = λ us. f _ us _ (found.finishes us) }

operand_ends : (p : Pending) (a : Expr) (bs : List Bracket) (kind : Kind) (b : Block) → Finish (AfterExpr bs kind b (value p a)) →
    Finish (AfterOperand p a (within bs kind b))
operand_ends p a bs kind b found = as_is (λ ts us c h. r.after g.no_more_products g.no_more_sums g.no_more_compares h) found

finish_expr : (bs : List Bracket) (kind : Kind) (b : Block) (v : Expr) → ((body : List Stmt) → Finish (AfterBody b.levels body)) → Finish (AfterExpr bs kind b v)
finish_expr [] kind b v ends = then_token (k.Mark mk.CloseBlock) tt (λ ts us c h. r.stated (r.ends {b = b} h)) (ends (b.statements ++ made kind v ∷ []))
finish_expr (Paren p ∷ bs) kind b v ends =
    then_token (k.Mark mk.Close) tt (λ ts us c h. r.close_paren h) (operand_ends p v bs kind b (finish_expr bs kind b (value p v) ends))
finish_expr (Arguments p x given ∷ bs) kind b v ends =
    let call = sent x (given ++ v ∷ []) in
    then_token (k.Mark mk.Close) tt (λ ts us c h. r.close_arguments h) (operand_ends p call bs kind b (finish_expr bs kind b (value p call) ends))
finish_expr (Fields p x given f ∷ bs) kind b v ends =
    let new = e.New x (given ++ (f, v) ∷ []) in
    then_token (k.Mark mk.CloseBlock) tt (λ ts us c h. r.close_fields h) (operand_ends p new bs kind b (finish_expr bs kind b (value p new) ends))

finish_body : (ls : List Level) (body : List Stmt) → Finish (AfterBody ls body)
finish_body [] body = record { tokens = []; body = body; each = tt; finishes = λ us. r.whole }
finish_body (l ∷ ls) body =
    let b : Block = record { levels = ls; declared = l.declared; statements = l.statements } in
    let v = e.Closure l.formals (record { 0 = body }) in
    as_is (λ ts us c h. r.closure h)
    (operand_ends l.pending v l.brackets l.kind b (finish_expr l.brackets l.kind b (value l.pending v) (λ inner. finish_body ls inner)))

finish_operand : (p : Pending) (a : Expr) (w : Within) → Finish (AfterOperand p a w)
finish_operand p a w = operand_ends p a w.brackets w.kind w.block (finish_expr w.brackets w.kind w.block (value p a) (λ body. finish_body w.block.levels body))

operand_finish : (p : Pending) (w : Within) → Finish (WantsOperand p w)
operand_finish p w = then_token (k.Number 0) (omega arith) (λ ts us c h. (_, _, g.number 0, h)) (finish_operand p (e.Int (pos 0)) w)

expr_finish : (w : Within) → Finish (WantsExpr w)
expr_finish w = as_is (λ ts us c h. expr_of h) (operand_finish no_pending w)

-- the body of a closure, without statements
body_finish : (xs : List Bytes) (p : Pending) (w : Within) → Finish (WantsBody xs p w)
body_finish xs p w = then_token (k.Mark mk.CloseBlock) tt (λ ts us c h. (_, _, g.empty, h)) (finish_operand p (e.Closure xs (record { 0 = [] })) w)

formals_finish : (xs : List Bytes) (p : Pending) (w : Within) → Finish (AfterPart (pt.Formals xs) p w)
formals_finish xs p w = then_token (k.Mark mk.OpenBlock) tt (λ ts us c h. r.wants_body h) (body_finish xs p w)

no_formals : {p : Pending} {w : Within} {ts us : List Token} {c : List Stmt} → AfterPart (pt.Formals []) p w ts us c →
    AfterPart pt.FirstFormal p w (k.Mark mk.Close ∷ ts) us c
no_formals (r.wants_body body) = r.some_formals g.no_formals body

first_formal_finish : (p : Pending) (w : Within) → Finish (AfterPart pt.FirstFormal p w)
first_formal_finish p w = then_token (k.Mark mk.Close) tt (λ ts us c h. no_formals h) (formals_finish [] p w)

formed_finish : (given : List Bytes) (x : Bytes) (p : Pending) (w : Within) → Finish (AfterPart (pt.Formed given x) p w)
formed_finish given x p w = then_token (k.Mark mk.Close) tt (λ ts us c h. r.last_formal h) (formals_finish (given ++ x ∷ []) p w)

named_formal : {given : List Bytes} {x : Bytes} {p : Pending} {w : Within} {ts us : List Token} {c : List Stmt} → is_bound (with_formals (scope_in w) given) x ≡ false →
    AfterPart (pt.Formed given x) p w ts us c → AfterPart (pt.Formal given) p w (k.Word x ∷ ts) us c
named_formal new h = let found = formals_then new h in r.more_formals found.2 found.3

formal_finish : (given : List Bytes) (p : Pending) (w : Within) → length (with_formals (scope_in w) given) < 2 ^ 64 → Finish (AfterPart (pt.Formal given) p w)
formal_finish given p w few =
    let new = fresh_name (with_formals (scope_in w) given) few in
    then_token (k.Word new.0) new.1 (λ ts us c h. named_formal new.2 h) (formed_finish given new.0 p w)

parent_finish : (x : Bytes) (p : Pending) (w : Within) → Finish (AfterPart (pt.Parent x) p w)
parent_finish x p w = as_is (λ ts us c h. r.is_new h) (finish_operand p (e.New x []) w)

isa_finish : (p : Pending) (w : Within) → Finish (AfterPart pt.Isa p w)
isa_finish p w = let some = fresh_word [] (omega arith) in then_token (k.Word some.0) some.1.word (λ ts us c h. r.wants_parent h) (parent_finish some.0 p w)

field_name_finish : (x : Bytes) (given : List (Bytes × Expr)) (f : Bytes) (p : Pending) (w : Within) → Finish (AfterPart (pt.FieldName x given f) p w)
field_name_finish x given f p w = then_token (k.Mark mk.Becomes) tt (λ ts us c h. r.wants_value h) (expr_finish (bracketed (Fields p x given f) w))

named_field : {x f : Bytes} {given : List (Bytes × Expr)} {p : Pending} {w : Within} {ts us : List Token} {c : List Stmt} → length f ≤ g.max_field_bytes →
    g.is_among (field_names given) f ≡ false → AfterPart (pt.FieldName x given f) p w ts us c → AfterPart (pt.Field x given) p w (k.Word f ∷ ts) us c
named_field {w = w} short new (r.wants_value v) =
    let found = fields_then {bs = w.brackets} {kind = w.kind} {b = w.block} short new v in r.more_fields found.2 found.3

field_finish : (x : Bytes) (given : List (Bytes × Expr)) (p : Pending) (w : Within) → length given < 2 ^ 64 → Finish (AfterPart (pt.Field x given) p w)
field_finish x given p w few =
    let new = fresh_word (field_names given) (omega (arith, fields_length given)) in
    then_token (k.Word new.0) new.1.word (λ ts us c h. named_field new.1.short new.1.new h) (field_name_finish x given new.0 p w)

dots_finish : (p : Pending) (w : Within) → Finish (AfterPart pt.ResendDots p w)
dots_finish p w = then_token (k.Mark mk.Close) tt (λ ts us c h. r.is_resend h) (finish_operand p e.Resend w)

resend_finish : (p : Pending) (w : Within) → Finish (AfterPart pt.ResendOpen p w)
resend_finish p w = then_token (k.Mark mk.Dots) tt (λ ts us c h. r.wants_dots h) (dots_finish p w)

part_finish : (part : Part) (p : Pending) (w : Within) → count (st.Inside part p w) < 2 ^ 64 → Finish (AfterPart part p w)
part_finish pt.Signed p w few = then_token (k.Number 0) (omega arith) (λ ts us c h. r.wants_number {n = 0} h) (finish_operand p (e.Int (neg_ℤ (pos 0))) w)
part_finish (pt.Called x) p w few = as_is (λ ts us c h. r.is_operand h) (finish_operand p (e.Name x) w)
part_finish (pt.FirstArgument x) p w few = then_token (k.Mark mk.Close) tt (λ ts us c h. r.of_none h) (finish_operand p (sent x []) w)
part_finish pt.Ampersand p w few = then_token (k.Mark mk.Open) tt (λ ts us c h. r.wants_formals h) (first_formal_finish p w)
part_finish pt.FirstFormal p w few = first_formal_finish p w
part_finish (pt.Formal given) p w few = formal_finish given p w (omega (arith, formals_length (scope_in w) given, scope_length w.block))
part_finish (pt.Formed given x) p w few = formed_finish given x p w
part_finish (pt.Formals xs) p w few = formals_finish xs p w
part_finish pt.Object p w few = then_token (k.Keyword kw.Isa) tt (λ ts us c h. r.wants_isa h) (isa_finish p w)
part_finish pt.Isa p w few = isa_finish p w
part_finish (pt.Parent x) p w few = parent_finish x p w
part_finish (pt.FirstField x) p w few = then_token (k.Mark mk.CloseBlock) tt (λ ts us c h. r.no_fields h) (finish_operand p (e.New x []) w)
part_finish (pt.Field x given) p w few = field_finish x given p w (omega arith)
part_finish (pt.FieldName x given f) p w few = field_name_finish x given f p w
part_finish pt.Resend p w few = then_token (k.Mark mk.Open) tt (λ ts us c h. r.wants_open h) (resend_finish p w)
part_finish pt.ResendOpen p w few = resend_finish p w
part_finish pt.ResendDots p w few = dots_finish p w

bound_finish : (b : Block) (var : Bool) (x : Bytes) → Finish (Remains (st.Bound b var x))
bound_finish b var x = then_token (k.Mark mk.Becomes) tt (λ ts us c h. r.wants_becomes h) (expr_finish (as_statement (Value var x) b))

state_finish : (state : State) → count state < 2 ^ 64 → Finish (Remains state)
state_finish (st.Operand p w) few = as_is (λ ts us c h. r.wants_operand h) (operand_finish p w)
state_finish (st.Inside part p w) few = as_is (λ ts us c h. r.inside h) (part_finish part p w few)
state_finish (st.Operated p a w) few = as_is (λ ts us c h. r.after_operand h) (finish_operand p a w)
state_finish (st.Statement b) few = then_token (k.Mark mk.CloseBlock) tt (λ ts us c h. r.wants_statement (r.none h)) (finish_body b.levels b.statements)
state_finish (st.Named b x) few = as_is (λ ts us c h. r.after_first (r.begins (r.is_operand h))) (finish_operand no_pending (e.Name x) (as_statement Plain b))
state_finish (st.Let b) few =
    let new = fresh_name (block_scope b) (omega (arith, scope_length b)) in
    then_token (k.Word new.0) new.1 (λ ts us c h. r.let_constant new.2 h) (bound_finish b false new.0)
state_finish (st.LetVar b) few =
    let new = fresh_name (block_scope b) (omega (arith, scope_length b)) in
    then_token (k.Word new.0) new.1 (λ ts us c h. r.wants_name new.2 h) (bound_finish b true new.0)
state_finish (st.Bound b var x) few = bound_finish b var x
state_finish (st.Closing b) few = then_token (k.Mark mk.CloseBlock) tt (λ ts us c h. r.wants_close h) (finish_body b.levels b.statements)

-- Each state that holds fewer than 2 ^ 64 names can be finished.
pub finish : (state : State) → length (scope_of state) < 2 ^ 64 →
    (more : List Token) × (body : List Stmt) × AllByRecursion IsToken more × ((us : List Token) → Remains state (more ++ us) us body)
finish state few =
    let found = state_finish state (omega (arith, counted state)) in
    (found.tokens, found.body, found.each, found.finishes)
