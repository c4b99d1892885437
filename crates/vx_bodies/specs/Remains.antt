-- What each state still wants: `Remains s ts us body` says that the tokens ts finish what s has begun, that the whole
-- body means `body`, and that the tokens us follow its closing `}`.
use Rattle.std.specs.Prelude.{◌≡◌, ◌<◌, ◌+◌, ℕ, pos, neg_ℤ, Bool, true, false, List, [], ◌∷◌, ◌++◌, length}
use Rattle.vx_syntax.specs.declared.token.Token.{Token}
use Rattle.vx_syntax.specs.declared.token.Token.TheVariants as k
use Rattle.vx_syntax.specs.declared.token.Keyword.TheVariants as kw
use Rattle.vx_syntax.specs.declared.token.Mark.TheVariants as mk
use Rattle.vx_syntax.specs.declared.expr.Expr.{Expr}
use Rattle.vx_syntax.specs.declared.expr.Expr.TheVariants as e
use Rattle.vx_syntax.specs.declared.expr.Stmt.{Stmt}
use Rattle.vx_syntax.specs.Expressions.{Bytes, is_bound, is_variable, is_back, brings, with_formals, max_arguments, max_closure_formals, IsExpr, IsMoreCompares, IsMoreSums, IsMoreProducts, IsPrim, IsArguments, IsFields, IsFormals, IsMoreFormals, IsBody, IsStatements}
use Rattle.vx_bodies.specs.declared.state.Pending.{Pending}
use Rattle.vx_bodies.specs.declared.state.Bracket.{Bracket}
use Rattle.vx_bodies.specs.declared.state.Bracket.TheVariants.{Paren, Arguments, Fields}
use Rattle.vx_bodies.specs.declared.state.Kind.{Kind}
use Rattle.vx_bodies.specs.declared.state.Kind.TheVariants.{Value, Changed, Plain}
use Rattle.vx_bodies.specs.declared.state.Level.{Level}
use Rattle.vx_bodies.specs.declared.state.Block.{Block}
use Rattle.vx_bodies.specs.declared.state.Within.{Within}
use Rattle.vx_bodies.specs.declared.state.Part.{Part}
use Rattle.vx_bodies.specs.declared.state.Part.TheVariants as pt
use Rattle.vx_bodies.specs.declared.state.State.{State}
use Rattle.vx_bodies.specs.declared.state.State.TheVariants as st
use Rattle.vx_bodies.specs.declared.state.Next.{Next}
use Rattle.vx_bodies.specs.declared.state.Next.TheVariants.{Stuck, On, Done}
use Rattle.vx_bodies.specs.Machine.{joined, no_pending, block_scope, scope_in, made, as_statement, within, bracketed, sent}

mutual
  -- after an operand that means a
  pub data AfterOperand : Pending → Expr → Within → List Token → List Token → List Stmt → Type 0 where
    after : {p : Pending} {a x y z : Expr} {w : Within} {ts vs ws rs us : List Token} {c : List Stmt} →
        IsMoreProducts (scope_in w) (joined p.multiplying a) ts vs x → IsMoreSums (scope_in w) (joined p.adding x) vs ws y →
        IsMoreCompares (scope_in w) (joined p.comparing y) ws rs z → AfterExpr w.brackets w.kind w.block z rs us c →
        AfterOperand p a w ts us c

  -- after an expression that means v
  pub data AfterExpr : List Bracket → Kind → Block → Expr → List Token → List Token → List Stmt → Type 0 where
    close_paren : {p : Pending} {bs : List Bracket} {kind : Kind} {b : Block} {v : Expr} {ts us : List Token} {c : List Stmt} →
        AfterOperand p v (within bs kind b) ts us c → AfterExpr (Paren p ∷ bs) kind b v (k.Mark mk.Close ∷ ts) us c
    close_arguments : {p : Pending} {x : Bytes} {given : List Expr} {bs : List Bracket} {kind : Kind} {b : Block} {v : Expr} {ts us : List Token} {c : List Stmt} →
        AfterOperand p (sent x (given ++ v ∷ [])) (within bs kind b) ts us c →
        AfterExpr (Arguments p x given ∷ bs) kind b v (k.Mark mk.Close ∷ ts) us c
    another : {p : Pending} {x : Bytes} {given arguments : List Expr} {bs : List Bracket} {kind : Kind} {b : Block} {v : Expr} {ts vs us : List Token} {c : List Stmt} →
        length given + 1 < max_arguments → IsArguments (block_scope b) (given ++ v ∷ []) ts vs arguments →
        AfterOperand p (sent x arguments) (within bs kind b) vs us c →
        AfterExpr (Arguments p x given ∷ bs) kind b v (k.Mark mk.Comma ∷ ts) us c
    close_fields : {p : Pending} {x f : Bytes} {given : List (Bytes × Expr)} {bs : List Bracket} {kind : Kind} {b : Block} {v : Expr} {ts us : List Token} {c : List Stmt} →
        AfterOperand p (e.New x (given ++ (f, v) ∷ [])) (within bs kind b) ts us c →
        AfterExpr (Fields p x given f ∷ bs) kind b v (k.Mark mk.CloseBlock ∷ ts) us c
    another_field : {p : Pending} {x f : Bytes} {given fields : List (Bytes × Expr)} {bs : List Bracket} {kind : Kind} {b : Block} {v : Expr} {ts vs us : List Token} {c : List Stmt} →
        IsFields (block_scope b) (given ++ (f, v) ∷ []) ts vs fields → AfterOperand p (e.New x fields) (within bs kind b) vs us c →
        AfterExpr (Fields p x given f ∷ bs) kind b v (k.Mark mk.Comma ∷ ts) us c
    stated : {kind : Kind} {b : Block} {v : Expr} {ts us : List Token} {c : List Stmt} →
        AfterStatement (made kind v) b ts us c → AfterExpr [] kind b v ts us c

  -- after a statement
  pub data AfterStatement : Stmt → Block → List Token → List Token → List Stmt → Type 0 where
    ends : {a : Stmt} {b : Block} {ts us : List Token} {c : List Stmt} → AfterBody b.levels (b.statements ++ a ∷ []) ts us c →
        AfterStatement a b (k.Mark mk.CloseBlock ∷ ts) us c
    semicolon_ends : {a : Stmt} {b : Block} {ts us : List Token} {c : List Stmt} → AfterBody b.levels (b.statements ++ a ∷ []) ts us c →
        AfterStatement a b (k.Mark mk.Semicolon ∷ k.Mark mk.CloseBlock ∷ ts) us c
    goes_on : {a : Stmt} {b : Block} {ts vs us : List Token} {body c : List Stmt} → is_back a ≡ false →
        IsStatements (brings (block_scope b) a) (b.statements ++ a ∷ []) ts (k.Mark mk.CloseBlock ∷ vs) body →
        AfterBody b.levels body vs us c → AfterStatement a b (k.Mark mk.Semicolon ∷ ts) us c

  -- after the `}` of a body
  pub data AfterBody : List Level → List Stmt → List Token → List Token → List Stmt → Type 0 where
    whole : {body : List Stmt} {us : List Token} → AfterBody [] body us us body
    closure : {l : Level} {ls : List Level} {body c : List Stmt} {ts us : List Token} →
        AfterOperand l.pending (e.Closure l.formals (record { 0 = body }))
        (within l.brackets l.kind (record { levels = ls; declared = l.declared; statements = l.statements })) ts us c →
        AfterBody (l ∷ ls) body ts us c

-- an operand, and what follows it
abbrev pub WantsOperand : Pending → Within → List Token → List Token → List Stmt → Type 0
WantsOperand p w ts us c = (vs : List Token) × (a : Expr) × IsPrim (scope_in w) ts vs a × AfterOperand p a w vs us c

-- an expression, and what follows it
abbrev pub WantsExpr : Within → List Token → List Token → List Stmt → Type 0
WantsExpr w ts us c = (vs : List Token) × (a : Expr) × IsExpr (scope_in w) ts vs a × AfterExpr w.brackets w.kind w.block a vs us c

-- the body of a closure with these formals, and what follows it
abbrev pub WantsBody : List Bytes → Pending → Within → List Token → List Token → List Stmt → Type 0
WantsBody formals p w ts us c = (vs : List Token) × (body : List Stmt) × IsBody (with_formals (scope_in w) formals) ts (k.Mark mk.CloseBlock ∷ vs) body ×
    AfterOperand p (e.Closure formals (record { 0 = body })) w vs us c

-- where an operand has begun
pub data AfterPart : Part → Pending → Within → List Token → List Token → List Stmt → Type 0 where
  wants_number : {p : Pending} {w : Within} {n : ℕ} {ts us : List Token} {c : List Stmt} → AfterOperand p (e.Int (neg_ℤ (pos n))) w ts us c →
      AfterPart pt.Signed p w (k.Number n ∷ ts) us c
  is_operand : {x : Bytes} {p : Pending} {w : Within} {ts us : List Token} {c : List Stmt} → AfterOperand p (e.Name x) w ts us c →
      AfterPart (pt.Called x) p w ts us c
  wants_arguments : {x : Bytes} {p : Pending} {w : Within} {ts us : List Token} {c : List Stmt} → AfterPart (pt.FirstArgument x) p w ts us c →
      AfterPart (pt.Called x) p w (k.Mark mk.Open ∷ ts) us c
  of_none : {x : Bytes} {p : Pending} {w : Within} {ts us : List Token} {c : List Stmt} → AfterOperand p (sent x []) w ts us c →
      AfterPart (pt.FirstArgument x) p w (k.Mark mk.Close ∷ ts) us c
  of_some : {x : Bytes} {p : Pending} {w : Within} {arguments : List Expr} {ts vs us : List Token} {c : List Stmt} →
      IsArguments (scope_in w) [] ts vs arguments → AfterOperand p (sent x arguments) w vs us c → AfterPart (pt.FirstArgument x) p w ts us c
  wants_formals : {p : Pending} {w : Within} {ts us : List Token} {c : List Stmt} → AfterPart pt.FirstFormal p w ts us c →
      AfterPart pt.Ampersand p w (k.Mark mk.Open ∷ ts) us c
  some_formals : {p : Pending} {w : Within} {formals : List Bytes} {ts vs us : List Token} {c : List Stmt} →
      IsFormals (scope_in w) ts (k.Mark mk.OpenBlock ∷ vs) formals → WantsBody formals p w vs us c → AfterPart pt.FirstFormal p w ts us c
  more_formals : {given : List Bytes} {p : Pending} {w : Within} {formals : List Bytes} {ts vs us : List Token} {c : List Stmt} →
      IsMoreFormals (scope_in w) given ts (k.Mark mk.OpenBlock ∷ vs) formals → WantsBody formals p w vs us c → AfterPart (pt.Formal given) p w ts us c
  last_formal : {given : List Bytes} {x : Bytes} {p : Pending} {w : Within} {ts us : List Token} {c : List Stmt} →
      AfterPart (pt.Formals (given ++ x ∷ [])) p w ts us c → AfterPart (pt.Formed given x) p w (k.Mark mk.Close ∷ ts) us c
  next_formal : {given : List Bytes} {x : Bytes} {p : Pending} {w : Within} {ts us : List Token} {c : List Stmt} →
      length given + 1 < max_closure_formals → AfterPart (pt.Formal (given ++ x ∷ [])) p w ts us c →
      AfterPart (pt.Formed given x) p w (k.Mark mk.Comma ∷ ts) us c
  wants_body : {formals : List Bytes} {p : Pending} {w : Within} {ts us : List Token} {c : List Stmt} → WantsBody formals p w ts us c →
      AfterPart (pt.Formals formals) p w (k.Mark mk.OpenBlock ∷ ts) us c
  wants_isa : {p : Pending} {w : Within} {ts us : List Token} {c : List Stmt} → AfterPart pt.Isa p w ts us c →
      AfterPart pt.Object p w (k.Keyword kw.Isa ∷ ts) us c
  wants_parent : {x : Bytes} {p : Pending} {w : Within} {ts us : List Token} {c : List Stmt} → AfterPart (pt.Parent x) p w ts us c →
      AfterPart pt.Isa p w (k.Word x ∷ ts) us c
  is_new : {x : Bytes} {p : Pending} {w : Within} {ts us : List Token} {c : List Stmt} → AfterOperand p (e.New x []) w ts us c →
      AfterPart (pt.Parent x) p w ts us c
  wants_fields : {x : Bytes} {p : Pending} {w : Within} {ts us : List Token} {c : List Stmt} → AfterPart (pt.FirstField x) p w ts us c →
      AfterPart (pt.Parent x) p w (k.Mark mk.OpenBlock ∷ ts) us c
  no_fields : {x : Bytes} {p : Pending} {w : Within} {ts us : List Token} {c : List Stmt} → AfterOperand p (e.New x []) w ts us c →
      AfterPart (pt.FirstField x) p w (k.Mark mk.CloseBlock ∷ ts) us c
  some_fields : {x : Bytes} {p : Pending} {w : Within} {ts us : List Token} {c : List Stmt} → AfterPart (pt.Field x []) p w ts us c →
      AfterPart (pt.FirstField x) p w ts us c
  more_fields : {x : Bytes} {given fields : List (Bytes × Expr)} {p : Pending} {w : Within} {ts vs us : List Token} {c : List Stmt} →
      IsFields (scope_in w) given ts vs fields → AfterOperand p (e.New x fields) w vs us c → AfterPart (pt.Field x given) p w ts us c
  wants_value : {x f : Bytes} {given : List (Bytes × Expr)} {p : Pending} {w : Within} {ts us : List Token} {c : List Stmt} →
      WantsExpr (bracketed (Fields p x given f) w) ts us c → AfterPart (pt.FieldName x given f) p w (k.Mark mk.Becomes ∷ ts) us c
  wants_open : {p : Pending} {w : Within} {ts us : List Token} {c : List Stmt} → AfterPart pt.ResendOpen p w ts us c →
      AfterPart pt.Resend p w (k.Mark mk.Open ∷ ts) us c
  wants_dots : {p : Pending} {w : Within} {ts us : List Token} {c : List Stmt} → AfterPart pt.ResendDots p w ts us c →
      AfterPart pt.ResendOpen p w (k.Mark mk.Dots ∷ ts) us c
  is_resend : {p : Pending} {w : Within} {ts us : List Token} {c : List Stmt} → AfterOperand p e.Resend w ts us c →
      AfterPart pt.ResendDots p w (k.Mark mk.Close ∷ ts) us c

-- after the statements of a block, at the place where one may begin
pub data WantsStatement (b : Block) : List Token → List Token → List Stmt → Type 0 where
  none : {ts us : List Token} {c : List Stmt} → AfterBody b.levels b.statements ts us c → WantsStatement b (k.Mark mk.CloseBlock ∷ ts) us c
  semicolon : {ts us : List Token} {c : List Stmt} → b.statements ≡ [] → AfterBody b.levels [] ts us c →
      WantsStatement b (k.Mark mk.Semicolon ∷ k.Mark mk.CloseBlock ∷ ts) us c
  some : {ts vs us : List Token} {body c : List Stmt} → IsStatements (block_scope b) b.statements ts (k.Mark mk.CloseBlock ∷ vs) body →
      AfterBody b.levels body vs us c → WantsStatement b ts us c

-- the first name of a statement is read
pub data AfterFirst (b : Block) (x : Bytes) : List Token → List Token → List Stmt → Type 0 where
  changes : {ts us : List Token} {c : List Stmt} → is_variable (block_scope b) x ≡ true → WantsExpr (as_statement (Changed x) b) ts us c →
      AfterFirst b x (k.Mark mk.Becomes ∷ ts) us c
  begins : {ts us : List Token} {c : List Stmt} → AfterPart (pt.Called x) no_pending (as_statement Plain b) ts us c → AfterFirst b x ts us c

pub data Remains : State → List Token → List Token → List Stmt → Type 0 where
  wants_operand : {p : Pending} {w : Within} {ts us : List Token} {c : List Stmt} → WantsOperand p w ts us c → Remains (st.Operand p w) ts us c
  inside : {part : Part} {p : Pending} {w : Within} {ts us : List Token} {c : List Stmt} → AfterPart part p w ts us c →
      Remains (st.Inside part p w) ts us c
  after_operand : {p : Pending} {a : Expr} {w : Within} {ts us : List Token} {c : List Stmt} → AfterOperand p a w ts us c →
      Remains (st.Operated p a w) ts us c
  wants_statement : {b : Block} {ts us : List Token} {c : List Stmt} → WantsStatement b ts us c → Remains (st.Statement b) ts us c
  after_first : {b : Block} {x : Bytes} {ts us : List Token} {c : List Stmt} → AfterFirst b x ts us c → Remains (st.Named b x) ts us c
  let_variable : {b : Block} {ts us : List Token} {c : List Stmt} → Remains (st.LetVar b) ts us c →
      Remains (st.Let b) (k.Keyword kw.Var ∷ ts) us c
  let_constant : {b : Block} {x : Bytes} {ts us : List Token} {c : List Stmt} → is_bound (block_scope b) x ≡ false →
      Remains (st.Bound b false x) ts us c → Remains (st.Let b) (k.Word x ∷ ts) us c
  wants_name : {b : Block} {x : Bytes} {ts us : List Token} {c : List Stmt} → is_bound (block_scope b) x ≡ false →
      Remains (st.Bound b true x) ts us c → Remains (st.LetVar b) (k.Word x ∷ ts) us c
  wants_becomes : {b : Block} {var : Bool} {x : Bytes} {ts us : List Token} {c : List Stmt} → WantsExpr (as_statement (Value var x) b) ts us c →
      Remains (st.Bound b var x) (k.Mark mk.Becomes ∷ ts) us c
  wants_close : {b : Block} {ts us : List Token} {c : List Stmt} → AfterBody b.levels b.statements ts us c →
      Remains (st.Closing b) (k.Mark mk.CloseBlock ∷ ts) us c

-- the tokens ts go on from where a token leads
abbrev pub Moves : Next → List Token → List Token → List Stmt → Type 0
Moves Stuck ts us c = ⊥
Moves (On s) ts us c = Remains s ts us c
Moves (Done body) ts us c = (ts ≡ us) × (body.0 ≡ c)
