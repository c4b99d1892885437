-- How many names a state holds, and that a step brings at most one.
use Rattle.std.proofs.Common.{◌≡◌, ◌≤◌, ◌+◌, ℕ, suc, Bool, true, false, List, [], ◌∷◌, ◌++◌, length, length-append, refl, subst, ap, ◌∙◌, if◌then◌else◌, arith}
use Rattle.std.proofs.lemmas.List.{length-map}
use Rattle.vx_names.specs.declared.operator.Operator.TheVariants as o
use Rattle.vx_syntax.specs.declared.token.Token.{Token}
use Rattle.vx_syntax.specs.declared.token.Token.TheVariants as k
use Rattle.vx_syntax.specs.declared.token.Keyword.TheVariants as kw
use Rattle.vx_syntax.specs.declared.token.Mark.TheVariants as mk
use Rattle.vx_syntax.specs.declared.expr.Expr.{Expr}
use Rattle.vx_syntax.specs.declared.expr.Expr.TheVariants as e
use Rattle.vx_syntax.specs.declared.expr.Stmt.{Stmt}
use Rattle.vx_syntax.specs.declared.expr.Stmt.TheVariants as t
use Rattle.vx_bodies.specs.declared.state.Pending.{Pending}
use Rattle.vx_bodies.specs.declared.state.Bracket.{Bracket}
use Rattle.vx_bodies.specs.declared.state.Bracket.TheVariants.{Paren, Arguments, Fields}
use Rattle.vx_bodies.specs.declared.state.Kind.{Kind}
use Rattle.vx_bodies.specs.declared.state.Kind.TheVariants.{Plain}
use Rattle.vx_bodies.specs.declared.state.Level.{Level}
use Rattle.vx_bodies.specs.declared.state.Block.{Block}
use Rattle.vx_bodies.specs.declared.state.Within.{Within}
use Rattle.vx_bodies.specs.declared.state.Part.{Part}
use Rattle.vx_bodies.specs.declared.state.Part.TheVariants as pt
use Rattle.vx_bodies.specs.declared.state.State.{State}
use Rattle.vx_bodies.specs.declared.state.State.TheVariants as st
use Rattle.vx_bodies.specs.declared.state.Next.{Next}
use Rattle.vx_bodies.specs.declared.state.Next.TheVariants.{Stuck, On, Done}
use Rattle.vx_syntax.specs.Expressions.{Bytes, Scope, brings, is_back, with_formals, field_names}
use Rattle.vx_bodies.specs.Machine as m
use Rattle.vx_bodies.specs.Machine.{no_pending, block_scope, outer_scope, scope_in, made, within, bracketed, with_statement, as_statement, value, constants, open_fields, names_outside, names_of_block, names_within, names_of_part, scope_of}

abbrev fields_in : List Bracket → ℕ
fields_in [] = 0
fields_in (Fields p x given f ∷ bs) = suc (length given + fields_in bs)
fields_in (_ ∷ bs) = fields_in bs

abbrev count_outside : List Level → ℕ
count_outside [] = 0
count_outside (l ∷ ls) = length l.formals + (fields_in l.brackets + (length l.declared + count_outside ls))

abbrev count_of_block : Block → ℕ
count_of_block b = length b.declared + count_outside b.levels

abbrev count_within : Within → ℕ
count_within w = fields_in w.brackets + count_of_block w.block

abbrev count_of_part : Part → ℕ
count_of_part (pt.Formal given) = length given
count_of_part (pt.Formed given x) = suc (length given)
count_of_part (pt.Formals given) = length given
count_of_part (pt.Field x given) = length given
count_of_part (pt.FieldName x given f) = suc (length given)
count_of_part _ = 0

-- how many names a state holds
abbrev pub count : State → ℕ
count (st.Operand p w) = count_within w
count (st.Inside part p w) = count_of_part part + count_within w
count (st.Operated p a w) = count_within w
count (st.Statement b) = count_of_block b
count (st.Named b x) = count_of_block b
count (st.Let b) = count_of_block b
count (st.LetVar b) = count_of_block b
count (st.Bound b var x) = count_of_block b
count (st.Closing b) = count_of_block b

constants_length : (xs : List Bytes) → length (constants xs) ≡ length xs
constants_length xs = length-map xs _

pub fields_length : (given : List (Bytes × Expr)) → length (field_names given) ≡ length given
fields_length given = length-map given _

names_length : (given : List (Bytes × Expr)) → length (constants (field_names given)) ≡ length given
names_length given = constants_length (field_names given) ∙ fields_length given

brackets_counted : (bs : List Bracket) → length (open_fields bs) ≡ fields_in bs
brackets_counted [] = refl
brackets_counted (Fields p x given f ∷ bs) =
    let rest = brackets_counted bs in
    omega (arith, length-append (constants (field_names given)) (open_fields bs), names_length given)
brackets_counted (Paren p ∷ bs) = brackets_counted bs
brackets_counted (Arguments p x given ∷ bs) = brackets_counted bs

outside_counted : (ls : List Level) → length (names_outside ls) ≡ count_outside ls
outside_counted [] = refl
outside_counted (l ∷ ls) =
    let rest = outside_counted ls in
    let all : length (names_outside (l ∷ ls)) ≡ length (constants l.formals) + length (open_fields l.brackets ++ (l.declared ++ names_outside ls)) =
    length-append (constants l.formals) _ in
    omega (
      arith,
      all,
      constants_length l.formals,
      length-append (open_fields l.brackets) (l.declared ++ names_outside ls),
      brackets_counted l.brackets,
      length-append l.declared (names_outside ls),
    )

block_counted : (b : Block) → length (names_of_block b) ≡ count_of_block b
block_counted b =
    let all : length (names_of_block b) ≡ length b.declared + length (names_outside b.levels) = length-append b.declared _ in
    omega (arith, all, outside_counted b.levels)

within_counted : (w : Within) → length (names_within w) ≡ count_within w
within_counted w =
    let all : length (names_within w) ≡ length (open_fields w.brackets) + length (names_of_block w.block) = length-append (open_fields w.brackets) _ in
    omega (arith, all, brackets_counted w.brackets, block_counted w.block)

part_counted : (part : Part) → length (names_of_part part) ≡ count_of_part part
part_counted (pt.Formal given) = constants_length given
part_counted (pt.Formed given x) = ap suc (constants_length given)
part_counted (pt.Formals given) = constants_length given
part_counted (pt.Field x given) = names_length given
part_counted (pt.FieldName x given f) = ap suc (names_length given)
part_counted _ = refl

pub counted : (state : State) → length (scope_of state) ≡ count state
unfolding scope_of
counted (st.Operand p w) = within_counted w
counted (st.Inside part p w) = omega (arith, length-append (names_of_part part) (names_within w), part_counted part, within_counted w)
counted (st.Operated p a w) = within_counted w
counted (st.Statement b) = block_counted b
counted (st.Named b x) = block_counted b
counted (st.Let b) = block_counted b
counted (st.LetVar b) = block_counted b
counted (st.Bound b var x) = block_counted b
counted (st.Closing b) = block_counted b

pub formals_length : (scope : Scope) (xs : List Bytes) → length (with_formals scope xs) ≡ length scope + length xs
formals_length scope [] = omega arith
formals_length scope (x ∷ xs) = let rest = formals_length ((x, false) ∷ scope) xs in omega arith

outer_length : (ls : List Level) → length (outer_scope ls) ≤ count_outside ls
outer_length [] = omega arith
outer_length (l ∷ ls) =
    let rest = outer_length ls in
    omega (arith, formals_length (l.declared ++ outer_scope ls) l.formals, length-append l.declared (outer_scope ls))

-- no more names are in scope than are held
pub scope_length : (b : Block) → length (block_scope b) ≤ count_of_block b
scope_length b = omega (arith, length-append b.declared (outer_scope b.levels), outer_length b.levels)

-- a state with at most one more name
record IsLittleMore (n : ℕ) (state : State) : Type 0 where
  few : count state ≤ n + 1

abbrev Grows : ℕ → Next → Type 0
Grows n Stuck = Unit {0}
Grows n (On state) = IsLittleMore n state
Grows n (Done body) = Unit {0}

closed_grows : (ls : List Level) (body : List Stmt) (n : ℕ) → count_outside ls ≤ n → Grows n (m.closed ls body)
unfolding m.closed
closed_grows [] body n h = tt
closed_grows (l ∷ ls) body n h = record { few = omega arith }

brings_length : (scope : Scope) (a : Stmt) → length (brings scope a) ≤ length scope + 1
brings_length scope (t.Let x v) = omega arith
brings_length scope (t.LetVar x v) = omega arith
brings_length scope (t.Set x v) = omega arith
brings_length scope (t.Do v) = omega arith
brings_length scope (t.Back v) = omega arith

if_grows : (n : ℕ) (x : Bool) (a b : State) → IsLittleMore n a → IsLittleMore n b → IsLittleMore n (if x then a else b)
if_grows n true a b f g = f
if_grows n false a b f g = g

if_on : (n : ℕ) (x : Bool) (a : State) → IsLittleMore n a → Grows n (if x then On a else Stuck)
if_on n true a f = f
if_on n false a f = tt

unless_stuck : (n : ℕ) (x : Bool) (a : State) → IsLittleMore n a → Grows n (if x then Stuck else On a)
unless_stuck n true a f = tt
unless_stuck n false a f = f

grows_more : {n o : ℕ} (next : Next) → n ≤ o → Grows n next → Grows o next
grows_more Stuck le g = tt
grows_more (On state) le g = let few = g.few in record { few = omega arith }
grows_more (Done body) le g = tt

stated_grows : (a : Stmt) (b : Block) (token : Token) → Grows (count_of_block b) (m.stated a b token)
unfolding m.stated
stated_grows a b (k.Mark mk.Semicolon) =
    let more = brings_length b.declared a in
    if_grows _ (is_back a) _ _ (record { few = omega arith }) (record { few = omega arith })
stated_grows a b (k.Mark mk.CloseBlock) = closed_grows b.levels _ _ (omega arith)
stated_grows a b _ = tt

ended_grows : (bs : List Bracket) (kind : Kind) (b : Block) (v : Expr) (token : Token) → Grows (fields_in bs + count_of_block b) (m.ended bs kind b v token)
unfolding m.ended
ended_grows (Paren p ∷ bs) kind b v (k.Mark mk.Close) = record { few = omega arith }
ended_grows (Arguments p x given ∷ bs) kind b v (k.Mark mk.Close) = record { few = omega arith }
ended_grows (Arguments p x given ∷ bs) kind b v (k.Mark mk.Comma) = if_on _ _ _ (record { few = omega arith })
ended_grows (Fields p x given f ∷ bs) kind b v (k.Mark mk.CloseBlock) = record { few = omega arith }
ended_grows (Fields p x given f ∷ bs) kind b v (k.Mark mk.Comma) = record { few = omega (arith, length-append given ((f, v) ∷ [])) }
ended_grows [] kind b v token = grows_more (m.stated (made kind v) b token) (omega arith) (stated_grows (made kind v) b token)
ended_grows _ kind b v _ = tt

after_grows : (p : Pending) (a : Expr) (w : Within) (token : Token) → Grows (count_within w) (m.after_operand p a w token)
unfolding m.after_operand
after_grows p a w (k.Operator op) = record { few = omega arith }
after_grows p a w token = ended_grows w.brackets w.kind w.block (value p a) token

opened_count : (xs : List Bytes) (p : Pending) (w : Within) → count_of_block (m.opened xs p w) ≤ length xs + count_within w
unfolding m.opened
opened_count xs p w = omega arith

opened_grows : (xs : List Bytes) (p : Pending) (w : Within) (n : ℕ) → length xs + count_within w ≤ n → IsLittleMore n (st.Statement (m.opened xs p w))
opened_grows xs p w n h = record { few = omega (arith, opened_count xs p w) }

operand_grows : (p : Pending) (w : Within) (token : Token) → Grows (count_within w) (m.operand p w token)
unfolding m.operand
operand_grows p w (k.Number n) = record { few = omega arith }
operand_grows p w (k.Text bytes) = record { few = omega arith }
operand_grows p w (k.Word x) = record { few = omega arith }
operand_grows p w (k.Operator o.Minus) = record { few = omega arith }
operand_grows p w (k.Mark mk.Open) = record { few = omega arith }
operand_grows p w (k.Mark mk.OpenBlock) = opened_grows [] p w _ (omega arith)
operand_grows p w (k.Mark mk.Ampersand) = record { few = omega arith }
operand_grows p w (k.Keyword kw.Object) = record { few = omega arith }
operand_grows p w (k.Keyword kw.Resend) = record { few = omega arith }
operand_grows p w _ = tt

called_grows : (x : Bytes) (p : Pending) (w : Within) (token : Token) → Grows (count_within w) (m.called x p w token)
unfolding m.called
called_grows x p w (k.Mark mk.Open) = record { few = omega arith }
called_grows x p w token = after_grows p (e.Name x) w token

argument_grows : (x : Bytes) (p : Pending) (w : Within) (token : Token) → Grows (count_within w) (m.first_argument x p w token)
unfolding m.first_argument
argument_grows x p w (k.Mark mk.Close) = record { few = omega arith }
argument_grows x p w token = operand_grows no_pending (bracketed (Arguments p x []) w) token

formal_grows : (given : List Bytes) (x : Bytes) (p : Pending) (w : Within) → Grows (length given + count_within w) (m.formal given x p w)
unfolding m.formal
formal_grows given x p w = unless_stuck _ _ _ (record { few = omega arith })

first_formal_grows : (p : Pending) (w : Within) (token : Token) → Grows (count_within w) (m.first_formal p w token)
unfolding m.first_formal
first_formal_grows p w (k.Mark mk.Close) = record { few = omega arith }
first_formal_grows p w (k.Word x) = grows_more (m.formal [] x p w) (omega arith) (formal_grows [] x p w)
first_formal_grows p w _ = tt

next_formal_grows : (given : List Bytes) (p : Pending) (w : Within) (token : Token) → Grows (length given + count_within w) (m.next_formal given p w token)
unfolding m.next_formal
next_formal_grows given p w (k.Word x) = formal_grows given x p w
next_formal_grows given p w _ = tt

formed_grows : (given : List Bytes) (x : Bytes) (p : Pending) (w : Within) (token : Token) → Grows (suc (length given) + count_within w) (m.formed given x p w token)
unfolding m.formed
formed_grows given x p w (k.Mark mk.Close) = record { few = omega (arith, length-append given (x ∷ [])) }
formed_grows given x p w (k.Mark mk.Comma) = if_on _ _ _ (record { few = omega (arith, length-append given (x ∷ [])) })
formed_grows given x p w _ = tt

parent_grows : (x : Bytes) (p : Pending) (w : Within) (token : Token) → Grows (count_within w) (m.parent x p w token)
unfolding m.parent
parent_grows x p w (k.Mark mk.OpenBlock) = record { few = omega arith }
parent_grows x p w token = after_grows p (e.New x []) w token

field_tested : (n : ℕ) (y z : Bool) (a : State) → IsLittleMore n a → Grows n (if y then Stuck else if z then Stuck else On a)
field_tested n true z a f = tt
field_tested n false true a f = tt
field_tested n false false a f = f

field_grows : (x : Bytes) (given : List (Bytes × Expr)) (f : Bytes) (p : Pending) (w : Within) → Grows (length given + count_within w) (m.field x given f p w)
unfolding m.field
field_grows x given f p w = field_tested _ _ _ _ (record { few = omega arith })

first_field_grows : (x : Bytes) (p : Pending) (w : Within) (token : Token) → Grows (count_within w) (m.first_field x p w token)
unfolding m.first_field
first_field_grows x p w (k.Mark mk.CloseBlock) = record { few = omega arith }
first_field_grows x p w (k.Word f) = grows_more (m.field x [] f p w) (omega arith) (field_grows x [] f p w)
first_field_grows x p w _ = tt

next_field_grows : (x : Bytes) (given : List (Bytes × Expr)) (p : Pending) (w : Within) (token : Token) →
    Grows (length given + count_within w) (m.next_field x given p w token)
unfolding m.next_field
next_field_grows x given p w (k.Word f) = field_grows x given f p w
next_field_grows x given p w _ = tt

part_grows : (part : Part) (p : Pending) (w : Within) (token : Token) → Grows (count_of_part part + count_within w) (m.inside part p w token)
unfolding m.inside m.signed m.ampersand m.formals m.object m.isa m.field_name m.resend m.resend_open m.resend_dots
part_grows pt.Signed p w (k.Number n) = record { few = omega arith }
part_grows (pt.Called x) p w token = grows_more (m.called x p w token) (omega arith) (called_grows x p w token)
part_grows (pt.FirstArgument x) p w token = grows_more (m.first_argument x p w token) (omega arith) (argument_grows x p w token)
part_grows pt.Ampersand p w (k.Mark mk.Open) = record { few = omega arith }
part_grows pt.FirstFormal p w token = grows_more (m.first_formal p w token) (omega arith) (first_formal_grows p w token)
part_grows (pt.Formal given) p w token = next_formal_grows given p w token
part_grows (pt.Formed given x) p w token = formed_grows given x p w token
part_grows (pt.Formals given) p w (k.Mark mk.OpenBlock) = opened_grows given p w _ (omega arith)
part_grows pt.Object p w (k.Keyword kw.Isa) = record { few = omega arith }
part_grows pt.Isa p w (k.Word x) = record { few = omega arith }
part_grows (pt.Parent x) p w token = grows_more (m.parent x p w token) (omega arith) (parent_grows x p w token)
part_grows (pt.FirstField x) p w token = grows_more (m.first_field x p w token) (omega arith) (first_field_grows x p w token)
part_grows (pt.Field x given) p w token = next_field_grows x given p w token
part_grows (pt.FieldName x given f) p w (k.Mark mk.Becomes) = record { few = omega arith }
part_grows pt.Resend p w (k.Mark mk.Open) = record { few = omega arith }
part_grows pt.ResendOpen p w (k.Mark mk.Dots) = record { few = omega arith }
part_grows pt.ResendDots p w (k.Mark mk.Close) = record { few = omega arith }
part_grows _ p w _ = tt

semicolon_grows : (l : List Stmt) (b : Block) → Grows (count_of_block b) (m.semicolon l b)
unfolding m.semicolon
semicolon_grows [] b = record { few = omega arith }
semicolon_grows (x ∷ l) b = tt

statement_grows : (b : Block) (token : Token) → Grows (count_of_block b) (m.statement b token)
unfolding m.statement
statement_grows b (k.Keyword kw.Let) = record { few = omega arith }
statement_grows b (k.Mark mk.Caret) = record { few = omega arith }
statement_grows b (k.Word x) = record { few = omega arith }
statement_grows b (k.Mark mk.CloseBlock) = closed_grows b.levels _ _ (omega arith)
statement_grows b (k.Mark mk.Semicolon) = semicolon_grows b.statements b
statement_grows b token = grows_more (m.operand no_pending (as_statement Plain b) token) (omega arith) (operand_grows no_pending (as_statement Plain b) token)

named_grows : (b : Block) (x : Bytes) (token : Token) → Grows (count_of_block b) (m.named b x token)
unfolding m.named
named_grows b x (k.Mark mk.Becomes) = if_on _ _ _ (record { few = omega arith })
named_grows b x token = grows_more (m.called x no_pending (as_statement Plain b) token) (omega arith) (called_grows x no_pending (as_statement Plain b) token)

fresh_grows : (b : Block) (var : Bool) (x : Bytes) → Grows (count_of_block b) (m.fresh b var x)
unfolding m.fresh
fresh_grows b var x = unless_stuck _ _ _ (record { few = omega arith })

step_grows : (state : State) (token : Token) → Grows (count state) (m.step state token)
unfolding m.step m.after_let m.after_var m.bound m.closing
step_grows (st.Operand p w) token = operand_grows p w token
step_grows (st.Inside part p w) token = part_grows part p w token
step_grows (st.Operated p a w) token = after_grows p a w token
step_grows (st.Statement b) token = statement_grows b token
step_grows (st.Named b x) token = named_grows b x token
step_grows (st.Let b) (k.Keyword kw.Var) = record { few = omega arith }
step_grows (st.Let b) (k.Word x) = fresh_grows b false x
step_grows (st.LetVar b) (k.Word x) = fresh_grows b true x
step_grows (st.Bound b var x) (k.Mark mk.Becomes) = record { few = omega arith }
step_grows (st.Closing b) (k.Mark mk.CloseBlock) = closed_grows b.levels _ _ (omega arith)
step_grows _ _ = tt

-- A step brings at most one name.
pub grows : (state next : State) (token : Token) → m.step state token ≡ On next → length (scope_of next) ≤ length (scope_of state) + 1
grows state next token is =
    let more = subst (λ to. Grows (count state) to) is (step_grows state token) in
    omega (arith, counted state, counted next, more.few)

-- A body begins with the names around it.
pub begun_length : (scope : Scope) → length (scope_of (m.begun scope)) ≡ length scope
unfolding m.begun scope_of
begun_length scope = omega (arith, length-append scope [])
