-- The code of methods that bind, inline, clone and resend, computed.
use Rattle.std.proofs.Common.{◌≡◌, ℕ, suc, true, false, Bool, List, [], ◌∷◌, ◌++◌, ◌∙◌, ◌&&◌, Some, None, ap, refl}
use Rattle.std.specs.Prelude.{pos, codes, nat_le, if◌then◌else◌}
use Rattle.std.specs.Str.{bytes_eq}
use Rattle.vx_names.specs.declared.key.MethodKey.{MethodKey}
use Rattle.vx_names.specs.declared.key.FieldKey.{FieldKey}
use Rattle.vx_syntax.specs.declared.expr.Expr.{Expr}
use Rattle.vx_syntax.specs.declared.expr.Expr as x
use Rattle.vx_syntax.specs.declared.expr.Stmt.TheVariants as t
use Rattle.vx_syntax.specs.declared.decl.Decl.{Decl}
use Rattle.vx_syntax.specs.declared.decl.Decl.TheVariants as d
use Rattle.vx_syntax.specs.declared.decl.Start.TheVariants as s
use Rattle.vx_syntax.specs.declared.test.Test.TheVariants as q
use Rattle.vx_syntax.specs.declared.test.Compare.TheVariants.{AtLeast}
use Rattle.vx_syntax.specs.Expressions.{Bytes}
use Rattle.vx_syntax.specs.Declarations.{any, method_of}
use Rattle.vx_program.specs.Prelude.{primitives, child, prelude_objects}
use Rattle.vx_node.specs.declared.node.Variant.{Variant}
use Rattle.vx_node.specs.declared.node.Variant.TheVariants as variant
use Rattle.vx_compilation.specs.declared.tree.TreeBlock.{TreeBlock}
use Rattle.vx_compilation.specs.TreeMeaning.{by_name, Sends}
use Rattle.vx_compilation.specs.Machine as machine
use Rattle.vx_compilation.specs.Machine.{Block, PushInt, PushText, PushObject, Load, Store, NewCell, GetCell, SetCell, Close, Send, Enter, Perform}
use Rattle.vx_compilation.specs.Machine.{Get, Make, Pop, Leave, Mark}
use Rattle.vx_compilation.specs.Code.{Instructions, block_code}
use Rattle.vx_syntax.specs.Counts.{size}
use Rattle.vx_model.specs.Kinds.{Source}
use Rattle.vx_compilation.specs.Inlining.{inline, inlined_size, is_flat_body}
use Rattle.vx_compilation.specs.Resolved.{tree}
use Rattle.vx_compilation.specs.Compiled.{asked}
use Rattle.vx_compilation.proofs.TreeRows.{n, block, method, name, new, one, two, plus, eval, print, key, asked_with}

-- the code of blocks from a number on
abbrev blocks_from : ℕ → List TreeBlock → List (Block by_name)
blocks_from number [] = []
blocks_from number (own ∷ rest) = block_code number own ∷ blocks_from (suc number) rest

-- the code of a method of a program, where the methods of these keys are inlined
abbrev code : (MethodKey → Bool) → List Decl → MethodKey → Variant → List (Block by_name)
code test program own variant = blocks_from 0 (tree (asked_with test program) own variant).blocks

abbrev of_code : ℕ → ℕ → ℕ → Instructions → Block by_name
of_code locals captures formals instructions = record { locals = locals; captures = captures; formals = formals; code = instructions }

abbrev sends : Bytes → ℕ → machine.Instruction by_name
sends message arity = Send (Sends (record { name = message; arity = arity })) arity

abbrev calls : MethodKey → ℕ → machine.Instruction by_name
calls own count = Enter (record { method = own; variant = variant.General }) count

abbrev minus : Expr → Expr → Expr
minus = two (codes "-")

abbrev times : Expr → Expr → Expr
times = two (codes "*")

-- ---- what is inlined, and closures over one variable

-- method five(x) { x * 2 + 5 }   method twice(x) { let y := five(x + 1); ^ five(y) - x }
abbrev inlining : List Decl
inlining = prelude_objects ++
    method (codes "five") (codes "x" ∷ []) (any ∷ []) (t.Do (plus (times (name (codes "x")) (n 2)) (n 5)) ∷ []) ∷
    method (codes "twice") (codes "x" ∷ []) (any ∷ []) (
    t.Let (codes "y") (one (codes "five") (plus (name (codes "x")) (n 1))) ∷ t.Back (minus (one (codes "five") (name (codes "y"))) (name (codes "x"))) ∷
    []) ∷ []

-- a let is met before what is inlined in it, so its local has the lower number
twice_code : code (λ own. true) inlining (key (codes "twice") (any ∷ [])) variant.General ≡
    of_code 4 0 1 (
    Load 0 ∷ PushInt (pos 1) ∷ sends (codes "+") 2 ∷ Mark ∷ Store 2 ∷ Load 2 ∷ PushInt (pos 2) ∷ sends (codes "*") 2 ∷ PushInt (pos 5) ∷ sends (codes "+") 2 ∷
    Store 1 ∷ Load 1 ∷ Mark ∷ Store 3 ∷ Load 3 ∷ PushInt (pos 2) ∷ sends (codes "*") 2 ∷ PushInt (pos 5) ∷ sends (codes "+") 2 ∷
    Load 0 ∷ sends (codes "-") 2 ∷ Leave ∷ []) ∷ []
unfolding asked primitives
twice_code = refl

-- method count(s) { let var i := 0; let up := { i := i + 5; i }; let get := { i * 100 }; eval(up); i := i - 1; print(eval(get)); i }
abbrev counting : List Decl
counting = prelude_objects ++ method (codes "count") (codes "s" ∷ []) (any ∷ []) (
    t.LetVar (codes "i") (n 0) ∷
    t.Let (codes "up") (block [] (t.Set (codes "i") (plus (name (codes "i")) (n 5)) ∷ t.Do (name (codes "i")) ∷ [])) ∷
    t.Let (codes "get") (block [] (t.Do (times (name (codes "i")) (n 100)) ∷ [])) ∷
    t.Do (eval (name (codes "up"))) ∷ t.Set (codes "i") (minus (name (codes "i")) (n 1)) ∷ print (eval (name (codes "get"))) ∷ t.Do (name (codes "i")) ∷
    []) ∷ []

-- the closures in constants are known as closures, so their evaluation is the primitive
count_code : code (λ own. true) counting (key (codes "count") (any ∷ [])) variant.General ≡
    of_code 4 0 1 (
    PushInt (pos 0) ∷ NewCell 1 ∷ Close 1 (1 ∷ []) ∷ Store 2 ∷ Close 2 (1 ∷ []) ∷ Store 3 ∷ Load 2 ∷ Perform 12 1 ∷ Pop ∷
    GetCell 1 ∷ PushInt (pos 1) ∷ sends (codes "-") 2 ∷ SetCell 1 ∷ Load 3 ∷ Perform 12 1 ∷ sends (codes "print") 1 ∷ Pop ∷ GetCell 1 ∷ Leave ∷ []) ∷
    of_code 1 1 0 (GetCell 0 ∷ PushInt (pos 5) ∷ sends (codes "+") 2 ∷ SetCell 0 ∷ GetCell 0 ∷ Leave ∷ []) ∷
    of_code 1 1 0 (GetCell 0 ∷ PushInt (pos 100) ∷ sends (codes "*") 2 ∷ Leave ∷ []) ∷ []
unfolding asked primitives
count_code = refl

-- ---- resends in closures

-- method less(a, @any, b) { a - b }   method less(a@int, @int, b@int) { let z := b; eval(&(q) { let r := q; resend(...) }, 4) }
abbrev resending : List Decl
resending = prelude_objects ++
    method_of (codes "less") (Some (codes "a") ∷ None ∷ Some (codes "b") ∷ []) (any ∷ any ∷ any ∷ [])
    (t.Do (minus (name (codes "a")) (name (codes "b"))) ∷ []) ∷
    method_of (codes "less") (Some (codes "a") ∷ None ∷ Some (codes "b") ∷ []) (codes "int" ∷ codes "int" ∷ codes "int" ∷ []) (
    t.Let (codes "z") (name (codes "b")) ∷
    t.Do (two (codes "eval") (block (codes "q" ∷ []) (t.Let (codes "r") (name (codes "q")) ∷ t.Do x.Resend ∷ [])) (n 4)) ∷ []) ∷ []

-- all formals are captured, the nameless one among them, and the resend is a call of the one method below
less_code : code (λ own. true) resending (key (codes "less") (codes "int" ∷ codes "int" ∷ codes "int" ∷ [])) variant.General ≡
    of_code 4 0 3 (Load 2 ∷ Store 3 ∷ Close 1 (0 ∷ 1 ∷ 2 ∷ []) ∷ PushInt (pos 4) ∷ Perform 13 2 ∷ Leave ∷ []) ∷
    of_code 5 3 1 (Load 3 ∷ Store 4 ∷ Load 0 ∷ Load 1 ∷ Load 2 ∷ calls (key (codes "less") (any ∷ any ∷ any ∷ [])) 3 ∷ Leave ∷ []) ∷ []
unfolding asked primitives
less_code = refl

-- ---- clones

-- object top   object left isa top   object right isa top   method rank(x@top) { 0 }, (x@left) { 1 }, (x@right) { 2 }
-- method show(x@top) { print(rank(x)); eval({ rank(x) }) }
abbrev cloning : List Decl
cloning = prelude_objects ++
    child (codes "left") (codes "top") ∷ child (codes "right") (codes "top") ∷ child (codes "top") any ∷
    method (codes "rank") (codes "x" ∷ []) (codes "left" ∷ []) (t.Do (n 1) ∷ []) ∷
    method (codes "rank") (codes "x" ∷ []) (codes "right" ∷ []) (t.Do (n 2) ∷ []) ∷
    method (codes "rank") (codes "x" ∷ []) (codes "top" ∷ []) (t.Do (n 0) ∷ []) ∷
    method (codes "show") (codes "x" ∷ []) (codes "top" ∷ []) (
    print (one (codes "rank") (name (codes "x"))) ∷ t.Do (eval (block [] (t.Do (one (codes "rank") (name (codes "x"))) ∷ []))) ∷ []) ∷ []

abbrev shown : MethodKey
shown = key (codes "show") (codes "top" ∷ [])

-- the general code sends
show_code : code (λ own. true) cloning shown variant.General ≡
    of_code 1 0 1 (Load 0 ∷ sends (codes "rank") 1 ∷ sends (codes "print") 1 ∷ Pop ∷ Close 1 (0 ∷ []) ∷ Perform 12 1 ∷ Leave ∷ []) ∷
    of_code 1 1 0 (Load 0 ∷ sends (codes "rank") 1 ∷ Leave ∷ []) ∷ []
unfolding asked primitives
show_code = refl

-- and that for a class has the method of that class in place of both sends
show_left_code : code (λ own. true) cloning shown (variant.Clone 0 (codes "left")) ≡
    of_code 2 0 1 (Load 0 ∷ Mark ∷ Store 1 ∷ PushInt (pos 1) ∷ Perform 10 1 ∷ Pop ∷ Close 1 (0 ∷ []) ∷ Perform 12 1 ∷ Leave ∷ []) ∷
    of_code 2 1 0 (Load 0 ∷ Mark ∷ Store 1 ∷ PushInt (pos 1) ∷ Leave ∷ []) ∷ []
unfolding asked primitives
show_left_code = refl

-- a method is cloned for at most four classes
abbrev below_top : List Bytes → List Decl
below_top [] = []
below_top (x ∷ xs) = child x (codes "top") ∷ below_top xs

abbrev many : List Bytes → List Decl
many classes = prelude_objects ++ below_top classes ++ child (codes "top") any ∷
    method (codes "rank") (codes "x" ∷ []) (codes "left" ∷ []) (t.Do (n 1) ∷ []) ∷
    method (codes "rank") (codes "x" ∷ []) (codes "top" ∷ []) (t.Do (n 0) ∷ []) ∷
    method (codes "show") (codes "x" ∷ []) (codes "top" ∷ []) (print (one (codes "rank") (name (codes "x"))) ∷ []) ∷ []

four_are_cloned : (asked (many (codes "left" ∷ codes "lower" ∷ codes "right" ∷ []))).clones shown ≡
    Some (0, codes "left" ∷ codes "lower" ∷ codes "right" ∷ codes "top" ∷ [])
unfolding asked primitives
four_are_cloned = refl

five_are_not_cloned : (asked (many (codes "left" ∷ codes "lower" ∷ codes "right" ∷ codes "upper" ∷ []))).clones shown ≡ None
unfolding asked primitives
five_are_not_cloned = refl

-- ---- how large a method is that is inlined

twelve_are_inlined : (own : Source) → size own.body ≡ 12 → is_flat_body own.body.0 ≡ true → inline (Some own) ≡ Some own
twelve_are_inlined own e flat =
    ap (λ (n : ℕ). if nat_le n inlined_size && is_flat_body own.body.0 then Some own else None) e
    ∙ ap (λ (b : Bool). if b then Some own else None) flat

thirteen_are_not : (own : Source) → size own.body ≡ 13 → inline (Some own) ≡ None
thirteen_are_not own e = ap (λ (n : ℕ). if nat_le n inlined_size && is_flat_body own.body.0 then Some own else None) e

-- ---- an account, what it earns, and a predicate on it

abbrev balance : FieldKey
balance = record { name = codes "balance"; specialiser = codes "account" }

abbrev rate : FieldKey
rate = record { name = codes "rate"; specialiser = codes "savings" }

abbrev text : Bytes → Expr
text = x.Text

abbrev accounts : List Decl
accounts = prelude_objects ++
    child (codes "account") any ∷
    d.Predicate (codes "rich") (codes "savings" ∷ []) (q.Compare (codes "balance") AtLeast (pos 1000)) ∷
    child (codes "savings") (codes "account") ∷
    d.Field balance (s.Int (pos 0)) true ∷ d.Field rate (s.Int (pos 5)) false ∷
    method (codes "deposit") (codes "a" ∷ codes "n" ∷ []) (codes "account" ∷ codes "int" ∷ []) (
    t.Do (two (codes "set_balance") (name (codes "a")) (plus (one (codes "balance") (name (codes "a"))) (name (codes "n")))) ∷ t.Do (name (codes "a")) ∷ []) ∷
    method (codes "report") (codes "a" ∷ []) (codes "account" ∷ []) (print (text (codes "account")) ∷ print (one (codes "balance") (name (codes "a"))) ∷ []) ∷
    method (codes "report") (codes "a" ∷ []) (codes "rich" ∷ []) (t.Do x.Resend ∷ print (text (codes "rich")) ∷ []) ∷
    method (codes "report") (codes "a" ∷ []) (codes "savings" ∷ []) (
    t.Do x.Resend ∷ print (text (codes "rate")) ∷ print (one (codes "rate") (name (codes "a"))) ∷ []) ∷ []

deposit_code : code (λ own. true) accounts (key (codes "deposit") (codes "account" ∷ codes "int" ∷ [])) variant.General ≡
    of_code 2 0 2 (Load 0 ∷ Load 0 ∷ Get balance 1 ∷ Load 1 ∷ sends (codes "+") 2 ∷ machine.Set balance 2 ∷ Pop ∷ Load 0 ∷ Leave ∷ []) ∷ []
unfolding asked primitives
deposit_code = refl

account_code : code (λ own. true) accounts (key (codes "report") (codes "account" ∷ [])) variant.General ≡
    of_code 1 0 1 (PushText (codes "account") ∷ Perform 11 1 ∷ Pop ∷ Load 0 ∷ Get balance 1 ∷ sends (codes "print") 1 ∷ Leave ∷ []) ∷ []
unfolding asked primitives
account_code = refl

savings_code : code (λ own. true) accounts (key (codes "report") (codes "savings" ∷ [])) variant.General ≡
    of_code 1 0 1 (
    Load 0 ∷ calls (key (codes "report") (codes "account" ∷ [])) 1 ∷ Pop ∷ PushText (codes "rate") ∷ Perform 11 1 ∷ Pop ∷
    Load 0 ∷ Get rate 1 ∷ sends (codes "print") 1 ∷ Leave ∷ []) ∷ []
unfolding asked primitives
savings_code = refl

-- a method on a predicate resends to the one on what it inherits from
rich_code : code (λ own. true) accounts (key (codes "report") (codes "rich" ∷ [])) variant.General ≡
    of_code 1 0 1 (Load 0 ∷ calls (key (codes "report") (codes "savings" ∷ [])) 1 ∷ Pop ∷ PushText (codes "rich") ∷ Perform 11 1 ∷ Leave ∷ []) ∷ []
unfolding asked primitives
rich_code = refl

-- method while(c@closure, b@closure) { .. }, of which only the head counts here
-- method main() { let s := object isa savings { balance := 400 }; let var i := 0; while({ i < 3 }, { deposit(s, 250); i := i + 1 }); report(s) }
abbrev running : List Decl
running = accounts ++
    method (codes "while") (codes "c" ∷ codes "b" ∷ []) (codes "closure" ∷ codes "closure" ∷ []) [] ∷
    method (codes "main") [] [] (
    t.Let (codes "s") (new (codes "savings") ((codes "balance", n 400) ∷ [])) ∷ t.LetVar (codes "i") (n 0) ∷
    t.Do (two (codes "while") (block [] (t.Do (two (codes "<") (name (codes "i")) (n 3)) ∷ []))
    (block [] (t.Do (two (codes "deposit") (name (codes "s")) (n 250)) ∷ t.Set (codes "i") (plus (name (codes "i")) (n 1)) ∷ []))) ∷
    t.Do (one (codes "report") (name (codes "s"))) ∷ []) ∷ []

abbrev is_deposit : MethodKey → Bool
is_deposit own = bytes_eq own.selector.name (codes "deposit")

-- what is captured keeps what is known of it, so the deposit is bound in the closure; the report is not, since savings may be rich
main_code : code is_deposit running (key (codes "main") []) variant.General ≡
    of_code 2 0 0 (
    PushInt (pos 400) ∷ Make (codes "savings") (balance ∷ []) 1 ∷ Store 0 ∷ PushInt (pos 0) ∷ NewCell 1 ∷ Close 1 (1 ∷ []) ∷ Close 2 (0 ∷ 1 ∷ []) ∷
    calls (key (codes "while") (codes "closure" ∷ codes "closure" ∷ [])) 2 ∷ Pop ∷ Load 0 ∷ sends (codes "report") 1 ∷ Leave ∷ []) ∷
    of_code 1 1 0 (GetCell 0 ∷ PushInt (pos 3) ∷ sends (codes "<") 2 ∷ Leave ∷ []) ∷
    of_code 4 2 0 (
    Load 0 ∷ PushInt (pos 250) ∷ Mark ∷ Store 3 ∷ Store 2 ∷ Load 2 ∷ Load 2 ∷ Get balance 1 ∷ Load 3 ∷ sends (codes "+") 2 ∷ machine.Set balance 2 ∷ Pop ∷
    Load 2 ∷ Pop ∷ GetCell 1 ∷ PushInt (pos 1) ∷ sends (codes "+") 2 ∷ SetCell 1 ∷ PushObject (codes "nil") ∷ Leave ∷ []) ∷ []
unfolding asked primitives
main_code = refl
