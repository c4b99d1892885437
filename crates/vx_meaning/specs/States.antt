-- What the evaluator keeps, as the definition of meaning has it.
use Rattle.std.specs.Prelude.{ℕ, ◌≤◌, ⊤, List, [], ◌∷◌, length, map}
use Rattle.std.specs.List.{AllByRecursion}
use Rattle.vx_names.specs.declared.key.FieldKey.{FieldKey}
use Rattle.vx_syntax.specs.declared.decl.Decl.{Decl}
use Rattle.vx_syntax.specs.declared.decl.Decl.TheVariants as d
use Rattle.vx_syntax.specs.declared.expr.Expr.{Expr}
use Rattle.vx_syntax.specs.declared.expr.Stmt as t
use Rattle.vx_syntax.specs.Counts.{greatest, size}
use Rattle.vx_model.specs.declared.report.RunError.TheVariants as e
use Rattle.vx_model.specs.declared.value.Held.{Held}
use Rattle.vx_model.specs.declared.value.Local.TheVariants as l
use Rattle.vx_model.specs.declared.value.Value.{Value}
use Rattle.vx_model.specs.Meaning.{State, Done, Gives, Stops, Back, Fails, Out, Stuck, Frame, Allowance, after, assigned, bound}
use Rattle.vx_model.specs.Meaning.{evaluation, expression, in_scope, statements, turns, with_cell}
use Rattle.vx_model.specs.Values.{nil}
use Rattle.vx_meaning.specs.declared.memory.Act.{Act}
use Rattle.vx_meaning.specs.declared.memory.Act.TheVariants as a
use Rattle.vx_meaning.specs.declared.memory.Activation.{Activation}
use Rattle.vx_meaning.specs.declared.memory.Flow.{Flow}
use Rattle.vx_meaning.specs.declared.memory.Flow.TheVariants as f
use Rattle.vx_meaning.specs.declared.memory.Keys.{Keys}
use Rattle.vx_meaning.specs.declared.memory.Keys.TheVariants as y
use Rattle.vx_meaning.specs.declared.memory.Memory.{Memory}
use Rattle.vx_meaning.specs.declared.memory.Outcome.{Outcome}
use Rattle.vx_meaning.specs.declared.memory.Outcome.TheVariants as o
use Rattle.vx_meaning.specs.declared.memory.Reached.{Reached}
use Rattle.vx_meaning.specs.declared.memory.Reached.TheVariants as h

abbrev pub state_of : Memory → State
state_of memory = record { heap = memory.heap; next = memory.next; lines = memory.lines }

abbrev pub frame_of : Activation → Frame
frame_of frame = record { method = frame.method; arguments = frame.arguments; home = frame.home; scope = frame.scope }

abbrev pub done : Outcome → Memory → Done
done (o.Gives value) memory = Gives value (state_of memory)
done (o.Back home value) memory = Stops (Back home value) (state_of memory)
done (o.Fails error) memory = Stops (Fails error) (state_of memory)
done o.Out memory = Stops Out (state_of memory)
done o.Stuck memory = Stops Stuck (state_of memory)

-- what a statement makes of what follows it
abbrev pub follow : Flow → Memory → (Value → State → Done) → Done
follow (f.Next value) memory go = go value (state_of memory)
follow (f.Ends outcome) memory go = done outcome memory

-- the keys of names go to what follows them, or the first name that means no field is an error
abbrev pub with_keys : Keys → (List FieldKey → Done) → State → Done
with_keys (y.All keys) go state = go keys
with_keys (y.Missing name) go state = Stops (Fails (e.NoField name)) state

-- a closure goes to what follows
abbrev pub follow_closure : Reached → Memory → (Held → Done) → Done
follow_closure (h.Closure held) memory go = go held
follow_closure (h.Ends outcome) memory go = done outcome memory

-- what is left of a primitive is done
abbrev pub act : List Decl → Allowance → Act → Memory → Done
act program lower (a.Ends outcome) memory = done outcome memory
act program lower (a.Evaluates held values) memory = evaluation program lower held values (state_of memory)
act program lower (a.Repeats held) memory = turns program lower held (state_of memory)

-- the parts of a list, as the definition has them in a row
abbrev pub listed : List Decl → List Expr → Allowance → Frame → State → (List Value → State → Done) → Done
listed program [] lower frame state go = go [] state
listed program (part ∷ rest) lower frame state go =
    after (expression program part lower frame state) (λ value state'. listed program rest lower frame state' (λ values. go (value ∷ values)))

-- the expression of a statement
abbrev pub part_of : t.Stmt → Expr
part_of (t.Let name part) = part
part_of (t.LetVar name part) = part
part_of (t.Set name part) = part
part_of (t.Do part) = part
part_of (t.Back part) = part

-- what a statement and those behind it make of the value of its expression
abbrev pub settled : List Decl → t.Stmt → List t.Stmt → Allowance → Frame → Value → State → Done
settled program (t.Let name part) rest lower frame value state = statements program rest lower (in_scope frame name (l.Plain value)) (nil program) state
settled program (t.LetVar name part) rest lower frame value state =
    statements program rest lower (in_scope frame name (l.Cell (length state.heap.cells))) (nil program) (with_cell state value)
settled program (t.Set name part) rest lower frame value state =
    assigned (bound name frame.scope) value state (statements program rest lower frame (nil program))
settled program (t.Do part) rest lower frame value state = statements program rest lower frame value state
settled program (t.Back part) rest lower frame value state = Stops (Back frame.home value) state

-- how many parts the largest body of a method has
abbrev pub decl_size : Decl → ℕ
decl_size (d.Object name parents) = 0
decl_size (d.Predicate name parents test) = 0
decl_size (d.Field key start changeable) = 0
decl_size (d.Method key formals body) = size body

abbrev pub largest : List Decl → ℕ
largest program = greatest (map decl_size program)

-- the bodies of closures have at most so many parts
abbrev pub AreWithin : ℕ → List Held → Type 0
AreWithin limit closures = AllByRecursion (λ held. size held.body ≤ limit) closures

abbrev pub IsReachedWithin : ℕ → Reached → Type 0
IsReachedWithin limit (h.Closure held) = size held.body ≤ limit
IsReachedWithin limit (h.Ends outcome) = ⊤

abbrev pub IsActWithin : ℕ → Act → Type 0
IsActWithin limit (a.Ends outcome) = ⊤
IsActWithin limit (a.Evaluates held values) = size held.body ≤ limit
IsActWithin limit (a.Repeats held) = size held.body ≤ limit
