use Rattle.std.proofs.Common.{drop, ◌∙◌, ap, sym, subst, Some, None, arith, ◌≡◌, ◌≤◌, [], List, ℕ, true, length, ◌+◌, ◌-◌, ◌*◌, ◌<◌}
use Rattle.std.proofs.lemmas.List.{map-id}
use Rattle.std.proofs.lemmas.Result.{IfOk-weaker}
use Rattle.std.proofs.Math.Numerals.{suc-eq-add-one}
use Rattle.std.specs.Option.{option_copied}
use Rattle.vx_lists.proofs.Counts.{part_size}
use Rattle.vx_names.specs.declared.key.DeclKey.TheVariants as k
use Rattle.vx_names.specs.declared.key.FieldKey.{FieldKey}
use Rattle.vx_syntax.specs.declared.decl.Decl.TheVariants as d
use Rattle.vx_syntax.specs.declared.expr.Expr.{Expr}
use Rattle.vx_syntax.specs.Counts.{size, expr_size, stmt_size}
use Rattle.vx_program.specs.Program.{occupies}
use Rattle.vx_model.specs.declared.look.Look.TheVariants as look
use Rattle.vx_model.specs.declared.report.RunError.TheVariants as e
use Rattle.vx_model.specs.declared.value.Value.{Value}
use Rattle.vx_model.specs.Kinds.{maker}
use Rattle.vx_model.specs.Meaning.{State, Done, Stops, Fails, Message, after, allowance, body_of, call, caught, closed, constructing, evaluated, evaluation}
use Rattle.vx_model.specs.Meaning.{expression, made, statements, turns}
use Rattle.vx_model.specs.Values.{is_made, nil}
use Rattle.vx_meaning.specs.States.{AreWithin, IsActWithin, act, done, follow, frame_of, largest, listed, settled, state_of}
use Rattle.vx_meaning.proofs.Entering.{entered_differs, entered_is, evaluated_differs, evaluated_is}
use Rattle.vx_meaning.proofs.Keys.{constructing_made, names}
use Rattle.vx_meaning.proofs.Parts.{constructed, left, part_gives, part_stops, parts_end, sent, stays}
use Rattle.vx_meaning.proofs.Rows.{closure_listed, new_listed, send_listed}
use Rattle.vx_meaning.proofs.Sizes.{closure_size, found_size, statement_size}
use Rattle.vx_meaning.proofs.Spends.{call_finds, call_none, evaluation_none, evaluation_some, room, room_below, turns_none, turns_some}
use Rattle.vx_meaning.proofs.Statements.{statements_more}
use Rattle.vx_meaning.proofs.evaluate.+evaluation.Goals as goal

-- activate: as many arguments as formals, or none is done

pub activate-returns-then-formals-len-clause-done :
    goal.activate-returns-then-formals-len-clause-done
activate-returns-then-formals-len-clause-done t c =
    entered_differs c.args.program.now (allowance c.args.program.now c.args.g) c.args.key c.args.formals.now c.args.body.now c.args.values
    (state_of c.args.memory.now) (λ same. c.if-formals-len.true (same ∙ sym c.len.ensures))

pub activate-returns-clause-done : goal.activate-returns-clause-done
activate-returns-clause-done t c =
    let program = c.args.program.now in
    let lower = allowance program c.args.g in
    let memory = c.args.memory.now in
    let begun : State = record { heap = memory.heap; next = memory.next + 1; lines = memory.lines } in
    let frame = frame_of c.in_ok-frame.frame in
    entered_is program lower c.args.key c.args.formals.now c.args.body.now c.args.values (state_of memory) frame c.in_ok-frame.ensures
    ∙ ap (λ n. caught memory.next (body_of program c.args.body.now lower frame (record { heap = memory.heap; next = n; lines = memory.lines })))
    (suc-eq-add-one memory.next)
    ∙ ap (λ l. caught memory.next (statements program l lower frame (nil program) begun)) (sym c.as_slice-body.ensures)
    ∙ ap (caught memory.next) c.in_ok-outcome.ensures.done
    ∙ sym (c.catch.ensures c.run.new.memory)

-- answer: a call takes one of the allowance, and does what it finds

pub answer-returns-then-g-eq0-clause-done : goal.answer-returns-then-g-eq0-clause-done
answer-returns-then-g-eq0-clause-done t c =
    let message : Message = record { selector = c.args.selector.now; arguments = c.args.values; below = option_copied c.args.below } in
    ap (λ n. call (allowance c.args.program.now n) message (state_of c.args.memory.now)) c.if-g-eq0.true
    ∙ call_none c.args.program.now message (state_of c.args.memory.now)

pub answer-returns-in-One-clause-done : goal.answer-returns-in-One-clause-done
answer-returns-in-One-clause-done t c =
    let message : Message = record { selector = c.args.selector.now; arguments = c.args.values; below = option_copied c.args.below } in
    let some : 0 < c.args.g = omega arith in
    IfOk-weaker c.enter.result _ _
    (λ outcome e.
    call_finds c.args.program.now c.args.g message (state_of c.args.memory.now) c.as_slice.result.now some c.as_slice.ensures
    c.in_ok-key.field-0 (look.One c.in-One.key) c.in_ok-key.ensures c.in-One.is
    ∙ e)
    c.enter.ensures.done

pub answer-returns-in_ok-copy-in-None-clause-done :
    goal.answer-returns-in_ok-copy-in-None-clause-done
answer-returns-in_ok-copy-in-None-clause-done t c =
    let message : Message = record { selector = c.args.selector.now; arguments = c.args.values; below = option_copied c.args.below } in
    let some : 0 < c.args.g = omega arith in
    call_finds c.args.program.now c.args.g message (state_of c.args.memory.now) c.as_slice.result.now some c.as_slice.ensures
    c.in_ok-key.field-0 look.None c.in_ok-key.ensures c.in-None.is
    ∙ ap (λ selector. Stops (Fails (e.NotUnderstood selector)) (state_of c.args.memory.now)) (sym c.in_ok-copy-in-None.ensures)

pub answer-returns-in_ok-copy-in-Many-clause-done :
    goal.answer-returns-in_ok-copy-in-Many-clause-done
answer-returns-in_ok-copy-in-Many-clause-done t c =
    let message : Message = record { selector = c.args.selector.now; arguments = c.args.values; below = option_copied c.args.below } in
    let some : 0 < c.args.g = omega arith in
    call_finds c.args.program.now c.args.g message (state_of c.args.memory.now) c.as_slice.result.now some c.as_slice.ensures
    c.in_ok-key.field-0 look.Many c.in_ok-key.ensures c.in-Many.is
    ∙ ap (λ selector. Stops (Fails (e.Ambiguous selector)) (state_of c.args.memory.now)) (sym c.in_ok-copy-in-Many.ensures)

-- construct: the parts behind the names

pub construct-evaluate-requires : goal.construct-evaluate-requires
construct-evaluate-requires t c =
    let within : c.loop-field.field-index < length c.args.fields.now = omega (arith, c.loop-field-test.true) in
    let own : List ℕ × Expr → ℕ = λ field. expr_size field.1 in
    let small = part_size own c.args.fields.now c.loop-field.field-index c.field-item.result within c.field-item.is in
    let fits : expr_size c.field-item.result.1 ≤ largest c.args.program.now = omega (arith, small, c.requires.size) in
    (omega (arith, small), (fits, c.loop-field.invariant.within))

pub construct-returns-in_default : goal.construct-returns-in_default
construct-returns-in_default t c =
    let program = c.args.program.now in
    let within : c.loop-field.field-index < length c.args.fields.now = omega (arith, c.loop-field-test.true) in
    let made_so : is_made program c.args.class.now ≡ true = sym c.is_made.ensures ∙ c.if-not-is_made.false in
    let all = constructed program c.args.fields.now c.args.g (frame_of c.args.frame.now) in
    let state = state_of c.args.memory.now in
    let start : (go : List FieldKey → Done) → constructing program c.args.class.now (names c.args.fields.now) go state ≡ go c.in-All.keys =
    constructing_made program c.args.class.now c.args.fields.now state made_so c.in_ok-keys.field-0 c.in_ok-keys.ensures c.in-All.keys c.in-All.is in
    let go : List Value → State → Done = made program c.args.class.now c.in-All.keys in
    record {
      done =
          start (λ keys. left all 0 [] state (made program c.args.class.now keys))
          ∙ c.loop-field.invariant.done go
          ∙ part_stops all c.loop-field.field-index c.field-item.result c.loop-field.values (state_of c.loop-field.memory) go within c.field-item.is
          (done c.in_ok-other.other c.evaluate.new.memory) c.in_ok-other.ensures.done
          (stays c.in_ok-other.other c.evaluate.new.memory c.in_default.not-Gives);
      within = c.in_ok-other.ensures.within;
    }

pub construct-loop-field-preserved : goal.construct-loop-field-preserved
construct-loop-field-preserved t c =
    let within : c.loop-field.field-index < length c.args.fields.now = omega (arith, c.loop-field-test.true) in
    let all = constructed c.args.program.now c.args.fields.now c.args.g (frame_of c.args.frame.now) in
    record {
      done = λ go.
          c.loop-field.invariant.done go
          ∙ part_gives all c.loop-field.field-index c.field-item.result c.loop-field.values (state_of c.loop-field.memory) go within c.field-item.is
          c.in-Gives.value (state_of c.evaluate.new.memory)
          (c.in_ok-other.ensures.done ∙ ap (λ outcome. done outcome c.evaluate.new.memory) c.in-Gives.is)
          ∙ ap (λ values. left all (c.loop-field.field-index + 1) values (state_of c.evaluate.new.memory) go) (sym c.in_ok-push-in-Gives.ensures.ok);
      within = c.in_ok-other.ensures.within;
    }

pub construct-returns-clause-done : goal.construct-returns-clause-done
construct-returns-clause-done t c =
    let program = c.args.program.now in
    let over : length c.args.fields.now ≤ c.loop-field.field-index = omega (arith, c.loop-field-test.false) in
    let made_so : is_made program c.args.class.now ≡ true = sym c.is_made.ensures ∙ c.if-not-is_made.false in
    let all = constructed program c.args.fields.now c.args.g (frame_of c.args.frame.now) in
    let state = state_of c.args.memory.now in
    let start : (go : List FieldKey → Done) → constructing program c.args.class.now (names c.args.fields.now) go state ≡ go c.in-All.keys =
    constructing_made program c.args.class.now c.args.fields.now state made_so c.in_ok-keys.field-0 c.in_ok-keys.ensures c.in-All.keys c.in-All.is in
    let go : List Value → State → Done = made program c.args.class.now c.in-All.keys in
    IfOk-weaker c.make.result _ _
    (λ outcome e.
    start (λ keys. left all 0 [] state (made program c.args.class.now keys))
    ∙ c.loop-field.invariant.done go
    ∙ parts_end all c.loop-field.field-index c.loop-field.values (state_of c.loop-field.memory) go over
    ∙ ap (λ keys. made program c.args.class.now keys c.loop-field.values (state_of c.loop-field.memory)) (sym c.as_slice.ensures)
    ∙ ap (λ values. made program c.args.class.now c.as_slice.result.now values (state_of c.loop-field.memory)) (sym c.as_slice-2.ensures)
    ∙ e)
    c.make.ensures.done

-- enter: the body of a method of the program is no larger than the largest

pub enter-activate-requires : goal.enter-activate-requires
enter-activate-requires t c =
    let own = c.in-Some-Method in
    let made_so : maker c.args.program.now c.args.key ≡ Some (d.Method own.field-0-0 own.formals own.body) =
    ap (λ key. maker c.args.program.now key) (sym c.in_ok-copy-in-Source.ensures) ∙ sym own.ensures ∙ ap Some own.field-0-is in
    let small = found_size (λ decl. occupies decl (k.Method c.args.key)) c.args.program.now own.field-0-0 own.formals own.body made_so in
    (omega (arith, small), (small, c.requires.within))

-- evaluate: an expression by its list

pub evaluate-returns-in-Send-clause-done : goal.evaluate-returns-in-Send-clause-done
evaluate-returns-in-Send-clause-done t c =
    let program = c.args.program.now in
    let lower = allowance program c.args.g in
    let frame = frame_of c.args.frame.now in
    let state = state_of c.args.memory.now in
    let go : List Value → State → Done = λ values. call lower (record { selector = c.in-Send.selector; arguments = values; below = None }) in
    IfOk-weaker c.send.result _ _
    (λ outcome e.
    ap (λ part. expression program part lower frame state) c.in-Send.is
    ∙ send_listed program lower frame c.in-Send.selector c.in-Send.arguments state
    ∙ ap (λ l. listed program l lower frame state go) (sym c.as_slice-arguments.ensures)
    ∙ e)
    c.send.ensures.done

pub evaluate-returns-in-New-clause-done : goal.evaluate-returns-in-New-clause-done
evaluate-returns-in-New-clause-done t c =
    let program = c.args.program.now in
    let frame = frame_of c.args.frame.now in
    let state = state_of c.args.memory.now in
    IfOk-weaker c.construct.result _ _
    (λ outcome e.
    ap (λ part. expression program part (allowance program c.args.g) frame state) c.in-New.is
    ∙ new_listed program (allowance program c.args.g) frame c.in-New.class c.in-New.fields state
    ∙ ap (λ l. constructing program c.in-New.class (names l)
    (λ keys. left (constructed program l c.args.g frame) 0 [] state (made program c.in-New.class keys)) state)
    (sym c.as_slice-in-New.ensures)
    ∙ e)
    c.construct.ensures.done

pub evaluate-returns-in-Closure-clause-done : goal.evaluate-returns-in-Closure-clause-done
evaluate-returns-in-Closure-clause-done t c =
    let program = c.args.program.now in
    let lower = allowance program c.args.g in
    let frame = frame_of c.args.frame.now in
    let state = state_of c.args.memory.now in
    IfOk-weaker c.close.result _ _
    (λ outcome e.
    ap (λ part. expression program part lower frame state) c.in-Closure.is
    ∙ closure_listed program lower frame c.in-Closure.formals c.in-Closure.body.0 state
    ∙ ap (λ formals. closed frame formals c.in-Closure.body.0 state) (sym c.as_slice-in-Closure.ensures)
    ∙ e)
    c.close.ensures.done

pub evaluate-returns-in-Closure-clause-within : goal.evaluate-returns-in-Closure-clause-within
evaluate-returns-in-Closure-clause-within t c =
    let whole : expr_size c.args.part.now ≡ 1 + size c.in-Closure.body = ap expr_size c.in-Closure.is ∙ closure_size c.in-Closure.formals c.in-Closure.body in
    let small : size c.in-Closure.body ≤ largest c.args.program.now = omega (arith, whole, c.requires.size) in
    IfOk-weaker c.close.result _ _ (λ outcome e. e (largest c.args.program.now) small c.requires.within) c.close.ensures.within

-- open: as many arguments as formals, or none is done

pub open-returns-then-len-values-clause-done : goal.open-returns-then-len-values-clause-done
open-returns-then-len-values-clause-done t c =
    evaluated_differs c.args.program.now (allowance c.args.program.now c.args.g) c.args.held.now c.args.values.now (state_of c.args.memory.now)
    (λ same. c.if-len-values.true (c.len.ensures ∙ same))

pub open-returns-clause-done : goal.open-returns-clause-done
open-returns-clause-done t c =
    let program = c.args.program.now in
    let lower = allowance program c.args.g in
    let frame = frame_of c.in_ok-frame.frame in
    let state = state_of c.args.memory.now in
    IfOk-weaker c.run.result _ _
    (λ outcome e.
    evaluated_is program lower c.args.held.now c.args.values.now state frame c.in_ok-frame.ensures
    ∙ ap (λ l. statements program l lower frame (nil program) state) (sym c.as_slice-body.ensures)
    ∙ e)
    c.run.ensures.done

-- operate: what the primitive leaves is done

pub operate-returns-then-g-eq0-clause-done : goal.operate-returns-then-g-eq0-clause-done
operate-returns-then-g-eq0-clause-done t c =
    let program = c.args.program.now in
    let own = c.in-Evaluates in
    let state = state_of c.act.new.memory in
    c.in_ok-outcome.ensures.done (allowance program c.args.g)
    ∙ ap (λ left. act program (allowance program c.args.g) left c.act.new.memory) own.is
    ∙ ap (λ n. evaluation program (allowance program n) own.held own.arguments state) c.if-g-eq0.true
    ∙ evaluation_none program own.held own.arguments state

pub operate-returns-then-g-eq0-clause-within : goal.operate-returns-then-g-eq0-clause-within
operate-returns-then-g-eq0-clause-within t c = (c.in_ok-outcome.ensures.within (largest c.args.program.now) c.requires.within).0

pub operate-open-requires : goal.operate-open-requires
operate-open-requires t c =
    let limit = largest c.args.program.now in
    let all = c.in_ok-outcome.ensures.within limit c.requires.within in
    let small : size c.in-Evaluates.held.body ≤ limit = subst (IsActWithin limit) c.in-Evaluates.is all.1 in
    let some : 0 < c.args.g = omega arith in
    let less = room c.args.g (4 * limit + 10) some in
    (omega (arith, less, small), (small, all.0))

pub operate-repeat-requires : goal.operate-repeat-requires
operate-repeat-requires t c =
    let limit = largest c.args.program.now in
    let all = c.in_ok-outcome.ensures.within limit c.requires.within in
    let small : size c.in-Repeats.held.body ≤ limit = subst (IsActWithin limit) c.in-Repeats.is all.1 in
    (omega arith, (small, all.0))

pub operate-returns-in-Ends-clause-done : goal.operate-returns-in-Ends-clause-done
operate-returns-in-Ends-clause-done t c =
    let lower = allowance c.args.program.now c.args.g in
    c.in_ok-outcome.ensures.done lower ∙ ap (λ left. act c.args.program.now lower left c.act.new.memory) c.in-Ends.is

pub operate-returns-in-Ends-clause-within : goal.operate-returns-in-Ends-clause-within
operate-returns-in-Ends-clause-within t c = (c.in_ok-outcome.ensures.within (largest c.args.program.now) c.requires.within).0

pub operate-returns-else-g-eq0-clause-done : goal.operate-returns-else-g-eq0-clause-done
operate-returns-else-g-eq0-clause-done t c =
    let program = c.args.program.now in
    let own = c.in-Evaluates in
    let state = state_of c.act.new.memory in
    let some : 0 < c.args.g = omega arith in
    IfOk-weaker c.open.result _ _
    (λ outcome e.
    c.in_ok-outcome.ensures.done (allowance program c.args.g)
    ∙ ap (λ left. act program (allowance program c.args.g) left c.act.new.memory) own.is
    ∙ evaluation_some program c.args.g own.held own.arguments state some
    ∙ ap (λ values. evaluated program (allowance program (c.args.g - 1)) own.held values state) (sym c.as_slice.ensures)
    ∙ e)
    c.open.ensures.done

pub operate-returns-in-Repeats-clause-done : goal.operate-returns-in-Repeats-clause-done
operate-returns-in-Repeats-clause-done t c =
    let lower = allowance c.args.program.now c.args.g in
    IfOk-weaker c.repeat.result _ _
    (λ outcome e. c.in_ok-outcome.ensures.done lower ∙ ap (λ left. act c.args.program.now lower left c.act.new.memory) c.in-Repeats.is ∙ e)
    c.repeat.ensures.done

-- repeat: turn by turn

pub repeat-open-requires : goal.repeat-open-requires
repeat-open-requires t c =
    let limit = largest c.args.program.now in
    let below : c.loop-left.left - 1 < c.args.g = omega (arith, c.loop-left.auto.left, c.loop-left-test.true) in
    let less = room_below (c.loop-left.left - 1) c.args.g (4 * limit + 10) below in
    (omega (arith, less, c.requires.size), (c.requires.size, c.loop-left.invariant.within))

pub repeat-loop-left-preserved : goal.repeat-loop-left-preserved
repeat-loop-left-preserved t c =
    let program = c.args.program.now in
    let held = c.args.held.now in
    let some : 0 < c.loop-left.left = omega (arith, c.loop-left-test.true) in
    record {
      done =
          c.loop-left.invariant.done
          ∙ turns_some program c.loop-left.left held (state_of c.loop-left.memory) some
          ∙ ap (λ done. after done (λ value. turns program (allowance program (c.loop-left.left - 1)) held))
          (c.in_ok-other.ensures.done ∙ ap (λ outcome. done outcome c.open.new.memory) c.in-Gives.is);
      within = c.in_ok-other.ensures.within;
    }

pub repeat-returns-in_default : goal.repeat-returns-in_default
repeat-returns-in_default t c =
    let program = c.args.program.now in
    let held = c.args.held.now in
    let some : 0 < c.loop-left.left = omega (arith, c.loop-left-test.true) in
    let go : Value → State → Done = λ value. turns program (allowance program (c.loop-left.left - 1)) held in
    record {
      done =
          c.loop-left.invariant.done
          ∙ turns_some program c.loop-left.left held (state_of c.loop-left.memory) some
          ∙ ap (λ done. after done go) c.in_ok-other.ensures.done
          ∙ stays c.in_ok-other.other c.open.new.memory c.in_default.not-Gives go;
      within = c.in_ok-other.ensures.within;
    }

pub repeat-returns-clause-done : goal.repeat-returns-clause-done
repeat-returns-clause-done t c =
    let program = c.args.program.now in
    let none : c.loop-left.left ≡ 0 = omega (arith, c.loop-left-test.false) in
    c.loop-left.invariant.done
    ∙ ap (λ n. turns program (allowance program n) c.args.held.now (state_of c.loop-left.memory)) none
    ∙ turns_none program c.args.held.now (state_of c.loop-left.memory)

-- run: statement by statement

pub run-evaluate-requires : goal.run-evaluate-requires
run-evaluate-requires t c =
    let within : c.loop-statement.statement-index < length c.args.body.now = omega (arith, c.loop-statement-test.true) in
    let small = part_size stmt_size c.args.body.now c.loop-statement.statement-index c.statement-item.result within c.statement-item.is in
    let part : expr_size c.part_of.result.now ≤ stmt_size c.statement-item.result =
    subst (λ e. expr_size e ≤ stmt_size c.statement-item.result) (sym c.part_of.ensures) (statement_size c.statement-item.result) in
    (omega (arith, small, part), (omega (arith, small, part, c.requires.size), c.loop-statement.invariant.within))

pub run-returns-in-Ends-clause-done : goal.run-returns-in-Ends-clause-done
run-returns-in-Ends-clause-done t c =
    let within : c.loop-statement.statement-index < length c.args.body.now = omega (arith, c.loop-statement-test.true) in
    let program = c.args.program.now in
    let lower = allowance program c.args.g in
    let rest = drop (c.loop-statement.statement-index + 1) c.args.body.now in
    let frame = frame_of c.loop-statement.frame in
    let go : Value → State → Done = settled program c.statement-item.result rest lower frame in
    c.loop-statement.invariant.done
    ∙ statements_more program c.args.body.now c.loop-statement.statement-index lower frame c.loop-statement.last (state_of c.loop-statement.memory)
    c.statement-item.result within c.statement-item.is
    ∙ ap (λ part. after (expression program part lower frame (state_of c.loop-statement.memory)) go) (sym c.part_of.ensures)
    ∙ ap (λ done. after done go) (c.in_ok-other.ensures.done ∙ ap (λ outcome. done outcome c.evaluate.new.memory) c.in-Gives.is)
    ∙ c.in_ok-value.ensures.done rest lower
    ∙ ap (λ flow. follow flow c.settle.new.memory (statements program rest lower (frame_of c.settle.new.frame))) c.in-Ends.is

pub run-loop-statement-preserved : goal.run-loop-statement-preserved
run-loop-statement-preserved t c =
    let within : c.loop-statement.statement-index < length c.args.body.now = omega (arith, c.loop-statement-test.true) in
    let program = c.args.program.now in
    let lower = allowance program c.args.g in
    let rest = drop (c.loop-statement.statement-index + 1) c.args.body.now in
    let frame = frame_of c.loop-statement.frame in
    let go : Value → State → Done = settled program c.statement-item.result rest lower frame in
    record {
      done =
          c.loop-statement.invariant.done
          ∙ statements_more program c.args.body.now c.loop-statement.statement-index lower frame c.loop-statement.last (state_of c.loop-statement.memory)
          c.statement-item.result within c.statement-item.is
          ∙ ap (λ part. after (expression program part lower frame (state_of c.loop-statement.memory)) go) (sym c.part_of.ensures)
          ∙ ap (λ done. after done go) (c.in_ok-other.ensures.done ∙ ap (λ outcome. done outcome c.evaluate.new.memory) c.in-Gives.is)
          ∙ c.in_ok-value.ensures.done rest lower
          ∙ ap (λ flow. follow flow c.settle.new.memory (statements program rest lower (frame_of c.settle.new.frame))) c.in-Next.is;
      within = subst (AreWithin (largest program)) (sym c.in_ok-value.ensures.closures) c.in_ok-other.ensures.within;
    }

-- send: the arguments, and then the call

pub send-evaluate-requires : goal.send-evaluate-requires
send-evaluate-requires t c =
    let within : c.loop-argument.argument-index < length c.args.arguments.now = omega (arith, c.loop-argument-test.true) in
    let small = part_size expr_size c.args.arguments.now c.loop-argument.argument-index c.argument-item.result within c.argument-item.is in
    (omega (arith, small), (omega (arith, small, c.requires.size), c.loop-argument.invariant.within))

pub send-returns-in_default : goal.send-returns-in_default
send-returns-in_default t c =
    let within : c.loop-argument.argument-index < length c.args.arguments.now = omega (arith, c.loop-argument-test.true) in
    let program = c.args.program.now in
    let lower = allowance program c.args.g in
    let all = sent program c.args.arguments.now c.args.g (frame_of c.args.frame.now) in
    let go : List Value → State → Done = λ values. call lower (record { selector = c.args.selector.now; arguments = values; below = None }) in
    record {
      done =
          ap (λ l. listed program l lower (frame_of c.args.frame.now) (state_of c.args.memory.now) go) (sym (map-id c.args.arguments.now))
          ∙ c.loop-argument.invariant.done go
          ∙ part_stops all c.loop-argument.argument-index c.argument-item.result c.loop-argument.values (state_of c.loop-argument.memory) go within
          c.argument-item.is (done c.in_ok-other.other c.evaluate.new.memory) c.in_ok-other.ensures.done
          (stays c.in_ok-other.other c.evaluate.new.memory c.in_default.not-Gives);
      within = c.in_ok-other.ensures.within;
    }

pub send-loop-argument-preserved : goal.send-loop-argument-preserved
send-loop-argument-preserved t c =
    let within : c.loop-argument.argument-index < length c.args.arguments.now = omega (arith, c.loop-argument-test.true) in
    let all = sent c.args.program.now c.args.arguments.now c.args.g (frame_of c.args.frame.now) in
    record {
      done = λ go.
          c.loop-argument.invariant.done go
          ∙ part_gives all c.loop-argument.argument-index c.argument-item.result c.loop-argument.values (state_of c.loop-argument.memory) go within
          c.argument-item.is c.in-Gives.value (state_of c.evaluate.new.memory)
          (c.in_ok-other.ensures.done ∙ ap (λ outcome. done outcome c.evaluate.new.memory) c.in-Gives.is)
          ∙ ap (λ values. left all (c.loop-argument.argument-index + 1) values (state_of c.evaluate.new.memory) go) (sym c.in_ok-push-in-Gives.ensures.ok);
      within = c.in_ok-other.ensures.within;
    }

pub send-returns-clause-done : goal.send-returns-clause-done
send-returns-clause-done t c =
    let over : length c.args.arguments.now ≤ c.loop-argument.argument-index = omega (arith, c.loop-argument-test.false) in
    let program = c.args.program.now in
    let lower = allowance program c.args.g in
    let all = sent program c.args.arguments.now c.args.g (frame_of c.args.frame.now) in
    let go : List Value → State → Done = λ values. call lower (record { selector = c.args.selector.now; arguments = values; below = None }) in
    IfOk-weaker c.answer.result _ _
    (λ outcome e.
    ap (λ l. listed program l lower (frame_of c.args.frame.now) (state_of c.args.memory.now) go) (sym (map-id c.args.arguments.now))
    ∙ c.loop-argument.invariant.done go
    ∙ parts_end all c.loop-argument.argument-index c.loop-argument.values (state_of c.loop-argument.memory) go over
    ∙ e)
    c.answer.ensures.done
