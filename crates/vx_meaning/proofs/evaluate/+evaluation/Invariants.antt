use Rattle.std.proofs.Common.{sum, drop, ◌≡◌, [], List, map, ◌+◌, ◌*◌}
use Rattle.vx_syntax.specs.Counts.{expr_size, size, stmt_size}
use Rattle.vx_model.specs.declared.value.Value.{Value}
use Rattle.vx_model.specs.Meaning.{State, Done, allowance, statements, turns}
use Rattle.vx_model.specs.Values.{nil}
use Rattle.vx_meaning.specs.States.{AreWithin, frame_of, largest, state_of}
use Rattle.vx_meaning.proofs.Parts.{constructed, left, sent}
use Rattle.vx_meaning.proofs.evaluate.+evaluation.Given as goal

abbrev pub decreases-activate : goal.decreases-activate
decreases-activate l = l.g * (4 * largest l.program.now + 10) + 4 * size l.body.now + 6

abbrev pub decreases-answer : goal.decreases-answer
decreases-answer l = l.g * (4 * largest l.program.now + 10) + 1

abbrev pub decreases-construct : goal.decreases-construct
decreases-construct l = l.g * (4 * largest l.program.now + 10) + 4 * sum (map (λ field. expr_size field.1) l.fields.now) + 2

abbrev pub decreases-enter : goal.decreases-enter
decreases-enter l = l.g * (4 * largest l.program.now + 10) + 4 * largest l.program.now + 8

abbrev pub decreases-evaluate : goal.decreases-evaluate
decreases-evaluate l = l.g * (4 * largest l.program.now + 10) + 4 * expr_size l.part.now

abbrev pub decreases-open : goal.decreases-open
decreases-open l = l.g * (4 * largest l.program.now + 10) + 4 * size l.held.now.body + 6

abbrev pub decreases-operate : goal.decreases-operate
decreases-operate l = l.g * (4 * largest l.program.now + 10) + 2

abbrev pub decreases-repeat : goal.decreases-repeat
decreases-repeat l = l.g * (4 * largest l.program.now + 10) + 1

abbrev pub decreases-run : goal.decreases-run
decreases-run l = l.g * (4 * largest l.program.now + 10) + 4 * sum (map stmt_size l.body.now) + 4

abbrev pub decreases-send : goal.decreases-send
decreases-send l = l.g * (4 * largest l.program.now + 10) + 4 * sum (map expr_size l.arguments.now) + 2

abbrev pub invariant-construct-loop-field : goal.invariant-construct-loop-field
invariant-construct-loop-field l =
    record {
      done : (go : List Value → State → Done) → left (constructed l.program l.fields l.g (frame_of l.frame)) 0 [] (state_of l.fn.memory) go
          ≡ left (constructed l.program l.fields l.g (frame_of l.frame)) l.field-index l.values (state_of l.memory) go;
      within : AreWithin (largest l.program) l.memory.heap.closures;
    }

abbrev pub invariant-repeat-loop-left : goal.invariant-repeat-loop-left
invariant-repeat-loop-left l =
    record {
      done : turns l.program (allowance l.program l.g) l.held (state_of l.fn.memory) ≡ turns l.program (allowance l.program l.left) l.held (state_of l.memory);
      within : AreWithin (largest l.program) l.memory.heap.closures;
    }

abbrev pub invariant-run-loop-statement : goal.invariant-run-loop-statement
invariant-run-loop-statement l =
    record {
      done : statements l.program l.body (allowance l.program l.g) (frame_of l.fn.frame) (nil l.program) (state_of l.fn.memory)
          ≡ statements l.program (drop l.statement-index l.body) (allowance l.program l.g) (frame_of l.frame) l.last (state_of l.memory);
      within : AreWithin (largest l.program) l.memory.heap.closures;
    }

abbrev pub invariant-send-loop-argument : goal.invariant-send-loop-argument
invariant-send-loop-argument l =
    record {
      done : (go : List Value → State → Done) → left (sent l.program l.arguments l.g (frame_of l.frame)) 0 [] (state_of l.fn.memory) go
          ≡ left (sent l.program l.arguments l.g (frame_of l.frame)) l.argument-index l.values (state_of l.memory) go;
      within : AreWithin (largest l.program) l.memory.heap.closures;
    }
