use Rattle.std.proofs.Common.{◌↔◌, sym, subst}
use Rattle.std.specs.Bool.{Decides}
use Rattle.vx_syntax.specs.Written.{IsTestWritten}
use Rattle.vx_program.proofs.Trees.{ands, ors, negates}
use Rattle.vx_program.proofs.Steps.{by_first, by_second}
use Rattle.vx_program.proofs.writability.+is_test_written.Goals as goal

pub returns-then-is_test_written : goal.returns-then-is_test_written
returns-then-is_test_written t c =
    let both = subst (λ q. IsTestWritten q ↔ (IsTestWritten c.in-And.a × IsTestWritten c.in-And.b)) (sym c.in-And.is) (ands c.in-And.a c.in-And.b) in
    let first = subst IsTestWritten c.get.ensures (c.is_test_written.ensures.0 c.if-is_test_written.true) in
    by_second both first c.is_test_written-then-is_test_written.result
    (subst (λ q. Decides c.is_test_written-then-is_test_written.result (IsTestWritten q)) c.get-then-is_test_written.ensures c.is_test_written-then-is_test_written.ensures)

pub returns-else-is_test_written : goal.returns-else-is_test_written
returns-else-is_test_written t c =
    let both = subst (λ q. IsTestWritten q ↔ (IsTestWritten c.in-And.a × IsTestWritten c.in-And.b)) (sym c.in-And.is) (ands c.in-And.a c.in-And.b) in
    by_first both c.is_test_written.result c.if-is_test_written.false
    (subst (λ q. Decides c.is_test_written.result (IsTestWritten q)) c.get.ensures c.is_test_written.ensures)

pub returns-then-is_test_written-2 : goal.returns-then-is_test_written-2
returns-then-is_test_written-2 t c =
    let both = subst (λ q. IsTestWritten q ↔ (IsTestWritten c.in-Or.a × IsTestWritten c.in-Or.b)) (sym c.in-Or.is) (ors c.in-Or.a c.in-Or.b) in
    let first = subst IsTestWritten c.get-in-Or.ensures (c.is_test_written-in-Or.ensures.0 c.if-is_test_written-2.true) in
    by_second both first c.is_test_written-then-is_test_written-2.result
    (subst (λ q. Decides c.is_test_written-then-is_test_written-2.result (IsTestWritten q)) c.get-then-is_test_written-2.ensures
    c.is_test_written-then-is_test_written-2.ensures)

pub returns-else-is_test_written-2 : goal.returns-else-is_test_written-2
returns-else-is_test_written-2 t c =
    let both = subst (λ q. IsTestWritten q ↔ (IsTestWritten c.in-Or.a × IsTestWritten c.in-Or.b)) (sym c.in-Or.is) (ors c.in-Or.a c.in-Or.b) in
    by_first both c.is_test_written-in-Or.result c.if-is_test_written-2.false
    (subst (λ q. Decides c.is_test_written-in-Or.result (IsTestWritten q)) c.get-in-Or.ensures c.is_test_written-in-Or.ensures)

pub returns-in-Not : goal.returns-in-Not
returns-in-Not t c =
    let held = subst (λ q. IsTestWritten q ↔ IsTestWritten c.in-Not.a) (sym c.in-Not.is) (negates c.in-Not.a) in
    let own = subst (λ q. Decides c.is_test_written-in-Not.result (IsTestWritten q)) c.get-in-Not.ensures c.is_test_written-in-Not.ensures in
    (λ e. held.1 (own.0 e), λ h. own.1 (held.0 h))
