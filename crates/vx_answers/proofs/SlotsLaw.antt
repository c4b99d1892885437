-- The laws of slots and shapes: what a program answers, and what it reads for that.
use Rattle.std.proofs.Common.{List, ap, refl, sym, subst, ◌≡◌, ◌⊎◌}
use Rattle.vx_lists.specs.Members.{IsIn}
use Rattle.vx_syntax.specs.declared.decl.Decl.{Decl}
use Rattle.vx_syntax.specs.Expressions.{Bytes}
use Rattle.vx_program.specs.Program.{IsProgram}
use Rattle.vx_node.specs.declared.node.NodeId.{NodeId}
use Rattle.vx_node.specs.declared.node.NodeId.TheVariants as node
use Rattle.vx_node.specs.declared.node.Fact.TheVariants as fact
use Rattle.vx_node.specs.declared.node.Filter.TheVariants as filter
use Rattle.vx_node.specs.declared.node.Target.TheVariants as target
use Rattle.vx_node.specs.declared.answer.Answer.TheVariants as answers
use Rattle.vx_node.specs.Asking.{Gives}
use Rattle.vx_model.specs.Order.{up}
use Rattle.vx_model.specs.Fields.{slots}
use Rattle.vx_answers.specs.MayBe.{MayBe, IsAround}
use Rattle.vx_units.specs.ShapeUnit.{shape_unit}
use Rattle.vx_answers.specs.FieldRows.{slots_row, shape_row, slots_answered}
use Rattle.vx_answers.specs.Answers.{ans, reads}
use Rattle.vx_answers.proofs.ByRow.{facts_are}
use Rattle.vx_answers.proofs.RowLaw.{RowIs, row_is}
use Rattle.vx_answers.proofs.UpLaw.{gives_decls}
use Rattle.vx_answers.proofs.Told.{gives_fields}
use Rattle.vx_answers.proofs.SlotsIs.{TellsChildren, slots_value, slots_reads, slots_reads_decl, slots_reads_around}

tells_children : (program : List Decl) → TellsChildren program (ans program)
tells_children program x = facts_are program (fact.Children x)

pub slots_row_is : (program : List Decl) → IsProgram program → (x : Bytes) →
    RowIs program (node.Filter (filter.Slots x)) answers.Slots (slots_row x) (slots program x)
slots_row_is program is x =
    row_is program (node.Filter (filter.Slots x)) tt answers.Slots (slots_row x) (slots program x) refl
    (slots_value program is x (ans program) (gives_decls program) (gives_fields program) (tells_children program))

pub slots_are_read : (program : List Decl) → IsProgram program → (x : Bytes) (subject : NodeId) → IsIn subject (reads program (node.Filter (filter.Slots x))) →
    ((y : Bytes) × ((y ≡ x) ⊎ IsIn y (up program x)) × (subject ≡ node.Fact (fact.Decl y))) ⊎
    ((y : Bytes) × MayBe program x y × IsAround program y subject)
slots_are_read program is x subject i =
    slots_reads program is x (ans program) (gives_decls program) (gives_fields program) (tells_children program) subject
    (subst (IsIn subject) (slots_row_is program is x).read i)

pub slots_read_each : (program : List Decl) → IsProgram program → (x y : Bytes) → (y ≡ x) ⊎ IsIn y (up program x) →
    IsIn (node.Fact (fact.Decl y)) (reads program (node.Filter (filter.Slots x)))
slots_read_each program is x y which =
    subst (IsIn (node.Fact (fact.Decl y))) (sym (slots_row_is program is x).read)
    (slots_reads_decl program is x (ans program) (gives_decls program) (gives_fields program) (tells_children program) y which)

pub slots_read_around : (program : List Decl) → IsProgram program → (x y : Bytes) (subject : NodeId) → MayBe program x y → IsAround program y subject →
    IsIn subject (reads program (node.Filter (filter.Slots x)))
slots_read_around program is x y subject m a =
    subst (IsIn subject) (sym (slots_row_is program is x).read)
    (slots_reads_around program is x (ans program) (gives_decls program) (gives_fields program) (tells_children program) y subject m a)

pub shape_row_is : (program : List Decl) → IsProgram program → (x : Bytes) →
    RowIs program (node.Target (target.Shape x)) answers.Unit (shape_row x) (shape_unit (slots program x))
shape_row_is program is x =
    row_is program (node.Target (target.Shape x)) tt answers.Unit (shape_row x) (shape_unit (slots program x)) refl
    (ap (λ own. Gives (shape_unit (slots_answered own))) (slots_row_is program is x).answer)
