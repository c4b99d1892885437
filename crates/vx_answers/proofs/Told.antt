-- What passes are told by a program's own answers is what the program tells.
use Rattle.std.proofs.Common.{List, ap, refl, sym, subst, ◌≡◌, ◌∙◌, ◌⊎◌, Option, Some, None, ℕ}
use Rattle.std.proofs.Math.Path.{fun_ext}
use Rattle.vx_names.specs.declared.key.Selector.{Selector}
use Rattle.vx_names.specs.declared.key.MethodKey.{MethodKey}
use Rattle.vx_names.specs.declared.key.FieldKey.{FieldKey}
use Rattle.vx_syntax.specs.declared.decl.Decl.{Decl}
use Rattle.vx_syntax.specs.Expressions.{Bytes}
use Rattle.vx_program.specs.Program.{IsProgram}
use Rattle.vx_lists.specs.Members.{IsIn}
use Rattle.vx_node.specs.declared.node.NodeId.{NodeId}
use Rattle.vx_node.specs.declared.node.NodeId.TheVariants as node
use Rattle.vx_node.specs.declared.node.Target.TheVariants as target
use Rattle.vx_node.specs.declared.node.Variant.{Variant}
use Rattle.vx_compilation.specs.Resolved.{tree}
use Rattle.vx_answers.proofs.CodeLaw.{codes_are_asked}
use Rattle.vx_node.specs.declared.node.Fact.TheVariants as fact
use Rattle.vx_node.specs.declared.node.Filter.TheVariants as filter
use Rattle.vx_node.specs.declared.node.Info.{Info}
use Rattle.vx_node.specs.declared.kind.Kind.{Kind}
use Rattle.vx_node.specs.declared.answer.Bound.{Bound}
use Rattle.vx_node.specs.declared.answer.Stands.{Stands}
use Rattle.vx_node.specs.declared.answer.Answer.TheVariants as answers
use Rattle.vx_node.specs.Asking.{outcome, Gives}
use Rattle.vx_model.specs.Kinds.{Source, source}
use Rattle.vx_model.specs.Order.{base, up}
use Rattle.vx_model.specs.Fields.{field_at}
use Rattle.vx_compilation.specs.Questions.{Asked}
use Rattle.vx_compilation.specs.Binding.{Order, bind}
use Rattle.vx_compilation.specs.Inlining.{inline}
use Rattle.vx_compilation.specs.Cloning.{clones}
use Rattle.vx_compilation.specs.Compiled.{there, heads, order, asked}
use Rattle.vx_compilation.specs.Readings.{told, source_of, there_in, heads_in, source_in, base_in, field_in, inline_in, bound_in, clones_in}
use Rattle.vx_answers.specs.Facts.{text_of}
use Rattle.vx_answers.specs.FieldRows.{field_row}
use Rattle.vx_answers.specs.SendRows.{names_in, bind_among, bind_row, inline_row, clones_row}
use Rattle.vx_units.specs.CodeUnit.{code_unit}
use Rattle.vx_answers.specs.Answers.{ans, reads}
use Rattle.vx_answers.proofs.ByRow.{facts_are}
use Rattle.vx_answers.proofs.RowLaw.{RowIs, row_is}
use Rattle.vx_answers.proofs.UpLaw.{gives_decls, up_answer}
use Rattle.vx_answers.proofs.ConeLaw.{cone_answer}
use Rattle.vx_answers.proofs.BaseLaw.{base_row_is}
use Rattle.vx_answers.proofs.BindIs.{order_told}
use Rattle.vx_answers.proofs.BindSame.{among_is}
use Rattle.vx_answers.proofs.ClonesIs.{clones_are}
use Rattle.vx_answers.proofs.FieldIs.{GivesFields, IsOfAbove, field_value, field_reads, field_reads_decl, field_reads_fields}

-- a source is what its text says
same_source : (o : Option Source) → source_of (text_of o) ≡ o
same_source None = refl
same_source (Some own) = refl

pub gives_fields : (program : List Decl) → GivesFields program (ans program)
gives_fields program x = facts_are program (fact.Fields x)

source_told : (program : List Decl) (key : MethodKey) → (told (ans program)).body key ≡ source program key
source_told program key = ap source_in (facts_are program (fact.Body key)) ∙ same_source (source program key)

pub heads_told : (program : List Decl) (selector : Selector) → (told (ans program)).heads selector ≡ heads program selector
heads_told program selector = ap heads_in (facts_are program (fact.Heads selector))

-- ---- fields

pub field_row_is : (program : List Decl) → IsProgram program → (class name : Bytes) →
    RowIs program (node.Filter (filter.Field class name)) answers.Field (field_row class name) (field_at program class name)
field_row_is program is class name =
    row_is program (node.Filter (filter.Field class name)) tt answers.Field (field_row class name) (field_at program class name) refl
    (field_value program is (ans program) (gives_decls program) (gives_fields program) class name)

-- ---- inlining

pub inline_row_is : (program : List Decl) (key : MethodKey) →
    RowIs program (node.Filter (filter.Inline key)) (λ own. answers.Inline (text_of own)) (inline_row key) (inline (source program key))
inline_row_is program key =
    row_is program (node.Filter (filter.Inline key)) tt (λ own. answers.Inline (text_of own)) (inline_row key) (inline (source program key)) refl
    (ap (λ o. Gives (inline o)) (source_told program key))

-- ---- bindings

pub order_is : (program : List Decl) → IsProgram program → order_told (ans program) ≡ order program
order_is program is =
    ap {B = Order} (λ z. record { base = z; up = (order_told (ans program)).up; cone = (order_told (ans program)).cone })
    (fun_ext (λ x. ap base_in (base_row_is program is x).answer))
    ∙ ap {B = Order} (λ z. record { base = base program; up = z; cone = (order_told (ans program)).cone })
    (fun_ext (λ x. ap names_in (up_answer program is x)))
    ∙ ap {B = Order} (λ z. record { base = base program; up = up program; cone = z }) (fun_ext (λ x. ap names_in (cone_answer program is x)))

-- what a program binds a message to
abbrev pub bound_by : List Decl → Selector → List Info → Option MethodKey → Bound
bound_by program selector infos below = bind (order program) (heads program selector) infos below

pub bind_row_is : (program : List Decl) → IsProgram program → (selector : Selector) (infos : List Info) (below : Option MethodKey) →
    RowIs program (node.Filter (filter.Bind selector infos below)) answers.Bind (bind_row selector infos below) (bound_by program selector infos below)
bind_row_is program is selector infos below =
    row_is program (node.Filter (filter.Bind selector infos below)) tt answers.Bind (bind_row selector infos below) (bound_by program selector infos below) refl
    (ap (λ own. outcome (bind_among own infos below) (ans program)) (heads_told program selector)
    ∙ among_is (ans program) (heads program selector) infos below
    ∙ ap (λ own. Gives (bind own (heads program selector) infos below)) (order_is program is))

bind_told : (program : List Decl) → IsProgram program → (told (ans program)).bind ≡ bound_by program
bind_told program is =
    fun_ext (λ selector. fun_ext (λ infos. fun_ext (λ below. ap bound_in (bind_row_is program is selector infos below).answer)))

-- ---- clones

abbrev pub clones_by : List Decl → MethodKey → Option (ℕ × List Bytes)
clones_by program key = clones (order program) (bound_by program) key (source program key)

pub clones_row_is : (program : List Decl) → IsProgram program → (key : MethodKey) →
    RowIs program (node.Filter (filter.Clones key)) answers.Clones (clones_row key) (clones_by program key)
clones_row_is program is key =
    row_is program (node.Filter (filter.Clones key)) tt answers.Clones (clones_row key) (clones_by program key) refl
    (clones_are (ans program) key
    ∙ ap (λ own. Gives (clones own (told (ans program)).bind key ((told (ans program)).body key))) (order_is program is)
    ∙ ap (λ own. Gives (clones (order program) own key ((told (ans program)).body key))) (bind_told program is)
    ∙ ap (λ own. Gives (clones (order program) (bound_by program) key own)) (source_told program key))

-- ---- all of it

abbrev tells : (Bytes → Stands) → (Selector → List (MethodKey × Kind)) → (MethodKey → Option Source) → (Bytes → Option Bytes) →
    (Bytes → Bytes → Option FieldKey) → (MethodKey → Option Source) → (Selector → List Info → Option MethodKey → Bound) →
    (MethodKey → Option (ℕ × List Bytes)) → Asked
tells a b c d e f g h = record { there = a; heads = b; body = c; base = d; field = e; inline = f; bind = g; clones = h }

asked_is : (program : List Decl) → tells (there program) (heads program) (source program) (base program) (field_at program) (λ key. inline (source program key))
    (bound_by program) (clones_by program) ≡ asked program
unfolding asked
asked_is program = refl

pub told_is : (program : List Decl) → IsProgram program → told (ans program) ≡ asked program
told_is program is =
    let t : Asked = told (ans program) in
    ap (λ z. tells z t.heads t.body t.base t.field t.inline t.bind t.clones) (fun_ext (λ x. ap there_in (facts_are program (fact.There x))))
    ∙ ap (λ z. tells (there program) z t.body t.base t.field t.inline t.bind t.clones) (fun_ext (heads_told program))
    ∙ ap (λ z. tells (there program) (heads program) z t.base t.field t.inline t.bind t.clones) (fun_ext (source_told program))
    ∙ ap (λ z. tells (there program) (heads program) (source program) z t.field t.inline t.bind t.clones)
    (fun_ext (λ x. ap base_in (base_row_is program is x).answer))
    ∙ ap (λ z. tells (there program) (heads program) (source program) (base program) z t.inline t.bind t.clones)
    (fun_ext (λ class. fun_ext (λ name. ap field_in (field_row_is program is class name).answer)))
    ∙ ap (λ z. tells (there program) (heads program) (source program) (base program) (field_at program) z t.bind t.clones)
    (fun_ext (λ key. ap inline_in (inline_row_is program key).answer ∙ same_source (inline (source program key))))
    ∙ ap (λ z. tells (there program) (heads program) (source program) (base program) (field_at program) (λ key. inline (source program key)) z t.clones)
    (bind_told program is)
    ∙ ap (λ z. tells (there program) (heads program) (source program) (base program) (field_at program) (λ key. inline (source program key))
    (bound_by program) z) (fun_ext (λ key. ap clones_in (clones_row_is program is key).answer))
    ∙ asked_is program

-- ---- the laws of single rows, in the words of what a program tells

bind_same : (program : List Decl) (selector : Selector) (infos : List Info) (below : Option MethodKey) →
    bound_by program selector infos below ≡ (asked program).bind selector infos below
bind_same program selector infos below = ap (λ (z : Asked). z.bind selector infos below) (asked_is program)

clones_same : (program : List Decl) (key : MethodKey) → clones_by program key ≡ (asked program).clones key
clones_same program key = ap (λ (z : Asked). z.clones key) (asked_is program)

pub bind_answer : (program : List Decl) → IsProgram program → (selector : Selector) (infos : List Info) (below : Option MethodKey) →
    ans program (node.Filter (filter.Bind selector infos below)) ≡ answers.Bind ((asked program).bind selector infos below)
bind_answer program is selector infos below = (bind_row_is program is selector infos below).answer ∙ ap answers.Bind (bind_same program selector infos below)

pub clones_answer : (program : List Decl) → IsProgram program → (key : MethodKey) →
    ans program (node.Filter (filter.Clones key)) ≡ answers.Clones ((asked program).clones key)
clones_answer program is key = (clones_row_is program is key).answer ∙ ap answers.Clones (clones_same program key)

pub code_told : (program : List Decl) → IsProgram program → (key : MethodKey) (variant : Variant) →
    ans program (node.Target (target.Code key variant)) ≡ answers.Unit (code_unit (tree (asked program) key variant))
code_told program is key variant = codes_are_asked.answer program key variant ∙ ap (λ z. answers.Unit (code_unit (tree z key variant))) (told_is program is)

-- the reads of fields
pub field_is_read : (program : List Decl) (is : IsProgram program) (class name : Bytes) (subject : NodeId) →
    IsIn subject (reads program (node.Filter (filter.Field class name))) →
    IsOfAbove program is (ans program) (gives_decls program) (gives_fields program) class subject
field_is_read program is class name subject i =
    field_reads program is (ans program) (gives_decls program) (gives_fields program) class name subject
    (subst (IsIn subject) (field_row_is program is class name).read i)

pub field_reads_each : (program : List Decl) → IsProgram program → (class name y : Bytes) → (y ≡ class) ⊎ IsIn y (up program class) →
    IsIn (node.Fact (fact.Decl y)) (reads program (node.Filter (filter.Field class name)))
field_reads_each program is class name y which =
    subst (IsIn (node.Fact (fact.Decl y))) (sym (field_row_is program is class name).read)
    (field_reads_decl program is (ans program) (gives_decls program) (gives_fields program) class name y which)

pub field_reads_each_field : (program : List Decl) → IsProgram program → (class name y : Bytes) → IsIn y (up program class) →
    IsIn (node.Fact (fact.Fields y)) (reads program (node.Filter (filter.Field class name)))
field_reads_each_field program is class name y i =
    subst (IsIn (node.Fact (fact.Fields y))) (sym (field_row_is program is class name).read)
    (field_reads_fields program is (ans program) (gives_decls program) (gives_fields program) class name y i)
