-- What passes ask, and how they read what they are told. An answer of another kind counts as the empty one, so each pass has a value over any answers.
use Rattle.std.specs.Prelude.{ℕ, List, [], Option, Some, None}
use Rattle.vx_names.specs.declared.key.Selector.{Selector}
use Rattle.vx_names.specs.declared.key.MethodKey.{MethodKey}
use Rattle.vx_names.specs.declared.key.FieldKey.{FieldKey}
use Rattle.vx_syntax.specs.declared.expr.Body.{Body}
use Rattle.vx_syntax.specs.Expressions.{Bytes}
use Rattle.vx_node.specs.declared.node.NodeId.TheVariants as node
use Rattle.vx_node.specs.declared.node.Fact.TheVariants as fact
use Rattle.vx_node.specs.declared.node.Filter.TheVariants as filter
use Rattle.vx_node.specs.declared.node.Info.{Info}
use Rattle.vx_node.specs.declared.answer.Answer.{Answer}
use Rattle.vx_node.specs.declared.answer.Answer.TheVariants as answers
use Rattle.vx_node.specs.declared.kind.Kind.{Kind}
use Rattle.vx_node.specs.declared.answer.Bound.{Bound}
use Rattle.vx_node.specs.declared.answer.Bound.TheVariants as b
use Rattle.vx_node.specs.declared.answer.Stands.{Stands}
use Rattle.vx_node.specs.declared.answer.Stands.TheVariants as h
use Rattle.vx_node.specs.Traces.{Answers}
use Rattle.vx_node.specs.Asking.{Asking, asks}
use Rattle.vx_model.specs.Kinds.{Source}
use Rattle.vx_compilation.specs.Questions.{Asked}

-- ---- readings

abbrev pub there_in : Answer → Stands
there_in (answers.There stands) = stands
there_in answer = h.Nothing

abbrev pub heads_in : Answer → List (MethodKey × Kind)
heads_in (answers.Heads heads) = heads
heads_in answer = []

abbrev pub source_of : Option (List (Option Bytes) × Body) → Option Source
source_of None = None
source_of (Some own) = Some (record { formals = own.0; body = own.1 })

abbrev pub source_in : Answer → Option Source
source_in (answers.Body body) = source_of body
source_in answer = None

abbrev pub base_in : Answer → Option Bytes
base_in (answers.Base x) = x
base_in answer = None

abbrev pub field_in : Answer → Option FieldKey
field_in (answers.Field key) = key
field_in answer = None

abbrev pub inline_in : Answer → Option Source
inline_in (answers.Inline body) = source_of body
inline_in answer = None

abbrev pub bound_in : Answer → Bound
bound_in (answers.Bind bound) = bound
bound_in answer = b.Open

abbrev pub clones_in : Answer → Option (ℕ × List Bytes)
clones_in (answers.Clones clones) = clones
clones_in answer = None

-- ---- questions, each with what follows its answer

abbrev pub ask_there : {A : Type 0} → Bytes → (Stands → Asking A) → Asking A
ask_there x go = asks (node.Fact (fact.There x)) (λ answer. go (there_in answer))

abbrev pub ask_heads : {A : Type 0} → Selector → (List (MethodKey × Kind) → Asking A) → Asking A
ask_heads selector go = asks (node.Fact (fact.Heads selector)) (λ answer. go (heads_in answer))

abbrev pub ask_source_of : {A : Type 0} → MethodKey → (Option Source → Asking A) → Asking A
ask_source_of key go = asks (node.Fact (fact.Body key)) (λ answer. go (source_in answer))

abbrev pub ask_base : {A : Type 0} → Bytes → (Option Bytes → Asking A) → Asking A
ask_base x go = asks (node.Filter (filter.Base x)) (λ answer. go (base_in answer))

abbrev pub ask_field : {A : Type 0} → Bytes → Bytes → (Option FieldKey → Asking A) → Asking A
ask_field class name go = asks (node.Filter (filter.Field class name)) (λ answer. go (field_in answer))

abbrev pub ask_inline : {A : Type 0} → MethodKey → (Option Source → Asking A) → Asking A
ask_inline key go = asks (node.Filter (filter.Inline key)) (λ answer. go (inline_in answer))

abbrev pub ask_bind : {A : Type 0} → Selector → List Info → Option MethodKey → (Bound → Asking A) → Asking A
ask_bind selector infos below go = asks (node.Filter (filter.Bind selector infos below)) (λ answer. go (bound_in answer))

abbrev pub ask_clones : {A : Type 0} → MethodKey → (Option (ℕ × List Bytes) → Asking A) → Asking A
ask_clones key go = asks (node.Filter (filter.Clones key)) (λ answer. go (clones_in answer))

-- The same answers, as functions from what is asked: trees and their meaning are defined over these.
abbrev pub told : Answers → Asked
told answer = record {
  there = λ x. there_in (answer (node.Fact (fact.There x)));
  heads = λ selector. heads_in (answer (node.Fact (fact.Heads selector)));
  body = λ key. source_in (answer (node.Fact (fact.Body key)));
  base = λ x. base_in (answer (node.Filter (filter.Base x)));
  field = λ class name. field_in (answer (node.Filter (filter.Field class name)));
  inline = λ key. inline_in (answer (node.Filter (filter.Inline key)));
  bind = λ selector infos below. bound_in (answer (node.Filter (filter.Bind selector infos below)));
  clones = λ key. clones_in (answer (node.Filter (filter.Clones key)));
}
