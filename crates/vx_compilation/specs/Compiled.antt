-- A program as it is compiled: what passes are told of it, its trees and their code, and what it gives a machine besides.
use Rattle.std.specs.Prelude.{◌≡◌, ℕ, Bool, true, false, if◌then◌else◌, List, [], ◌∷◌, ◌++◌, length, map, Option, Some, None, is_some, slice_get}
use Rattle.std.specs.List.{list_all}
use Rattle.std.specs.Ordering.{is_lt}
use Rattle.vx_names.specs.declared.key.Selector.{Selector}
use Rattle.vx_names.specs.declared.key.MethodKey.{MethodKey}
use Rattle.vx_names.specs.declared.key.FieldKey.{FieldKey}
use Rattle.vx_names.specs.Key.{method_key_cmp}
use Rattle.vx_syntax.specs.declared.decl.Decl.{Decl}
use Rattle.vx_syntax.specs.Expressions.{Bytes}
use Rattle.vx_program.specs.Program.{IsProgram, is_name_of, is_predicate_there}
use Rattle.vx_program.specs.Methods.{methods}
use Rattle.vx_model.specs.declared.value.Value.{Value}
use Rattle.vx_model.specs.declared.value.Value.TheVariants as v
use Rattle.vx_model.specs.declared.value.Thing.{Thing}
use Rattle.vx_model.specs.declared.value.Heap.{Heap}
use Rattle.vx_model.specs.declared.look.Look.{Look}
use Rattle.vx_model.specs.declared.look.Look.TheVariants as look
use Rattle.vx_model.specs.declared.report.RunError.TheVariants as e
use Rattle.vx_model.specs.declared.report.Report.{Report}
use Rattle.vx_node.specs.declared.kind.Kind.{Kind}
use Rattle.vx_node.specs.declared.kind.Kind.TheVariants as kinds
use Rattle.vx_node.specs.declared.answer.Stands.{Stands}
use Rattle.vx_node.specs.declared.answer.Stands.TheVariants as h
use Rattle.vx_node.specs.declared.node.Variant.{Variant}
use Rattle.vx_node.specs.declared.node.Variant.TheVariants as c
use Rattle.vx_model.specs.Order.{plain_names, base, up, cone}
use Rattle.vx_model.specs.Fields.{field_at}
use Rattle.vx_model.specs.Holds.{class_of, slot, slot_of}
use Rattle.vx_model.specs.Kinds.{kind, source}
use Rattle.vx_model.specs.Lookup.{lookup}
use Rattle.vx_model.specs.Values.{object, nil, truth, opening, fresh_slots}
use Rattle.vx_model.specs.Primitives.{deed_at}
use Rattle.vx_model.specs.Meaning.{put as put_among, filled, main_message, meaning}
use Rattle.vx_compilation.specs.Activations.{Making, Makes, NoSlot, Target, ToCode, ToPrimitive, ToGetter, ToSetter, ToError}
use Rattle.vx_compilation.specs.TreeMeaning.{by_name, World, State, Blocks, Sent, Sends, Resends, tree_meaning}
use Rattle.vx_compilation.specs.Machine.{run_report}
use Rattle.vx_compilation.specs.Code.{codes_of}
use Rattle.vx_compilation.specs.Agrees.{Means}
use Rattle.vx_compilation.specs.Questions.{Asked}
use Rattle.vx_compilation.specs.Binding.{Order, bind}
use Rattle.vx_compilation.specs.Inlining.{inline}
use Rattle.vx_compilation.specs.Cloning.{clones}
use Rattle.vx_compilation.specs.Resolved.{tree}

-- ---- facts

abbrev pub stands : Bool → Bool → Stands
stands true is_predicate = h.Plain
stands false true = h.Predicate
stands false false = h.Nothing

abbrev pub there : List Decl → Bytes → Stands
there program x = stands (is_name_of (plain_names program) x) (is_predicate_there program x)

abbrev pub inserted : MethodKey → List MethodKey → List MethodKey
inserted key [] = key ∷ []
inserted key (own ∷ keys) = if is_lt (method_key_cmp own key) then own ∷ inserted key keys else key ∷ own ∷ keys

abbrev pub sorted : List MethodKey → List MethodKey
sorted [] = []
sorted (key ∷ keys) = inserted key (sorted keys)

abbrev pub with_kind : List Decl → MethodKey → MethodKey × Kind
with_kind program key = (key, kind program key)

-- the methods of a selector in key order, each with what makes it
abbrev pub heads : List Decl → Selector → List (MethodKey × Kind)
heads program selector = map (with_kind program) (sorted (methods program selector))

-- ---- what passes are told

abbrev pub order : List Decl → Order
order program = record { base = base program; up = up program; cone = cone program }

unfoldable pub asked : List Decl → Asked
asked program = record {
  there = there program;
  heads = heads program;
  body = source program;
  base = base program;
  field = field_at program;
  inline = λ key. inline (source program key);
  bind = λ selector infos below. bind (order program) (heads program selector) infos below;
  clones = λ key. clones (order program) (λ selector infos below. bind (order program) (heads program selector) infos below) key (source program key);
}

-- the blocks of each method and clone
abbrev pub blocks : List Decl → Blocks
blocks program code number = slice_get (tree (asked program) code.method code.variant).blocks number

-- ---- what a machine is given

-- a heap of these objects
abbrev pub things : List Thing → Heap
things objects = record { objects = objects; cells = []; closures = [] }

-- a clone is entered where the argument that splits has one of its classes
abbrev pub variant_of : List Bytes → ℕ → Bytes → Variant
variant_of classes position class = if is_name_of classes class then c.Clone position class else c.General

abbrev pub variant_at : List Thing → List Bytes → ℕ → Option Value → Variant
variant_at objects classes position None = c.General
variant_at objects classes position (Some value) = variant_of classes position (class_of (things objects) value)

abbrev pub variant_by : List Thing → List Value → Option (ℕ × List Bytes) → Variant
variant_by objects values None = c.General
variant_by objects values (Some split) = variant_at objects split.1 split.0 (slice_get values split.0)

abbrev pub target_by : List Decl → List Thing → MethodKey → List Value → Kind → Target by_name
target_by program objects key values kinds.Source = ToCode (record { method = key; variant = variant_by objects values ((asked program).clones key) })
target_by program objects key values (kinds.Prim number) = ToPrimitive number
target_by program objects key values (kinds.Get field) = ToGetter field field.name
target_by program objects key values (kinds.Set field) = ToSetter field field.name

abbrev pub target : List Decl → List Thing → Selector → List Value → Look → Target by_name
target program objects selector values look.None = ToError (e.NotUnderstood selector)
target program objects selector values look.Many = ToError (e.Ambiguous selector)
target program objects selector values (look.One key) = target_by program objects key values (kind program key)

abbrev pub selector_of : Sent → Selector
selector_of (Sends selector) = selector
selector_of (Resends method row) = method.selector

abbrev pub below_of : Sent → Option MethodKey
below_of (Sends selector) = None
below_of (Resends method row) = Some method

abbrev pub dispatch : List Decl → List Thing → Sent → List Value → Target by_name
dispatch program objects sent values =
    target program objects (selector_of sent) values (lookup program (things objects) (selector_of sent) values (below_of sent))

-- a value is put into a slot that is there
abbrev pub put : FieldKey → Value → Value → List Thing → Option (List Thing)
put field own value objects = put_among field own value (things objects)

abbrev pub have_slots : List FieldKey → List (FieldKey × Value) → Bool
have_slots fields slots = list_all (λ field. is_some (slot field slots)) fields

-- so are the values of an object that is made
abbrev pub made : List Decl → Bytes → List FieldKey → List Value → List Thing → Making by_name
made program class fields values objects =
    if have_slots fields (fresh_slots program class)
    then Makes (v.Object (length objects)) (objects ++ record { class = class; slots = filled fields values (fresh_slots program class) } ∷ [])
    else NoSlot

abbrev pub world : List Decl → World
world program = record {
  nil = nil program;
  named = object program;
  dispatch = dispatch program;
  deed = deed_at (truth program);
  made = made program;
  got = λ field value objects. slot_of (things objects) value field;
  put = put;
}

abbrev pub begun : List Decl → State
begun program = record { objects = (opening program).objects; cells = []; closures = []; next = 0; lines = [] }

-- ---- reports

abbrev pub main_sent : Sent
main_sent = Sends main_message.selector

-- what the trees of a program mean with an allowance of so many calls
unfoldable pub program_tree_meaning : List Decl → ℕ → Report
program_tree_meaning program n = tree_meaning (world program) (blocks program) (begun program) main_sent n

-- the report of so many instructions of its code
unfoldable pub code_report : List Decl → ℕ → Report
code_report program n = run_report (world program) (codes_of (blocks program)) (begun program) (dispatch program (begun program).objects main_sent []) n

-- The trees of a program mean the program.
abbrev pub TreesMeanTheProgram : Type 0
TreesMeanTheProgram = (program : List Decl) → IsProgram program → (n : ℕ) → program_tree_meaning program n ≡ meaning program n

-- Compiled code means the program.
abbrev pub CompiledCodeMeansTheProgram : Type 0
CompiledCodeMeansTheProgram = (program : List Decl) → IsProgram program → Means (code_report program) (meaning program)
