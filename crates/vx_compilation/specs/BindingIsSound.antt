-- What static binding promises.
use Rattle.std.specs.Prelude.{◌≡◌, ℕ, ◌<◌, List, [], ◌∷◌, length, Option, Some, slice_get}
use Rattle.std.specs.List.{AllByRecursion}
use Rattle.vx_lists.specs.Members.{IsIn}
use Rattle.vx_names.specs.declared.key.Selector.{Selector}
use Rattle.vx_names.specs.declared.key.MethodKey.{MethodKey}
use Rattle.vx_syntax.specs.declared.decl.Decl.{Decl}
use Rattle.vx_program.specs.Program.{IsProgram}
use Rattle.vx_model.specs.declared.value.Value.{Value}
use Rattle.vx_model.specs.declared.value.Value.TheVariants as v
use Rattle.vx_model.specs.declared.value.Thing.{Thing}
use Rattle.vx_model.specs.declared.value.Heap.{Heap}
use Rattle.vx_model.specs.declared.look.Look.TheVariants as look
use Rattle.vx_node.specs.declared.node.Info.{Info}
use Rattle.vx_node.specs.declared.kind.Kind.{Kind}
use Rattle.vx_node.specs.declared.kind.Kind.TheVariants as kinds
use Rattle.vx_node.specs.declared.answer.Bound.TheVariants as b
use Rattle.vx_model.specs.Order.{plain_names}
use Rattle.vx_model.specs.Lookup.{lookup}
use Rattle.vx_compilation.specs.Infos.{AllFit}
use Rattle.vx_model.specs.Kinds.{kind}
use Rattle.vx_compilation.specs.Compiled.{asked}

-- the class of each thing is a plain object
abbrev pub ThingsArePlain : List Decl → Heap → Type 0
ThingsArePlain program heap = (j : ℕ) (thing : Thing) → slice_get heap.objects j ≡ Some thing → IsIn thing.class (plain_names program)

-- an object among the values is one of the things
abbrev pub IsThere : Heap → Value → Type 0
IsThere heap (v.Int n) = Unit {0}
IsThere heap (v.Text bytes) = Unit {0}
IsThere heap (v.Closure n) = Unit {0}
IsThere heap (v.Object n) = n < length heap.objects

abbrev pub AreThere : Heap → List Value → Type 0
AreThere heap values = AllByRecursion (IsThere heap) values

-- an object, and no number, string or closure
abbrev pub IsObject : Value → Type 0
IsObject (v.Int n) = ⊥
IsObject (v.Text bytes) = ⊥
IsObject (v.Closure n) = ⊥
IsObject (v.Object n) = Unit {0}

abbrev pub IsFirstObject : List Value → Type 0
IsFirstObject [] = Unit {0}
IsFirstObject (value ∷ values) = IsObject value

-- an accessor has an object as its first argument; nothing is asked of other methods
abbrev pub SuitsKind : Kind → List Value → Type 0
SuitsKind kinds.Source values = Unit {0}
SuitsKind (kinds.Prim number) values = Unit {0}
SuitsKind (kinds.Get field) values = IsFirstObject values
SuitsKind (kinds.Set field) values = IsFirstObject values

-- Where a send is bound to a method, that is what lookup finds for all values that fit what is known of them, what makes it is known, and an
-- accessor is bound for objects alone; where it is bound to nobody, lookup finds none.
pub record BindingIsSound : Type 0 where
  pub one : (program : List Decl) (heap : Heap) (selector : Selector) (values : List Value) (infos : List Info) (below : Option MethodKey) (key : MethodKey)
      (own : Kind) → IsProgram program → ThingsArePlain program heap →
      AreThere heap values → AllFit program heap infos values → (asked program).bind selector infos below ≡ b.One key own →
      (lookup program heap selector values below ≡ look.One key) × (own ≡ kind program key) × SuitsKind own values
  pub nobody : (program : List Decl) (heap : Heap) (selector : Selector) (values : List Value) (infos : List Info) (below : Option MethodKey) →
      (asked program).bind selector infos below ≡ b.Nobody → lookup program heap selector values below ≡ look.None
