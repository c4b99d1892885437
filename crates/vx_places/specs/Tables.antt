-- When a table of an image is that of a selector: its rows stand for the selector's methods.
use Rattle.std.specs.Prelude.{◌<◌, [], ◌∷◌, ◌≡◌, ℕ, ◌==◌, ◌&&◌, ◌||◌, not, List, length, map, Option, Some, None, slice_get}
use Rattle.vx_lists.specs.Members.{IsIn}
use Rattle.vx_names.specs.declared.key.Selector.{Selector}
use Rattle.vx_names.specs.declared.key.MethodKey.{MethodKey}
use Rattle.vx_syntax.specs.declared.decl.Decl.{Decl}
use Rattle.vx_program.specs.Methods.{methods}
use Rattle.vx_model.specs.declared.value.Value.{Value}
use Rattle.vx_model.specs.declared.value.Thing.{Thing}
use Rattle.vx_model.specs.declared.look.Look.{Look}
use Rattle.vx_model.specs.declared.look.Look.TheVariants as look
use Rattle.vx_tables.specs.declared.picked.Picked.{Picked}
use Rattle.vx_tables.specs.declared.picked.Picked.TheVariants as chosen
use Rattle.vx_names.specs.declared.key.FieldKey.{FieldKey}
use Rattle.vx_syntax.specs.Expressions.{Bytes}
use Rattle.vx_node.specs.declared.kind.Kind.{Kind}
use Rattle.vx_node.specs.declared.kind.Kind.TheVariants as kinds
use Rattle.vx_node.specs.declared.node.Variant.TheVariants as c
use Rattle.vx_format.specs.declared.image.Does.{Does}
use Rattle.vx_format.specs.declared.image.Does.TheVariants as deed
use Rattle.vx_format.specs.declared.image.Split.{Split}
use Rattle.vx_format.specs.declared.image.Row.{Row}
use Rattle.vx_format.specs.declared.image.Table.{Table}
use Rattle.vx_format.specs.declared.image.Image.{Image}
use Rattle.vx_model.specs.Holds.{holds}
use Rattle.vx_model.specs.Lookup.{is_more_specific, same_method}
use Rattle.vx_format.specs.declared.image.Position.{Position}
use Rattle.vx_model.specs.Kinds.{kind}
use Rattle.vx_compilation.specs.Compiled.{asked, things, variant_of}
use Rattle.vx_tables.specs.Masks.{has, beaten}
use Rattle.vx_places.specs.Dispatch.{Placed, mask_of, clone_for}
use Rattle.vx_places.specs.Linked.{Places, At, ThingsAlike}
use Rattle.vx_places.specs.ImageMachine.{selector_of, set_name}

abbrev pub key_at : List MethodKey → ℕ → Look
key_at keys row = elim (slice_get keys row) [ Some key ↦ look.One key | None ↦ look.Many ]

-- what is picked, as the lookup of methods says it
abbrev pub look_of : List MethodKey → Picked → Look
look_of keys (chosen.Row row) = key_at keys row
look_of keys chosen.None = look.None
look_of keys chosen.Many = look.Many

abbrev pub beats : Table → List ℕ
beats table = map (λ row. row.beats) table.rows

-- the class of a value, which an object that is not there has not
abbrev pub ClassAt : Places → Bytes → Option ℕ → Type 0
ClassAt r a None = a ≡ []
ClassAt r a (Some n) = At r.objects a n

-- What a row leads to is what its method is made by; each class has the code of the variant that is entered for it.
pub data RowAlike (r : Places) (table : Table) (key : MethodKey) : Kind → Option (ℕ × List Bytes) → Does → Type 0 where
  source : {b : ℕ} → At r.codes (record { method = key; variant = c.General }) b → RowAlike r table key kinds.Source None (deed.Code b None)
  split : {b : ℕ} {classes : List Bytes} {own : Split} → own.position < length key.specialisers →
      ((a : Bytes) (n : Option ℕ) → ClassAt r a n → At r.codes (record { method = key; variant = variant_of classes own.position a })
      (clone_for b n own.pairs)) → RowAlike r table key kinds.Source (Some (own.position, classes)) (deed.Code b (Some own))
  primitive : {number : ℕ} {clones : Option (ℕ × List Bytes)} → RowAlike r table key (kinds.Prim number) clones (deed.Prim number)
  getter : {field : FieldKey} {f : ℕ} {clones : Option (ℕ × List Bytes)} → At r.fields field f → table.name ≡ field.name →
      RowAlike r table key (kinds.Get field) clones (deed.Get f)
  setter : {field : FieldKey} {f : ℕ} {clones : Option (ℕ × List Bytes)} → At r.fields field f → set_name table.name ≡ field.name →
      RowAlike r table key (kinds.Set field) clones (deed.Set f)

-- the mask of a value has the row where the value counts as this object
abbrev pub HeldAt : Places → List Decl → Image → ℕ → Position → Bytes → Type 0
HeldAt r program image i position x =
    (objects : List Thing) (objects' : List Placed) (value : Value) → ThingsAlike r objects objects' →
    has (mask_of image objects' value position) i ≡ holds program (things objects) value x

abbrev pub AreHeldAt : Places → List Decl → Image → ℕ → List Position → List Bytes → Type 0
AreHeldAt r program image i [] [] = Unit {0}
AreHeldAt r program image i [] (x ∷ xs) = ⊥
AreHeldAt r program image i (position ∷ positions) [] = ⊥
AreHeldAt r program image i (position ∷ positions) (x ∷ xs) = HeldAt r program image i position x × AreHeldAt r program image i positions xs

-- The rows of a table stand for these keys, in this order.
pub record TableIs (r : Places) (program : List Decl) (image : Image) (selector : Selector) (keys : List MethodKey) (table : Table) : Type 0 where
  pub told : selector_of table ≡ selector
  -- they are the methods of the selector
  pub count : length table.rows ≡ length keys
  pub has_all : (key : MethodKey) → IsIn key (methods program selector) → IsIn key keys
  pub has_only : (key : MethodKey) → IsIn key keys → IsIn key (methods program selector)
  -- a row beats itself and those that it is more specific than
  pub covers : (i j : ℕ) (k l : MethodKey) → slice_get keys i ≡ Some k → slice_get keys j ≡ Some l →
      has (beaten (beats table) i) j ≡ (same_method k l || is_more_specific program k l)
  pub below : (i j : ℕ) (k l : MethodKey) → slice_get keys i ≡ Some k → slice_get keys j ≡ Some l →
      (has (beaten (beats table) i) j && not (j == i)) ≡ is_more_specific program k l
  -- the masks of each position have the rows of those methods as whose specialisers a value counts
  pub held : (i : ℕ) (k : MethodKey) → slice_get keys i ≡ Some k → AreHeldAt r program image i table.positions k.specialisers
  -- each row leads to what its method is made by
  pub rows : (i : ℕ) (key : MethodKey) (row : Row) → slice_get keys i ≡ Some key → slice_get table.rows i ≡ Some row →
      RowAlike r table key (kind program key) ((asked program).clones key) row.does
