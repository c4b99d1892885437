-- When the parts of an image are those of a program: the roster of the image says what each place stands for.
use Rattle.std.specs.Prelude.{◌≡◌, ℕ, ◌==◌, List, [], ◌∷◌, codes, Option, Some, None, slice_get}
use Rattle.vx_names.specs.declared.key.Selector.{Selector}
use Rattle.vx_names.specs.declared.key.FieldKey.{FieldKey}
use Rattle.vx_names.specs.declared.key.MethodKey.{MethodKey}
use Rattle.vx_syntax.specs.declared.decl.Decl.{Decl}
use Rattle.vx_syntax.specs.Expressions.{Bytes}
use Rattle.vx_model.specs.declared.value.Value.{Value}
use Rattle.vx_model.specs.declared.value.Value.TheVariants as v
use Rattle.vx_model.specs.declared.value.Thing.{Thing}
use Rattle.vx_format.specs.declared.image.Slot.{Slot}
use Rattle.vx_format.specs.declared.image.Own.{Own}
use Rattle.vx_format.specs.declared.image.Image.{Image}
use Rattle.vx_model.specs.Holds.{same_field}
use Rattle.vx_model.specs.Values.{object, fresh_slots}
use Rattle.vx_compilation.specs.TreeMeaning.{by_name, CodeKey, Sent, Sends, Resends}
use Rattle.vx_compilation.specs.Code as code
use Rattle.vx_compilation.specs.Compiled as compiled
use Rattle.vx_compilation.specs.Compiled.{blocks, begun, main_sent}
use Rattle.vx_compilation.specs.Alike.{Matching, TargetAlike, BlocksAlike}
use Rattle.vx_places.specs.Dispatch.{Placed}
use Rattle.vx_places.specs.ImageMachine as place
use Rattle.vx_places.specs.ImageMachine.{Told, To, Onward, by_place}

-- what the places of an image stand for
pub record Places : Type 0 where
  pub objects : List Bytes
  pub fields : List FieldKey
  pub selectors : List Selector
  pub codes : List CodeKey
  -- the methods of a selector in the order of the rows of its table
  pub methods : Selector → List MethodKey

abbrev pub At : {A : Type 0} → List A → A → ℕ → Type 0
At all a n = slice_get all n ≡ Some a

module _ (r : Places) where
  abbrev pub SlotsAlike : List (FieldKey × Value) → List (ℕ × Value) → Type 0
  SlotsAlike [] [] = Unit {0}
  SlotsAlike [] (b ∷ bs) = ⊥
  SlotsAlike (a ∷ as') [] = ⊥
  SlotsAlike (a ∷ as') (b ∷ bs) = At r.fields a.0 b.0 × (a.1 ≡ b.1) × SlotsAlike as' bs

  pub record ThingAlike (a : Thing) (b : Placed) : Type 0 where
    pub class : At r.objects a.class b.class
    pub slots : SlotsAlike a.slots b.slots

  abbrev pub ThingsAlike : List Thing → List Placed → Type 0
  ThingsAlike [] [] = Unit {0}
  ThingsAlike [] (b ∷ bs) = ⊥
  ThingsAlike (a ∷ as') [] = ⊥
  ThingsAlike (a ∷ as') (b ∷ bs) = ThingAlike a b × ThingsAlike as' bs

  pub data MessageAlike : Sent → Told → Type 0 where
    sends : {selector : Selector} {t : ℕ} → At r.selectors selector t → MessageAlike (Sends selector) (To t)
    resends : {method : MethodKey} {t row : ℕ} → At r.selectors method.selector t → slice_get (r.methods method.selector) row ≡ Some method →
        MessageAlike (Resends method (Some row)) (Onward t row)

  abbrev pub matching : Matching by_name by_place
  matching = record { Object = At r.objects; Message = MessageAlike; Code = At r.codes; Field = At r.fields; Objects = ThingsAlike }

  abbrev pub ShapeAlike : Own → List (FieldKey × Value) → Option (List Slot) → Type 0
  ShapeAlike own slots None = ⊥
  ShapeAlike own slots (Some shape) = SlotsAlike slots (place.fresh own shape)

  -- An image has the parts of a program.
  pub record Linked (program : List Decl) (image : Image) : Type 0 where
    -- no field has two places, and objects stand at the places of their names
    pub apart : (a a' : FieldKey) (b b' : ℕ) → At r.fields a b → At r.fields a' b' → same_field a a' ≡ (b == b')
    pub named : (a : Bytes) (b : ℕ) → At r.objects a b → object program a ≡ v.Object b
    pub nil : object program (codes "nil") ≡ v.Object image.own.nil
    pub true_ : object program (codes "true") ≡ v.Object image.own.true_
    pub false_ : object program (codes "false") ≡ v.Object image.own.false_
    -- the objects at first, and the slots of new ones
    pub opening : ThingsAlike (begun program).objects (place.opening image).objects
    pub shapes : (a : Bytes) (b : ℕ) → At r.objects a b → ShapeAlike image.own (fresh_slots program a) (slice_get image.shapes b)
    -- the blocks of each code, and what each table makes of arguments
    pub blocks_are : (a : CodeKey) (b number : ℕ) → At r.codes a b → BlocksAlike matching (code.codes_of (blocks program) a number)
        (place.codes_of image b number)
    pub tables : (objects : List Thing) (objects' : List Placed) (a : Sent) (b : Told) (values : List Value) → ThingsAlike objects objects' → MessageAlike a b →
        TargetAlike matching (compiled.dispatch program objects a values) (place.dispatch image objects' b values)
    pub main : TargetAlike matching (compiled.dispatch program (begun program).objects main_sent []) (place.main_found image)
