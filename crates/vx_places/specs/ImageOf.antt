-- When an image is that of a program: its objects, codes and tables are the program's.
use Rattle.std.specs.Prelude.{◌≡◌, ℕ, ◌==◌, List, [], codes, Option, Some, None, slice_get}
use Rattle.vx_names.specs.declared.key.Selector.{Selector}
use Rattle.vx_names.specs.declared.key.FieldKey.{FieldKey}
use Rattle.vx_syntax.specs.declared.decl.Decl.{Decl}
use Rattle.vx_syntax.specs.Expressions.{Bytes}
use Rattle.vx_program.specs.Methods.{methods}
use Rattle.vx_model.specs.declared.value.Value.TheVariants as v
use Rattle.vx_format.specs.declared.image.Table.{Table}
use Rattle.vx_format.specs.declared.image.Image.{Image}
use Rattle.vx_model.specs.Holds.{same_field}
use Rattle.vx_model.specs.Values.{object, fresh_slots}
use Rattle.vx_program.specs.Program.{IsProgram}
use Rattle.vx_compilation.specs.Agrees.{Means}
use Rattle.vx_model.specs.Meaning.{main_message, meaning}
use Rattle.vx_compilation.specs.Compiled.{begun, code_report}
use Rattle.vx_places.specs.ImageMachine as place
use Rattle.vx_places.specs.Linked.{Places, At, ThingsAlike, ShapeAlike}
use Rattle.vx_places.specs.Emitted.{Numbers, CodesAreEmitted}
use Rattle.vx_places.specs.Tables.{TableIs}

module _ (r : Places) (g : Numbers) (program : List Decl) (image : Image) where
  abbrev pub TableAt : Selector → Option Table → Type 0
  TableAt selector None = ⊥
  TableAt selector (Some table) = TableIs r program image selector (r.methods selector) table

  -- where there is no table for main/0, the program has no such method
  abbrev pub MainAt : Option ℕ → Type 0
  MainAt None = methods program main_message.selector ≡ []
  MainAt (Some t) = At r.selectors main_message.selector t

  pub record ImageOf : Type 0 where
    -- no field has two places, and objects stand at the places of their names
    pub apart : (a a' : FieldKey) (b b' : ℕ) → At r.fields a b → At r.fields a' b' → same_field a a' ≡ (b == b')
    pub named : (a : Bytes) (b : ℕ) → At r.objects a b → object program a ≡ v.Object b
    -- the six objects that an image names
    pub nil : At r.objects (codes "nil") image.own.nil
    pub true_ : At r.objects (codes "true") image.own.true_
    pub false_ : At r.objects (codes "false") image.own.false_
    pub int : At r.objects (codes "int") image.own.int
    pub string : At r.objects (codes "string") image.own.string
    pub closure : At r.objects (codes "closure") image.own.closure
    -- the objects at first, and the slots of new ones
    pub opening : ThingsAlike r (begun program).objects (place.opening image).objects
    pub shapes : (a : Bytes) (b : ℕ) → At r.objects a b → ShapeAlike r image.own (fresh_slots program a) (slice_get image.shapes b)
    pub emitted : CodesAreEmitted r g image program
    pub tables : (selector : Selector) (t : ℕ) → At r.selectors selector t → TableAt selector (slice_get image.tables t)
    pub main : MainAt image.main

-- The image of a program means the program.
abbrev pub ImagesMeanThePrograms : Type 0
ImagesMeanThePrograms = (r : Places) (g : Numbers) (program : List Decl) (image : Image) → IsProgram program → ImageOf r g program image →
    Means (place.report_of image) (meaning program)

-- It reports what the program's code by names does, instruction by instruction.
abbrev pub ImagesReportAsCode : Type 0
ImagesReportAsCode =
    (r : Places) (g : Numbers) (program : List Decl) (image : Image) → IsProgram program → ImageOf r g program image → (n : ℕ) →
    place.report_of image n ≡ code_report program n
