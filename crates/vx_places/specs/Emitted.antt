-- The code of an image: code by names, with places for what it names.
use Rattle.std.specs.Prelude.{◌≡◌, ℕ, List, [], ◌∷◌, length, map, Option, Some, None, slice_get}
use Rattle.vx_names.specs.declared.key.Selector.{Selector}
use Rattle.vx_names.specs.declared.key.FieldKey.{FieldKey}
use Rattle.vx_syntax.specs.declared.decl.Decl.{Decl}
use Rattle.vx_syntax.specs.Expressions.{Bytes}
use Rattle.vx_model.specs.declared.report.RunError.{RunError}
use Rattle.vx_model.specs.declared.report.RunError.TheVariants as e
use Rattle.vx_format.specs.declared.image.Instr.{Instr}
use Rattle.vx_format.specs.declared.image.Instr.TheVariants as instr
use Rattle.vx_format.specs.declared.image.Block.{Block}
use Rattle.vx_format.specs.declared.image.Image.{Image}
use Rattle.vx_compilation.specs.TreeMeaning.{by_name, CodeKey, Sends, Resends}
use Rattle.vx_compilation.specs.Machine.{Instruction, PushInt, PushText, PushObject, Load, Store, NewCell, GetCell, SetCell, Close, Send, Enter}
use Rattle.vx_compilation.specs.Machine.{Perform, Get, Set, Make, Pop, Leave, LeaveHome, Mark, Fail}
use Rattle.vx_compilation.specs.Machine as machine
use Rattle.vx_compilation.specs.Code.{codes_of}
use Rattle.vx_compilation.specs.Compiled.{blocks}
use Rattle.vx_places.specs.ImageMachine.{block_at, arity_of, formals_of, count_of}
use Rattle.vx_places.specs.Linked.{Places, At}

-- the place of each thing that code names
pub record Numbers : Type 0 where
  pub object : Bytes → ℕ
  pub field : FieldKey → ℕ
  pub selector : Selector → ℕ
  pub code : CodeKey → ℕ

abbrev pub failing : RunError → Instr
failing (e.NoField name) = instr.Fail 0 name 0
failing (e.UnknownObject name) = instr.Fail 1 name 0
failing (e.NotUnderstood selector) = instr.Fail 2 selector.name selector.arity
failing other = instr.Pop

abbrev pub emitted : Numbers → Instruction by_name → Instr
emitted g (PushInt z) = instr.Int z
emitted g (PushText bytes) = instr.Text bytes
emitted g (PushObject object) = instr.Object (g.object object)
emitted g (Load x) = instr.Load x
emitted g (Store x) = instr.Store x
emitted g (NewCell x) = instr.Cell x
emitted g (GetCell x) = instr.CellGet x
emitted g (SetCell x) = instr.CellSet x
emitted g (Close block xs) = instr.Closure block xs
emitted g (Send (Sends selector) count) = instr.Send (g.selector selector)
emitted g (Send (Resends method (Some row)) count) = instr.Resend (g.selector method.selector) row
emitted g (Send (Resends method None) count) = instr.Pop
emitted g (Enter code count) = instr.Call (g.code code)
emitted g (Perform number count) = instr.Prim number
emitted g (Get field count) = instr.Get (g.field field)
emitted g (Set field count) = instr.Set (g.field field)
emitted g (Make object fields count) = instr.New (g.object object) (map g.field fields)
emitted g Pop = instr.Pop
emitted g Leave = instr.Ret
emitted g LeaveHome = instr.Home
emitted g Mark = instr.Mark
emitted g (Fail error) = failing error

abbrev pub emitted_block : Numbers → machine.Block by_name → Block
emitted_block g own = record { locals = own.locals; captures = own.captures; formals = own.formals; code = map (emitted g) own.code }

module _ (r : Places) (g : Numbers) (image : Image) where
  abbrev pub FieldsThere : List FieldKey → Type 0
  FieldsThere [] = Unit {0}
  FieldsThere (field ∷ fields) = At r.fields field (g.field field) × FieldsThere fields

  -- which errors an instruction can have
  abbrev pub IsFailing : RunError → Type 0
  IsFailing (e.NoField name) = Unit {0}
  IsFailing (e.UnknownObject name) = Unit {0}
  IsFailing (e.NotUnderstood selector) = Unit {0}
  IsFailing other = ⊥

  -- What an instruction names has its place, and the image tells the count that the instruction has.
  abbrev pub IsEmitted : Instruction by_name → Type 0
  IsEmitted (PushObject object) = At r.objects object (g.object object)
  IsEmitted (Send (Sends selector) count) = At r.selectors selector (g.selector selector) × (arity_of image (g.selector selector) ≡ count)
  IsEmitted (Send (Resends method (Some row)) count) = At r.selectors method.selector (g.selector method.selector) ×
      (arity_of image (g.selector method.selector) ≡ count) × (slice_get (r.methods method.selector) row ≡ Some method)
  IsEmitted (Send (Resends method None) count) = ⊥
  IsEmitted (Enter code count) = At r.codes code (g.code code) × (formals_of image (g.code code) ≡ count)
  IsEmitted (Perform number count) = count_of number ≡ count
  IsEmitted (Get field count) = At r.fields field (g.field field) × (1 ≡ count)
  IsEmitted (Set field count) = At r.fields field (g.field field) × (2 ≡ count)
  IsEmitted (Make object fields count) = At r.objects object (g.object object) × FieldsThere fields × (length (map g.field fields) ≡ count)
  IsEmitted (Fail error) = IsFailing error
  IsEmitted other = Unit {0}

  abbrev pub AreEmitted : List (Instruction by_name) → Type 0
  AreEmitted [] = Unit {0}
  AreEmitted (own ∷ code) = IsEmitted own × AreEmitted code

  -- the block of an image is that of the code by names
  abbrev pub IsBlock : Option (machine.Block by_name) → Option Block → Type 0
  IsBlock None None = Unit {0}
  IsBlock None (Some b) = ⊥
  IsBlock (Some a) None = ⊥
  IsBlock (Some a) (Some b) = AreEmitted a.code × (emitted_block g a ≡ b)

  -- The codes of an image are those of a program.
  abbrev pub CodesAreEmitted : List Decl → Type 0
  CodesAreEmitted program = (a : CodeKey) (b number : ℕ) → At r.codes a b → IsBlock (codes_of (blocks program) a number) (block_at image b number)
