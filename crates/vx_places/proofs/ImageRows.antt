-- Runs of images that the definitions must give.
use Rattle.std.proofs.Common.{◌≡◌, ℕ, List, [], ◌∷◌, codes, Some, None, refl, ap}
use Rattle.std.specs.Prelude.{pos, Option, map, slice_get, length, ◌==◌, if◌then◌else◌}
use Rattle.vx_format.specs.declared.image.Image.{Image}
use Rattle.vx_format.specs.declared.image.Block.{Block}
use Rattle.vx_format.specs.declared.image.Table.{Table}
use Rattle.vx_format.specs.declared.image.Position.{Position}
use Rattle.vx_format.specs.declared.image.Does.{Does}
use Rattle.vx_format.specs.declared.image.Does.TheVariants as deed
use Rattle.vx_format.specs.declared.image.Instr.{Instr}
use Rattle.vx_format.specs.declared.image.Instr.TheVariants as instr
use Rattle.vx_model.specs.declared.report.Report.TheVariants as r
use Rattle.vx_model.specs.declared.report.RunError.TheVariants as e
use Rattle.vx_model.specs.Primitives.{counts}
use Rattle.vx_model.specs.Primitives as primitive
use Rattle.vx_compilation.specs.Machine.{Machine, Lacks, act, taken, reaches, performs, pushed, if_plain, taking}
use Rattle.vx_places.specs.ImageMachine.{by_place, world, codes_of, instruction, sent, truth, report_of, set_name}

abbrev block : ℕ → ℕ → List Instr → Block
block locals formals code = record { locals = locals; captures = 0; formals = formals; code = code }

-- one object, a main/0 that does this, and these tables and codes behind it
abbrev image : Option ℕ → Does → List Table → List (List Block) → Image
image main does tables codes_ = record {
  fields = 0;
  own = record { closure = 0; false_ = 0; int = 0; nil = 0; string = 0; true_ = 0 };
  main = main;
  shapes = [] ∷ [];
  tests = [];
  tables = record { name = codes "main"; arity = 0; rows = record { does = does; beats = 1 } ∷ []; positions = [] } ∷ tables;
  codes = codes_;
}

-- an image of one object and one method, main/0
abbrev one_method : List Instr → Image
one_method code = image (Some 0) (deed.Code 0 None) [] ((block 1 0 code ∷ []) ∷ [])

-- print("hi")
prints : report_of (one_method (instr.Text (codes "hi") ∷ instr.Prim 11 ∷ instr.Ret ∷ [])) 4 ≡ r.End (codes "hi" ∷ [])
unfolding report_of
prints = refl

unfinished : report_of (one_method (instr.Text (codes "hi") ∷ instr.Prim 11 ∷ instr.Ret ∷ [])) 3 ≡ r.Unfinished (codes "hi" ∷ [])
unfolding report_of
unfinished = refl

-- an operand is missing, and is found so before the instruction is counted
lacks_operand : report_of (one_method (instr.Ret ∷ [])) 1 ≡ r.Stuck []
unfolding report_of
lacks_operand = refl

-- an operand of a wrong class is found by doing the instruction
wrong_class : report_of (one_method (instr.Int (pos 1) ∷ instr.Prim 11 ∷ instr.Ret ∷ [])) 2 ≡ r.Unfinished []
unfolding report_of
wrong_class = refl

wrong_class_done : report_of (one_method (instr.Int (pos 1) ∷ instr.Prim 11 ∷ instr.Ret ∷ [])) 3 ≡ r.Stuck []
unfolding report_of
wrong_class_done = refl

-- a return to a home that is there
home : report_of (one_method (instr.Mark ∷ instr.Int (pos 1) ∷ instr.Home ∷ [])) 9 ≡ r.End []
unfolding report_of
home = refl

-- eval({ 5 }), and loop({ ^ 1 })
evaluated : report_of
    (image (Some 0) (deed.Code 0 None) [] ((block 0 0 (instr.Closure 1 [] ∷ instr.Prim 12 ∷ instr.Ret ∷ [])
    ∷ block 0 0 (instr.Int (pos 5) ∷ instr.Ret ∷ []) ∷ []) ∷ [])) 6 ≡
    r.End []
unfolding report_of
evaluated = refl

left : report_of (image (Some 0) (deed.Code 0 None) [] ((block 0 0 (instr.Closure 1 [] ∷ instr.Prim 17 ∷ instr.Ret ∷ [])
    ∷ block 0 0 (instr.Int (pos 1) ∷ instr.Home ∷ []) ∷ []) ∷
    [])) 5 ≡ r.End []
unfolding report_of
left = refl

turning : report_of (image (Some 0) (deed.Code 0 None) [] ((block 0 0 (instr.Closure 1 [] ∷ instr.Prim 17 ∷ instr.Ret ∷ [])
    ∷ block 0 0 (instr.Int (pos 1) ∷ instr.Ret ∷ []) ∷
    []) ∷ [])) 40 ≡ r.Unfinished []
unfolding report_of
turning = refl

-- ---- the first send

-- no table for main/0: an instruction
no_table_yet : report_of (image None (deed.Code 0 None) [] []) 0 ≡ r.Unfinished []
unfolding report_of
no_table_yet = refl

no_table : report_of (image None (deed.Code 0 None) [] []) 1 ≡ r.Error [] (e.NotUnderstood (record { name = codes "main"; arity = 0 }))
unfolding report_of
no_table = refl

-- a row whose code is missing, and one whose primitive takes an argument
first_lacks : report_of (image (Some 0) (deed.Code 7 None) [] []) 0 ≡ r.Stuck []
unfolding report_of
first_lacks = refl

first_takes_none : report_of (image (Some 0) (deed.Prim 10) [] []) 0 ≡ r.Stuck []
unfolding report_of
first_takes_none = refl

-- ---- accessors of values that are no objects

abbrev accessor : List ℕ → Does → List Position → ℕ → Table
accessor name does positions arity = record { name = name; arity = arity; rows = record { does = does; beats = 1 } ∷ []; positions = positions }

abbrev everything : Position
everything = record { default = 1; classes = []; tests = [] }

-- by dispatch: the name of the table, without `set_`
got_by_message : report_of (image (Some 0) (deed.Code 0 None) (accessor (codes "x") (deed.Get 0) (everything ∷ []) 1 ∷ [])
    ((block 0 0 (instr.Int (pos 1) ∷ instr.Send 1 ∷ instr.Ret ∷ []) ∷ []) ∷ [])) 3 ≡ r.Error [] (e.NoField (codes "x"))
unfolding report_of
got_by_message = refl

set_by_message : report_of (image (Some 0) (deed.Code 0 None) (accessor (codes "set_x") (deed.Set 0) (everything ∷ everything ∷ []) 2 ∷ [])
    ((block 0 0 (instr.Int (pos 1) ∷ instr.Int (pos 2) ∷ instr.Send 1 ∷ instr.Ret ∷ []) ∷ []) ∷ [])) 4 ≡
    r.Error [] (e.NoField (codes "x"))
unfolding report_of
set_by_message = refl

-- by instruction: stuck, but not before it is done
got_by_instruction : report_of (one_method (instr.Int (pos 1) ∷ instr.Get 0 ∷ instr.Ret ∷ [])) 2 ≡ r.Unfinished []
unfolding report_of
got_by_instruction = refl

got_by_instruction_done : report_of (one_method (instr.Int (pos 1) ∷ instr.Get 0 ∷ instr.Ret ∷ [])) 3 ≡ r.Stuck []
unfolding report_of
got_by_instruction_done = refl

-- a name is left or nothing is cut off
no_name_left : set_name (codes "set_") ≡ codes "set_"
no_name_left = refl

-- ---- for the code of a run

-- what a frame has left, behind the instruction that is fetched
fetched : (image : Image) (one : Instr) (rest : List Instr) (m : Machine by_place) →
    taken (world image) (codes_of image) (map (instruction image) (one ∷ rest)) m ≡ act (world image) (codes_of image) (instruction image one)
    (record m { now = record m.now { left = map (instruction image) rest } })
fetched image one rest m = refl

load_is : (image : Image) (x : ℕ) (m : Machine by_place) → act (world image) (codes_of image) (instruction image (instr.Load x)) m ≡ if_plain
    (slice_get m.now.locals x) (λ value. pushed value m)
load_is image x m = refl

-- a table or a primitive that is missing lacks
no_table_lacks : (image : Image) (t : ℕ) (m : Machine by_place) → slice_get image.tables t ≡ None →
    act (world image) (codes_of image) (instruction image (instr.Send t)) m ≡ Lacks
no_table_lacks image t m e =
    ap (λ (o : Option Table). taking (elim o [ Some own ↦ own.arity | None ↦ 0 ]) m
    (λ values frames. reaches (world image) (codes_of image) (sent image m.state.objects o values None) values frames m.state)) e

no_primitive_lacks : (image : Image) (number : ℕ) (m : Machine by_place) → slice_get counts number ≡ None →
    act (world image) (codes_of image) (instruction image (instr.Prim number)) m ≡ Lacks
no_primitive_lacks image number m e =
    ap (λ (o : Option ℕ). taking (elim o [ Some count ↦ count | None ↦ 0 ]) m (λ values frames.
    performs (world image) (codes_of image) (elim o [
      | Some count ↦ if count == length values then Some
          (primitive.performed (truth image.own) number values) else None
      | None ↦ None
    ]) frames m.state)) e
