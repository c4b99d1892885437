-- When two machines are alike: what they name, and how they keep objects, correspond. An image by places is to be alike the code by names that it was
-- made of.
use Rattle.vx_syntax.specs.Expressions.{Bytes}
use Rattle.std.specs.Prelude.{◌≡◌, ℕ, List, [], ◌∷◌, Option, Some, None}
use Rattle.vx_model.specs.declared.value.Value.{Value}
use Rattle.vx_compilation.specs.Activations.{Symbols, World, Making, Makes, NoSlot, NoClass, Target, ToCode, ToPrimitive, ToGetter, ToSetter}
use Rattle.vx_compilation.specs.Activations.{ToError, ToNothing}
use Rattle.vx_compilation.specs.Machine as machine
use Rattle.vx_compilation.specs.Machine.{Instruction, Block, Codes}

-- what corresponds
pub record Matching (y z : Symbols) : Type 1 where
  pub Object : y.Object → z.Object → Type 0
  pub Message : y.Message → z.Message → Type 0
  pub Code : y.Code → z.Code → Type 0
  pub Field : y.Field → z.Field → Type 0
  pub Objects : y.Objects → z.Objects → Type 0

module _ {y z : Symbols} (c : Matching y z) where
  abbrev pub FieldsAlike : List y.Field → List z.Field → Type 0
  FieldsAlike [] [] = Unit {0}
  FieldsAlike [] (b ∷ bs) = ⊥
  FieldsAlike (a ∷ as') [] = ⊥
  FieldsAlike (a ∷ as') (b ∷ bs) = c.Field a b × FieldsAlike as' bs

  pub data TargetAlike : Target y → Target z → Type 0 where
    code : {a : y.Code} {b : z.Code} → c.Code a b → TargetAlike (ToCode a) (ToCode b)
    primitive : {number : ℕ} → TargetAlike (ToPrimitive number) (ToPrimitive number)
    getter : {a : y.Field} {b : z.Field} {name : Bytes} → c.Field a b → TargetAlike (ToGetter a name) (ToGetter b name)
    setter : {a : y.Field} {b : z.Field} {name : Bytes} → c.Field a b → TargetAlike (ToSetter a name) (ToSetter b name)
    error : {error : _} → TargetAlike (ToError error) (ToError error)
    nothing : TargetAlike ToNothing ToNothing

  pub data MakingAlike : Making y → Making z → Type 0 where
    makes : {value : Value} {a : y.Objects} {b : z.Objects} → c.Objects a b → MakingAlike (Makes value a) (Makes value b)
    no_slot : MakingAlike NoSlot NoSlot
    no_class : MakingAlike NoClass NoClass

  abbrev pub PutAlike : Option y.Objects → Option z.Objects → Type 0
  PutAlike None None = Unit {0}
  PutAlike None (Some b) = ⊥
  PutAlike (Some a) None = ⊥
  PutAlike (Some a) (Some b) = c.Objects a b

  pub data InstructionAlike : Instruction y → Instruction z → Type 0 where
    push_int : {n : _} → InstructionAlike (machine.PushInt n) (machine.PushInt n)
    push_text : {bytes : _} → InstructionAlike (machine.PushText bytes) (machine.PushText bytes)
    push_object : {a : y.Object} {b : z.Object} → c.Object a b → InstructionAlike (machine.PushObject a) (machine.PushObject b)
    load : {x : ℕ} → InstructionAlike (machine.Load x) (machine.Load x)
    store : {x : ℕ} → InstructionAlike (machine.Store x) (machine.Store x)
    new_cell : {x : ℕ} → InstructionAlike (machine.NewCell x) (machine.NewCell x)
    get_cell : {x : ℕ} → InstructionAlike (machine.GetCell x) (machine.GetCell x)
    set_cell : {x : ℕ} → InstructionAlike (machine.SetCell x) (machine.SetCell x)
    close : {block : ℕ} {xs : List ℕ} → InstructionAlike (machine.Close block xs) (machine.Close block xs)
    send : {a : y.Message} {b : z.Message} {count : ℕ} → c.Message a b → InstructionAlike (machine.Send a count) (machine.Send b count)
    enter : {a : y.Code} {b : z.Code} {count : ℕ} → c.Code a b → InstructionAlike (machine.Enter a count) (machine.Enter b count)
    perform : {number count : ℕ} → InstructionAlike (machine.Perform number count) (machine.Perform number count)
    get : {a : y.Field} {b : z.Field} {count : ℕ} → c.Field a b → InstructionAlike (machine.Get a count) (machine.Get b count)
    set : {a : y.Field} {b : z.Field} {count : ℕ} → c.Field a b → InstructionAlike (machine.Set a count) (machine.Set b count)
    make : {a : y.Object} {b : z.Object} {as' : List y.Field} {bs : List z.Field} {count : ℕ} → c.Object a b → FieldsAlike as' bs →
        InstructionAlike (machine.Make a as' count) (machine.Make b bs count)
    pop : InstructionAlike machine.Pop machine.Pop
    leave : InstructionAlike machine.Leave machine.Leave
    leave_home : InstructionAlike machine.LeaveHome machine.LeaveHome
    mark : InstructionAlike machine.Mark machine.Mark
    fail : {error : _} → InstructionAlike (machine.Fail error) (machine.Fail error)

  abbrev pub CodeAlike : List (Instruction y) → List (Instruction z) → Type 0
  CodeAlike [] [] = Unit {0}
  CodeAlike [] (b ∷ bs) = ⊥
  CodeAlike (a ∷ as') [] = ⊥
  CodeAlike (a ∷ as') (b ∷ bs) = InstructionAlike a b × CodeAlike as' bs

  pub record BlockAlike (a : Block y) (b : Block z) : Type 0 where
    pub locals : a.locals ≡ b.locals
    pub captures : a.captures ≡ b.captures
    pub formals : a.formals ≡ b.formals
    pub code : CodeAlike a.code b.code

  abbrev pub BlocksAlike : Option (Block y) → Option (Block z) → Type 0
  BlocksAlike None None = Unit {0}
  BlocksAlike None (Some b) = ⊥
  BlocksAlike (Some a) None = ⊥
  BlocksAlike (Some a) (Some b) = BlockAlike a b

  -- two programs for machines are alike, step by step
  pub record Alike (world : World y) (world' : World z) (codes : Codes y) (codes' : Codes z) : Type 0 where
    pub blocks : (a : y.Code) (b : z.Code) (number : ℕ) → c.Code a b → BlocksAlike (codes a number) (codes' b number)
    pub nil : world.nil ≡ world'.nil
    pub named : (a : y.Object) (b : z.Object) → c.Object a b → world.named a ≡ world'.named b
    pub deed : (number : ℕ) (values : List Value) → world.deed number values ≡ world'.deed number values
    pub dispatch : (objects : y.Objects) (objects' : z.Objects) (a : y.Message) (b : z.Message) (values : List Value) → c.Objects objects objects' →
        c.Message a b → TargetAlike (world.dispatch objects a values) (world'.dispatch objects' b values)
    pub made : (a : y.Object) (b : z.Object) (as' : List y.Field) (bs : List z.Field) (values : List Value) (objects : y.Objects) (objects' : z.Objects) →
        c.Object a b → FieldsAlike as' bs → c.Objects objects objects' → MakingAlike (world.made a as' values objects) (world'.made b bs values objects')
    pub got : (a : y.Field) (b : z.Field) (value : Value) (objects : y.Objects) (objects' : z.Objects) → c.Field a b → c.Objects objects objects' →
        world.got a value objects ≡ world'.got b value objects'
    pub put : (a : y.Field) (b : z.Field) (own value : Value) (objects : y.Objects) (objects' : z.Objects) → c.Field a b → c.Objects objects objects' →
        PutAlike (world.put a own value objects) (world'.put b own value objects')
