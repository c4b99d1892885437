-- The code of trees.
use Rattle.std.specs.Prelude.{ℕ, List, [], ◌∷◌, length, map, codes, Option, Some, None}
use Rattle.vx_compilation.specs.declared.tree.TreeBlock.{TreeBlock}
use Rattle.vx_compilation.specs.declared.tree.Part as p
use Rattle.vx_compilation.specs.declared.tree.Act as a
use Rattle.vx_compilation.specs.Machine.{Instruction, PushInt, PushText, PushObject, Load, Store, NewCell, GetCell, SetCell, Close, Send, Enter}
use Rattle.vx_compilation.specs.Machine.{Perform, Get, Make, Pop, Leave, LeaveHome, Mark, Fail, Block, Codes}
use Rattle.vx_compilation.specs.Machine as machine
use Rattle.vx_compilation.specs.TreeMeaning.{by_name, Sends, Resends, Blocks, Statement, Does, Do, Return, Effect, Let, LetVar, Set, Mode, Stays}
use Rattle.vx_compilation.specs.TreeMeaning.{Leaves, mode_of, field_keys}

abbrev pub Instructions : Type 0
Instructions = List (Instruction by_name)

-- the code of something, before the instructions that follow it
abbrev pub Code : Type 0
Code = Instructions → Instructions

abbrev pub in_order : List Code → Code
in_order [] following = following
in_order (own ∷ rest) following = own (in_order rest following)

-- the operands, and an instruction that takes so many of them
abbrev pub calling : List Code → (ℕ → Instruction by_name) → Code
calling parts instruction following = in_order parts (instruction (length parts) ∷ following)

abbrev pub effect_code : Effect → Instruction by_name
effect_code (Let x) = Store x
effect_code (LetVar x) = NewCell x
effect_code (Set x) = SetCell x

abbrev pub returning_code : Mode → Code
returning_code Stays following = following
returning_code Leaves following = LeaveHome ∷ []

abbrev pub statements_code : Mode → List (Statement Code) → Code
statements_code mode [] following = PushObject (codes "nil") ∷ following
statements_code mode (Does effect own ∷ rest) following = own (effect_code effect ∷ statements_code mode rest following)
statements_code mode (Return own ∷ rest) following = own (returning_code mode following)
statements_code mode (Do own ∷ []) following = own following
statements_code mode (Do own ∷ next ∷ rest) following = own (Pop ∷ statements_code mode (next ∷ rest) following)

-- the last formal is stored first
abbrev pub stores_code : List ℕ → Code
stores_code [] following = following
stores_code (x ∷ xs) following = stores_code xs (Store x ∷ following)

abbrev pub inlined_code : List Code → List ℕ → List (Statement Code) → Code
inlined_code parts xs body following = in_order parts (Mark ∷ stores_code xs (statements_code Stays body following))

abbrev mutual
  pub part_code : p.Part → Code
  part_code (p.Int n) following = PushInt n ∷ following
  part_code (p.Text bytes) following = PushText bytes ∷ following
  part_code (p.Local x) following = Load x ∷ following
  part_code (p.Cell x) following = GetCell x ∷ following
  part_code (p.Object name) following = PushObject name ∷ following
  part_code (p.Closure block xs) following = Close block xs ∷ following
  part_code (p.New' class shape row) following = calling (new_code row) (Make class (field_keys row)) following
  part_code (p.Send' selector shape row) following = calling (parts_code row) (Send (Sends selector)) following
  part_code (p.Resend' method place shape row) following = calling (parts_code row) (Send (Resends method place)) following
  part_code (p.Prim' number shape row) following = calling (parts_code row) (Perform number) following
  part_code (p.Get' field shape row) following = calling (parts_code row) (Get field) following
  part_code (p.Set' field shape row) following = calling (parts_code row) (machine.Set field) following
  part_code (p.Call' method variant shape row) following = calling (parts_code row) (Enter (record { method = method; variant = variant })) following
  part_code (p.Inlined' shape row xs shape2 body) following = inlined_code (parts_code row) xs (body_code body) following
  part_code (p.Fail' error shape row) following = in_order (parts_code row) (Fail error ∷ following)

  pub parts_code : {n : _} → p.Row_of-Part n → List Code
  parts_code p.end_of-Part = []
  parts_code (p.more_of-Part own rest) = part_code own ∷ parts_code rest

  pub new_code : {n : _} → p.Row_of-Part-New-1-2 n → List Code
  new_code p.end_of-Part-New-1-2 = []
  new_code (p.more_of-Part-New-1-2 key own rest) = part_code own ∷ new_code rest

  pub body_code : {n : _} → p.Row_of-Act n → List (Statement Code)
  body_code p.end_of-Act = []
  body_code (p.more_of-Act own rest) = statement_code own ∷ body_code rest

  pub statement_code : a.Act → Statement Code
  statement_code (a.Let x own) = Does (Let x) (part_code own)
  statement_code (a.LetVar x own) = Does (LetVar x) (part_code own)
  statement_code (a.Set x own) = Does (Set x) (part_code own)
  statement_code (a.Do own) = Do (part_code own)
  statement_code (a.Back own) = Return (part_code own)

abbrev pub block_code : ℕ → TreeBlock → Block by_name
block_code number own = record {
  locals = own.locals;
  captures = own.captures;
  formals = length own.formals;
  code = statements_code (mode_of number) (map statement_code own.acts) (Leave ∷ []);
}

abbrev pub code_of : ℕ → Option TreeBlock → Option (Block by_name)
code_of number None = None
code_of number (Some own) = Some (block_code number own)

-- the code of all blocks
abbrev pub codes_of : Blocks → Codes by_name
codes_of blocks code number = code_of number (blocks code number)
