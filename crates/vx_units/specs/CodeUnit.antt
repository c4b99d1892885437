-- The unit of a method's code: its blocks, each with its instructions.
use Rattle.std.specs.Prelude.{ℕ, suc, List, [], ◌∷◌, ◌++◌, length, Option, Some, None}
use Rattle.vx_format.specs.Numbers.{Bytes, number, integer}
use Rattle.vx_names.specs.declared.key.FieldKey.{FieldKey}
use Rattle.vx_model.specs.declared.report.RunError.{RunError}
use Rattle.vx_model.specs.declared.report.RunError.TheVariants as e
use Rattle.vx_node.specs.declared.unit.Piece.{Piece}
use Rattle.vx_node.specs.declared.unit.Symbol.TheVariants as symbols
use Rattle.vx_compilation.specs.declared.tree.Tree.{Tree}
use Rattle.vx_compilation.specs.declared.tree.TreeBlock.{TreeBlock}
use Rattle.vx_compilation.specs.TreeMeaning.{by_name, Sends, Resends}
use Rattle.vx_compilation.specs.Machine.{Instruction, PushInt, PushText, PushObject, Load, Store, NewCell, GetCell, SetCell, Close, Send, Enter}
use Rattle.vx_compilation.specs.Machine.{Perform, Get, Set, Make, Pop, Leave, LeaveHome, Mark, Fail, Block}
use Rattle.vx_compilation.specs.Code.{Instructions, block_code}
use Rattle.vx_units.specs.Signs.{Signs, bytes, named, fitted, each, size, grouped}

-- an operation, and what it names or counts
abbrev pub operation : ℕ → Signs → Signs
operation op operands = bytes (number 1 op) ++ operands

-- the number of a local, of a block or of things
abbrev pub count : ℕ → Signs
count n = bytes (fitted 4 n)

-- a number that has one byte
abbrev pub small : ℕ → Signs
small n = bytes (fitted 1 n)

-- the row of a resend; 255 where there is none
abbrev pub row_signs : Option ℕ → Signs
row_signs (Some row) = small row
row_signs None = bytes (number 1 255)

abbrev pub failure : ℕ → Bytes → ℕ → Signs
failure kind name arity = bytes (number 1 kind) ++ (small (length name) ++ (bytes name ++ small arity))

-- the errors that code is made for; any other has no name
abbrev pub error_signs : RunError → Signs
error_signs (e.NoField name) = failure 0 name 0
error_signs (e.UnknownObject name) = failure 1 name 0
error_signs (e.NotUnderstood selector) = failure 2 selector.name selector.arity
error_signs other = failure 255 [] 0

abbrev pub field_signs : FieldKey → Signs
field_signs field = named (symbols.Field field)

abbrev pub instruction_signs : Instruction by_name → Signs
instruction_signs (PushInt n) = operation 1 (bytes (integer n))
instruction_signs (PushText text) = operation 2 (count (length text) ++ bytes text)
instruction_signs (PushObject name) = operation 3 (named (symbols.Object name))
instruction_signs (Load x) = operation 4 (count x)
instruction_signs (Store x) = operation 5 (count x)
instruction_signs (NewCell x) = operation 6 (count x)
instruction_signs (GetCell x) = operation 7 (count x)
instruction_signs (SetCell x) = operation 8 (count x)
instruction_signs (Close block xs) = operation 9 (count block ++ (count (length xs) ++ each count xs))
instruction_signs (Send (Sends selector) operands) = operation 10 (named (symbols.Table selector))
instruction_signs (Enter code operands) = operation 11 (named (symbols.Code code.method code.variant))
instruction_signs (Send (Resends method row) operands) = operation 12 (named (symbols.Table method.selector) ++ row_signs row)
instruction_signs (Perform primitive operands) = operation 13 (small primitive)
instruction_signs (Get field operands) = operation 14 (field_signs field)
instruction_signs (Set field operands) = operation 15 (field_signs field)
instruction_signs (Make class fields operands) = operation 16 (named (symbols.Object class) ++ (count (length fields) ++ each field_signs fields))
instruction_signs Pop = operation 17 []
instruction_signs Leave = operation 18 []
instruction_signs LeaveHome = operation 19 []
instruction_signs Mark = operation 20 []
instruction_signs (Fail error) = operation 21 (error_signs error)

abbrev pub code_signs : Instructions → Signs
code_signs code = each instruction_signs code

-- how many locals there are, those that are captured, the formals, and the instructions behind the number of their bytes
abbrev pub block_signs : Block by_name → Signs
block_signs own = count own.locals ++ (count own.captures ++ (small own.formals ++ (count (size (code_signs own.code)) ++ code_signs own.code)))

-- blocks, numbered on
abbrev pub blocks_signs : ℕ → List TreeBlock → Signs
blocks_signs number [] = []
blocks_signs number (block ∷ rest) = block_signs (block_code number block) ++ blocks_signs (suc number) rest

-- a method that is not there has no blocks, and nothing stands in its unit
abbrev pub tree_signs : List TreeBlock → Signs
tree_signs [] = []
tree_signs (block ∷ rest) = count (suc (length rest)) ++ blocks_signs 0 (block ∷ rest)

-- How many blocks there are, and each block.
abbrev pub code_unit : Tree → List Piece
code_unit tree = grouped (tree_signs tree.blocks)
