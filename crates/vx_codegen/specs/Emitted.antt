-- How code is emitted from the left.
use Rattle.std.specs.Prelude.{◌≡◌, Bool, true, false, ◌&&◌, List, [], ◌∷◌, ◌++◌, map, Option, Some, None}
use Rattle.vx_compilation.specs.declared.tree.Part.{Part}
use Rattle.vx_compilation.specs.declared.tree.Act.{Act}
use Rattle.vx_compilation.specs.declared.tree.TreeBlock.{TreeBlock}
use Rattle.vx_compilation.specs.TreeMeaning.{by_name, Mode, Stays, Leaves}
use Rattle.vx_compilation.specs.Code.{Instructions, Code, part_code, statement_code, statements_code, in_order, block_code}
use Rattle.vx_names.specs.declared.key.FieldKey.{FieldKey}
use Rattle.vx_units.specs.Signs.{Signs}
use Rattle.vx_compilation.specs.Machine.{Block, Pop, LeaveHome}
use Rattle.vx_units.specs.CodeUnit.{code_signs, instruction_signs}

-- the second signs are the first and behind them those of the code, whatever follows
abbrev pub Emits : Signs → Signs → Code → Type 0
Emits old new code = (following : Instructions) → new ++ code_signs following ≡ old ++ code_signs (code following)

-- whether a closure's activation is left by a return, or nothing is
abbrev pub mode : Bool → Mode
mode true = Leaves
mode false = Stays

-- what follows where the activation was left
abbrev pub unless : Bool → Instructions → Instructions
unless true following = []
unless false following = following

-- The same of statements. Of a closure some may leave the activation, and then nothing follows.
abbrev pub Comes : Signs → Signs → Bool → Bool → List Act → Type 0
Comes old new left is_closure acts =
    (following : Instructions) → new ++ code_signs (unless (is_closure && left) following)
    ≡ old ++ code_signs (statements_code (mode is_closure) (map statement_code acts) following)

-- whether there are no more statements
abbrev pub is_over : List Act → Bool
is_over [] = true
is_over (act ∷ rest) = false

-- The same of one statement with others behind it: it is over with it, or those behind it follow.
abbrev pub Turns : Signs → Signs → Option Bool → Bool → Act → List Act → Type 0
Turns old new (Some left) is_closure act rest = Comes old new left is_closure (act ∷ rest)
Turns old new None is_closure act rest =
    (following : Instructions) → new ++ code_signs (statements_code (mode is_closure) (map statement_code rest) following)
    ≡ old ++ code_signs (statements_code (mode is_closure) (map statement_code (act ∷ rest)) following)

-- what stands behind the value of a statement that is not used
abbrev pub end_signs : Bool → Signs
end_signs true = []
end_signs false = instruction_signs Pop

abbrev pub end_over : Bool → Option Bool
end_over true = Some false
end_over false = None

-- what stands behind a value that is returned
abbrev pub return_signs : Bool → Signs
return_signs true = instruction_signs LeaveHome
return_signs false = []

-- a block, as a method's or a closure's
abbrev pub block_of : Bool → TreeBlock → Block by_name
block_of true block = block_code 1 block
block_of false block = block_code 0 block

-- the code of parts, and of the values of fields, in order
abbrev pub parts_code : List Part → Code
parts_code parts = in_order (map part_code parts)

abbrev pub keys : List (FieldKey × Part) → List FieldKey
keys fields = map (λ field. field.0) fields

abbrev pub fields_code : List (FieldKey × Part) → Code
fields_code fields = in_order (map (λ field. part_code field.1) fields)
