-- The canonical text of edits, a line for each change, and how high changes are.
use Rattle.std.specs.Prelude.{ℕ, List, [], ◌∷◌, ◌++◌, codes}
use Rattle.vx_names.specs.declared.key.DeclKey.{DeclKey}
use Rattle.vx_names.specs.declared.key.DeclKey.TheVariants as y
use Rattle.vx_syntax.specs.Expressions.{Bytes}
use Rattle.vx_syntax.specs.Print.{key_text, decl_text}
use Rattle.vx_syntax.specs.Counts.{height}
use Rattle.vx_program.specs.declared.edit.Change.{Change}
use Rattle.vx_program.specs.declared.edit.Change.TheVariants as c

-- a key with its kind, as a `drop` names it: `object a`, `predicate a`, `field f(@a)` and `method m(@a,@b)`
abbrev pub named_key_text : DeclKey → Bytes
named_key_text (y.Object x) = codes "object " ++ x
named_key_text (y.Predicate x) = codes "predicate " ++ x
named_key_text (y.Field key) = key_text (y.Field key)
named_key_text (y.Method key) = codes "method " ++ key_text (y.Method key)

-- `add object a`, `put object a` and `drop object a`
abbrev pub change_text : Change → Bytes
change_text (c.Add decl) = codes "add " ++ decl_text decl
change_text (c.Put decl) = codes "put " ++ decl_text decl
change_text (c.Drop key) = codes "drop " ++ named_key_text key

-- the byte between two lines
abbrev pub line_feed : ℕ
line_feed = 10

-- the changes in order, with a line feed between two
abbrev pub edit_text : List Change → Bytes
edit_text [] = []
edit_text (change ∷ []) = change_text change
edit_text (change ∷ next ∷ changes) = change_text change ++ line_feed ∷ edit_text (next ∷ changes)

-- how deep the parts of what the change brings lie in one another
abbrev pub change_height : Change → ℕ
change_height (c.Add decl) = height decl
change_height (c.Put decl) = height decl
change_height (c.Drop key) = 0
