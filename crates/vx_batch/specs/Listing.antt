-- The declarations of a program, printed.
use Rattle.std.specs.Prelude.{ℕ, Bool, not, List, ◌++◌, length, filter, codes}
use Rattle.std.specs.Fmt.{decimal}
use Rattle.std.specs.List.{flat_map}
use Rattle.vx_syntax.specs.declared.decl.Decl.{Decl}
use Rattle.vx_syntax.specs.Keys.{key_of}
use Rattle.vx_program.specs.Prelude.{is_reserved}
use Rattle.vx_syntax.specs.Print.{decl_text}
use Rattle.vx_batch.specs.Text.{line}

-- whether the declaration is no part of the prelude
abbrev pub is_listed : Decl → Bool
is_listed decl = not (is_reserved (key_of decl))

abbrev pub listed_line : Decl → List ℕ
listed_line decl = line (codes "| " ++ decl_text decl)

-- a line for each declaration besides the prelude, and how many these are
abbrev pub list_text : List Decl → List ℕ
list_text program = flat_map listed_line (filter is_listed program) ++ line (codes "= list " ++ decimal (length (filter is_listed program)))
