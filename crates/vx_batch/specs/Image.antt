-- The image of a program: its plain objects as bytes, version 0.
use Rattle.std.specs.Prelude.{ℕ, ◌-◌, ◌^◌, min, Bool, false, not, List, [], ◌∷◌, ◌++◌, length, filter, codes}
use Rattle.std.specs.Int.{w32, to_be_bytes}
use Rattle.std.specs.List.{flat_map}
use Rattle.vx_syntax.specs.declared.decl.Decl.{Decl}
use Rattle.vx_syntax.specs.declared.decl.Decl.TheVariants as d
use Rattle.vx_names.specs.declared.key.DeclKey.TheVariants as k
use Rattle.vx_program.specs.Prelude.{is_reserved}

-- A number in four bytes, the highest first. One that does not fit them is written as the greatest that does.
abbrev pub number_bytes : ℕ → List ℕ
number_bytes n = to_be_bytes w32 (min n (2 ^ 32 - 1))

-- one byte with the length of the name, and then the name
abbrev pub name_bytes : List ℕ → List ℕ
name_bytes name = length name ∷ name

-- the name of an object, how many parents it has, and their names; no other declaration has bytes
abbrev pub object_bytes : Decl → List ℕ
object_bytes (d.Object name parents) = name_bytes name ++ number_bytes (length parents) ++ flat_map name_bytes parents
object_bytes decl = []

-- whether the declaration is a plain object and not the prelude's
abbrev pub is_own : Decl → Bool
is_own (d.Object name parents) = not (is_reserved (k.Object name))
is_own decl = false

-- what images begin with: `VXIC`, and the version in one byte
abbrev pub image_head : List ℕ
image_head = codes "VXIC" ++ 0 ∷ []

-- how many objects there are besides the prelude's, and those objects in the program's order
abbrev pub image_of : List Decl → List ℕ
image_of program = image_head ++ number_bytes (length (filter is_own program)) ++ flat_map object_bytes (filter is_own program)
