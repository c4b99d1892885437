-- What a method is made by.
use Rattle.std.specs.Prelude.{ℕ, ◌==◌, List, length, Option, Some, None, if◌then◌else◌}
use Rattle.std.specs.List.{find, position_from}
use Rattle.vx_names.specs.declared.key.MethodKey.{MethodKey}
use Rattle.vx_names.specs.declared.key.DeclKey.TheVariants as k
use Rattle.vx_syntax.specs.declared.decl.Decl.{Decl}
use Rattle.vx_syntax.specs.declared.decl.Decl.TheVariants as d
use Rattle.vx_syntax.specs.declared.expr.Body.{Body}
use Rattle.vx_syntax.specs.Expressions.{Bytes}
use Rattle.vx_program.specs.Prelude.{same_key, primitive_keys}
use Rattle.vx_program.specs.Program.{occupies}
use Rattle.vx_node.specs.declared.kind.Kind.{Kind}
use Rattle.vx_node.specs.declared.kind.Kind.TheVariants as kinds

-- the declaration that makes a method; a primitive has none
abbrev pub maker : List Decl → MethodKey → Option Decl
maker program key = find (λ decl. occupies decl (k.Method key)) program

-- the number of a primitive
abbrev pub number_of : MethodKey → Option ℕ
number_of key = position_from (λ one. same_key one (k.Method key)) 0 primitive_keys

abbrev pub primitive_kind : Option ℕ → Kind
primitive_kind (Some number) = kinds.Prim number
primitive_kind None = kinds.Source

-- the method that reads a field has one specialiser, that which sets it two
abbrev pub kind_by : MethodKey → Option Decl → Kind
kind_by key (Some (d.Method own formals body)) = kinds.Source
kind_by key (Some (d.Field field start changeable)) = if length key.specialisers == 1 then kinds.Get field else kinds.Set field
kind_by key (Some (d.Object x parents)) = kinds.Source
kind_by key (Some (d.Predicate x parents test)) = kinds.Source
kind_by key None = primitive_kind (number_of key)

-- What makes the method of a key.
abbrev pub kind : List Decl → MethodKey → Kind
kind program key = kind_by key (maker program key)

-- the formals and the body of a method that is declared
pub record Source : Type 0 where
  pub formals : List (Option Bytes)
  pub body : Body

abbrev pub source_by : Option Decl → Option Source
source_by (Some (d.Method own formals body)) = Some (record { formals = formals; body = body })
source_by other = None

abbrev pub source : List Decl → MethodKey → Option Source
source program key = source_by (maker program key)
