-- How a declaration stands under its name.
use Rattle.vx_syntax.specs.declared.decl.Decl.{Decl}
use Rattle.vx_syntax.specs.declared.decl.Decl.TheVariants as d
use Rattle.vx_node.specs.declared.answer.Stands.{Stands}
use Rattle.vx_node.specs.declared.answer.Stands.TheVariants as h

abbrev pub stands_as : Decl → Stands
stands_as (d.Object x parents) = h.Plain
stands_as (d.Predicate x parents test) = h.Predicate
stands_as (d.Field key start changeable) = h.Nothing
stands_as (d.Method key formals body) = h.Nothing
