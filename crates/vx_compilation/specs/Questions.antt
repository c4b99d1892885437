-- What passes ask of a program, as functions from a question to its answer. Each pass is defined over these, so it has an answer whatever it is told;
-- and where two programs give the same answers to what is asked, they have the same tree.
use Rattle.std.specs.Prelude.{ℕ, List, Option}
use Rattle.vx_names.specs.declared.key.Selector.{Selector}
use Rattle.vx_names.specs.declared.key.MethodKey.{MethodKey}
use Rattle.vx_names.specs.declared.key.FieldKey.{FieldKey}
use Rattle.vx_syntax.specs.Expressions.{Bytes}
use Rattle.vx_model.specs.Kinds.{Source}
use Rattle.vx_node.specs.declared.node.Info.{Info}
use Rattle.vx_node.specs.declared.kind.Kind.{Kind}
use Rattle.vx_node.specs.declared.answer.Bound.{Bound}
use Rattle.vx_node.specs.declared.answer.Stands.{Stands}

pub record Asked : Type 0 where
  pub there : Bytes → Stands
  pub heads : Selector → List (MethodKey × Kind)
  pub body : MethodKey → Option Source
  pub base : Bytes → Option Bytes
  pub field : Bytes → Bytes → Option FieldKey
  pub inline : MethodKey → Option Source
  pub bind : Selector → List Info → Option MethodKey → Bound
  pub clones : MethodKey → Option (ℕ × List Bytes)
