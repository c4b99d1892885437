-- Whose fields an object of a class may come to have.
use Rattle.std.specs.Prelude.{◌≡◌, ◌⊎◌, true, List}
use Rattle.vx_lists.specs.Members.{IsIn}
use Rattle.vx_syntax.specs.declared.decl.Decl.{Decl}
use Rattle.vx_syntax.specs.declared.decl.Decl.TheVariants as d
use Rattle.vx_syntax.specs.declared.test.Test.{Test}
use Rattle.vx_syntax.specs.Expressions.{Bytes}
use Rattle.vx_program.specs.Program.{is_there}
use Rattle.vx_node.specs.declared.node.NodeId.{NodeId}
use Rattle.vx_node.specs.declared.node.NodeId.TheVariants as node
use Rattle.vx_node.specs.declared.node.Fact.TheVariants as fact
use Rattle.vx_model.specs.Fields.{may}

-- the name is there, and an object of the class may come to count as it: it is above the class, or a predicate that may hold
abbrev pub MayBe : List Decl → Bytes → Bytes → Type 0
MayBe program class x = (is_there program x ≡ true) × (may program class x ≡ true)

-- a predicate that has the name among its parents
abbrev pub IsPredicateOn : List Decl → Bytes → Bytes → Type 0
IsPredicateOn program x y = (parents : List Bytes) × (test : Test) × IsIn (d.Predicate y parents test) program × IsIn x parents

-- the children of a name, its fields, and the declarations of the predicates among its children
abbrev pub IsAround : List Decl → Bytes → NodeId → Type 0
IsAround program x subject =
    (subject ≡ node.Fact (fact.Children x)) ⊎ ((subject ≡ node.Fact (fact.Fields x)) ⊎
    ((y : Bytes) × IsPredicateOn program x y × (subject ≡ node.Fact (fact.Decl y))))
