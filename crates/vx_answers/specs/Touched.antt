-- Which facts an edit touches.
use Rattle.std.specs.Prelude.{◌≡◌, ◌↔◌, Bool, false, List}
use Rattle.std.specs.List.{list_any}
use Rattle.std.specs.Str.{bytes_eq}
use Rattle.vx_lists.specs.Members.{IsIn}
use Rattle.vx_names.specs.declared.key.DeclKey.TheVariants as decl_keys
use Rattle.vx_syntax.specs.declared.decl.Decl.{Decl}
use Rattle.vx_syntax.specs.declared.decl.Decl.TheVariants as d
use Rattle.vx_program.specs.Program.{is_named, is_name_of, parents_of, is_method_of, occupied, occupies}
use Rattle.vx_node.specs.declared.node.Fact.{Fact}
use Rattle.vx_node.specs.declared.node.Fact.TheVariants as fact
use Rattle.vx_answers.specs.Facts.{fact_of}

-- The facts of the list are just those that the two programs answer differently.
abbrev pub AreTouched : List Decl → List Decl → List Fact → Type 0
AreTouched before after facts = (one : Fact) → IsIn one facts ↔ (fact_of before one ≡ fact_of after one → ⊥)

-- Whether what a fact says may depend on the declaration.
abbrev pub concerns : Fact → Decl → Bool
concerns (fact.Decl x) decl = is_named x decl
concerns (fact.Children x) decl = is_name_of (parents_of decl) x
concerns (fact.There x) decl = is_named x decl
concerns (fact.Heads selector) decl = list_any (is_method_of selector) (occupied decl)
concerns (fact.Body key) decl = occupies decl (decl_keys.Method key)
concerns (fact.Fields x) (d.Field key start changeable) = bytes_eq key.specialiser x
concerns (fact.Fields x) (d.Object own parents) = false
concerns (fact.Fields x) (d.Predicate own parents test) = false
concerns (fact.Fields x) (d.Method key formals body) = false
