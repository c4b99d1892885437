-- What is asked for the names above a name, for the objects below it and for its base.
use Rattle.std.specs.Prelude.{ℕ, zero, suc, ◌+◌, nat_lt, Bool, true, false, List, [], ◌∷◌, ◌++◌, length, Option, Some, None, if◌then◌else◌}
use Rattle.std.specs.Ordering.{is_lt}
use Rattle.vx_names.specs.Key.{name_cmp}
use Rattle.vx_syntax.specs.Expressions.{Bytes}
use Rattle.vx_program.specs.declared.limits.TheConstants.{MAX_DECLARATIONS}
use Rattle.vx_program.specs.Prelude.{prelude_objects}
use Rattle.vx_program.specs.Program.{is_name_of}
use Rattle.vx_node.specs.declared.node.NodeId.{NodeId}
use Rattle.vx_node.specs.declared.node.NodeId.TheVariants as node
use Rattle.vx_node.specs.declared.node.Fact.TheVariants as fact
use Rattle.vx_node.specs.declared.answer.Answer.{Answer}
use Rattle.vx_node.specs.declared.answer.Answer.TheVariants as answers
use Rattle.vx_node.specs.declared.answer.Known.TheVariants as known
use Rattle.vx_node.specs.declared.answer.Stands.{Stands}
use Rattle.vx_node.specs.declared.answer.Stands.TheVariants as h
use Rattle.vx_node.specs.Asking.{Asking, gives, mixes, asks}

-- as many objects and predicates as a program has at most
unfoldable pub most_names : ℕ
most_names = MAX_DECLARATIONS + length prelude_objects

-- a name put in its place among names in byte order
abbrev pub with_name : Bytes → List Bytes → List Bytes
with_name x [] = x ∷ []
with_name x (y ∷ ys) = if is_lt (name_cmp x y) then x ∷ y ∷ ys else y ∷ with_name x ys

-- those of the names that are not met yet, each once
abbrev pub fresh : List Bytes → List Bytes → List Bytes
fresh met [] = []
fresh met (x ∷ xs) = if is_name_of met x then fresh met xs else x ∷ fresh (met ++ x ∷ []) xs

-- how a walk goes: what it asks of a name, and which names the answer leads on to, if the name is there
pub record Way : Type 0 where
  pub node : Bytes → NodeId
  pub onward : Answer → Option (List Bytes)

-- A walk asks of each name that it meets, once and in the order in which they are met, and meets the names that the answers lead on to. Its value is
-- the names that are there, in byte order. It gives up at the answer by which it has met more names than a program has.
abbrev pub walk : Way → ℕ → (met left found : List Bytes) → Asking (List Bytes)
walk way steps met [] found = gives found
walk way zero met (x ∷ left) found = mixes (way.node x)
walk way (suc steps) met (x ∷ left) found =
    asks (way.node x) (λ answer.
    elim (way.onward answer) [
      | None ↦ walk way steps met left found
      | Some xs ↦
          if nat_lt most_names (length (met ++ fresh met xs)) then mixes (way.node x)
          else walk way steps (met ++ fresh met xs) (left ++ fresh met xs) (with_name x found)
    ])

-- a walk from a name
abbrev pub walk_from : Way → Bytes → Asking (List Bytes)
walk_from way x = walk way most_names (x ∷ []) (x ∷ []) []

-- the parents of a name that is there
abbrev pub parents_in : Answer → Option (List Bytes)
parents_in (answers.Decl (known.Plain parents)) = Some parents
parents_in (answers.Decl (known.Predicate parents test)) = Some parents
parents_in answer = None

abbrev pub upward : Way
upward = record { node = λ x. node.Fact (fact.Decl x); onward = parents_in }

-- Of each name above, and of the name itself, its declaration.
abbrev pub up_row : Bytes → Asking (List Bytes)
up_row x = walk_from upward x

-- the plain ones among children
abbrev pub plain_ones : List (Bytes × Stands) → List Bytes
plain_ones [] = []
plain_ones ((x, h.Plain) ∷ rest) = x ∷ plain_ones rest
plain_ones ((x, h.Predicate) ∷ rest) = plain_ones rest
plain_ones ((x, h.Nothing) ∷ rest) = plain_ones rest

abbrev pub children_in : Answer → Option (List Bytes)
children_in (answers.Children children) = Some (plain_ones children)
children_in answer = Some []

abbrev pub downward : Way
downward = record { node = λ x. node.Fact (fact.Children x); onward = children_in }

abbrev pub is_plain : Answer → Bool
is_plain (answers.There h.Plain) = true
is_plain answer = false

-- How the name stands; and where it is a plain object, the children of each plain object below it and of itself.
abbrev pub cone_row : Bytes → Asking (List Bytes)
cone_row x = asks (node.Fact (fact.There x)) (λ answer. if is_plain answer then walk_from downward x else gives [])

-- where a chain of first parents goes on
pub data Onward : Type 0 where
  nowhere : Onward
  here : Onward
  first : (parent : Bytes) → Onward

abbrev pub onward_in : Answer → Onward
onward_in (answers.Decl (known.Plain parents)) = here
onward_in (answers.Decl (known.Predicate (parent ∷ parents) test)) = first parent
onward_in answer = nowhere

-- A chain of first parents asks of each name until one is plain. It gives up at the answer by which it returns, or has met more names than a program has.
abbrev pub chain : ℕ → (met : List Bytes) → Bytes → Asking (Option Bytes)
chain zero met x = mixes (node.Fact (fact.Decl x))
chain (suc steps) met x =
    asks (node.Fact (fact.Decl x)) (λ answer.
    elim (onward_in answer) [
      | nowhere ↦ gives None
      | here ↦ gives (Some x)
      | first parent ↦
          if is_name_of met parent then mixes (node.Fact (fact.Decl x))
          else if nat_lt most_names (length (met ++ parent ∷ [])) then mixes (node.Fact (fact.Decl x))
          else chain steps (met ++ parent ∷ []) parent
    ])

-- The declarations of the chain of first parents.
abbrev pub base_row : Bytes → Asking (Option Bytes)
base_row x = chain most_names (x ∷ []) x
