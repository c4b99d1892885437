-- Which facts tell two declarations of one key apart.
use Rattle.std.specs.Prelude.{◌≡◌, ◌⊎◌, Bool, false, not, ◌&&◌, List, [], ◌∷◌, ◌++◌, Option, Some, None, if◌then◌else◌}
use Rattle.std.specs.declared.cmp.Ordering.{Ordering}
use Rattle.vx_names.specs.declared.key.FieldKey.{FieldKey}
use Rattle.vx_names.specs.declared.key.MethodKey.{MethodKey}
use Rattle.vx_names.specs.declared.key.DeclKey.{DeclKey}
use Rattle.vx_names.specs.declared.key.DeclKey.TheVariants as k
use Rattle.vx_syntax.specs.declared.decl.Decl.{Decl}
use Rattle.vx_syntax.specs.declared.decl.Decl.TheVariants as d
use Rattle.vx_syntax.specs.Expressions.{Bytes}
use Rattle.vx_syntax.specs.Keys.{key_of}
use Rattle.vx_syntax.specs.Written.{IsKeyWritten}
use Rattle.vx_program.specs.declared.edit.Change.{Change}
use Rattle.vx_program.specs.declared.edit.Change.TheVariants as c
use Rattle.vx_program.specs.Program.{parents_of, is_name_of, getter, setter}
use Rattle.vx_node.specs.declared.node.Fact.{Fact}
use Rattle.vx_node.specs.declared.node.Fact.TheVariants as fact
use Rattle.vx_node.specs.declared.node.NodeId.TheVariants as node
use Rattle.vx_node.specs.Nodes.{node_cmp}

-- the order of nodes, among facts
abbrev pub fact_cmp : Fact → Fact → Ordering
fact_cmp a b = node_cmp (node.Fact a) (node.Fact b)

-- the key under which a change changes something
abbrev pub changed_key : Change → DeclKey
changed_key (c.Add decl) = key_of decl
changed_key (c.Put decl) = key_of decl
changed_key (c.Drop key) = key

-- the parents of a declaration that may be missing, and whether it is a field that can be changed
abbrev pub parents_there : Option Decl → List Bytes
parents_there None = []
parents_there (Some decl) = parents_of decl

abbrev pub can_change : Option Decl → Bool
can_change (Some (d.Field key start changeable)) = changeable
can_change other = false

-- facts on which each declaration of the key says the same
abbrev pub unless_there : Option Decl → Fact → List Fact
unless_there None one = one ∷ []
unless_there (Some decl) one = []

-- those of the parents to which the others don't make it a child
abbrev pub children_alone : List Bytes → List Bytes → List Fact
children_alone [] others = []
children_alone (x ∷ xs) others = if is_name_of others x then children_alone xs others else fact.Children x ∷ children_alone xs others

abbrev pub object_alone : Bytes → List Bytes → Option Decl → List Fact
object_alone x parents other = (fact.Decl x ∷ unless_there other (fact.There x)) ++ children_alone parents (parents_there other)

abbrev pub field_alone : FieldKey → Bool → Option Decl → List Fact
field_alone key changeable other =
    (fact.Fields key.specialiser ∷ unless_there other (fact.Heads (getter key).selector))
    ++ (if changeable && not (can_change other) then fact.Heads (setter key).selector ∷ [] else [])

abbrev pub method_alone : MethodKey → Option Decl → List Fact
method_alone key other = fact.Body key ∷ unless_there other (fact.Heads key.selector)

-- The facts on which a declaration says what another one of its key, which is not the same, or none doesn't say.
abbrev pub said_alone : Decl → Option Decl → List Fact
said_alone (d.Object x parents) other = object_alone x parents other
said_alone (d.Predicate x parents test) other = object_alone x parents other
said_alone (d.Field key start changeable) other = field_alone key changeable other
said_alone (d.Method key formals body) other = method_alone key other

-- the same of a declaration that may be missing
abbrev pub said_if_there : Option Decl → Option Decl → List Fact
said_if_there None other = []
said_if_there (Some decl) other = said_alone decl other

-- declarations that are there have one key
abbrev pub HaveOneKey : Option Decl → Option Decl → Type 0
HaveOneKey (Some a) (Some b) = key_of a ≡ key_of b
HaveOneKey (Some a) None = Unit {0}
HaveOneKey None other = Unit {0}

-- the key of a field stands in some text, so that there is a name for the method that sets it
abbrev pub IsFieldWritten : Option Decl → Type 0
IsFieldWritten (Some (d.Field key start changeable)) = IsKeyWritten (k.Field key)
IsFieldWritten other = Unit {0}

-- The facts that tell two declarations of one key apart are put behind others, if the declarations are not the same.
abbrev pub ArePutBehind : Option Decl → Option Decl → List Fact → List Fact → Type 0
ArePutBehind before after old new =
    ((before ≡ after) × (new ≡ old))
    ⊎ ((before ≡ after → ⊥) × (new ≡ old ++ (said_if_there before after ++ said_if_there after before)))
