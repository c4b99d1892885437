-- What is asked of one name, and of one field.
use Rattle.std.specs.Prelude.{List, [], Option, reverse}
use Rattle.vx_names.specs.declared.key.FieldKey.{FieldKey}
use Rattle.vx_syntax.specs.Expressions.{Bytes}
use Rattle.vx_node.specs.declared.node.NodeId.TheVariants as node
use Rattle.vx_node.specs.declared.node.Fact.TheVariants as fact
use Rattle.vx_node.specs.Asking.{Asking, gives, asks, followed, each}
use Rattle.vx_model.specs.Fields.{keys_named}
use Rattle.vx_answers.specs.OrderRows.{most_names, up_row}
use Rattle.vx_answers.specs.FieldRows.{Slot, slots_in, predicates_in, spread, in_key_order, joined, lowest}

-- its fields, as slots
abbrev pub fields_of : Bytes → Asking (List Slot)
fields_of x = asks (node.Fact (fact.Fields x)) (λ answer. gives (slots_in x answer))

-- the names above its specialiser, beside it
abbrev pub with_above : FieldKey → Asking (FieldKey × List Bytes)
with_above key = followed (up_row key.specialiser) (λ above. gives (key, above))

-- what comes of the fields of all names
abbrev pub in_order : List (List Slot) → Asking (List Slot)
in_order lists = gives (in_key_order (joined lists))

-- what follows the names above a class
abbrev pub of_names : List Bytes → Asking (List Slot)
of_names names = each fields_of names in_order

-- what comes of the names above all keys
abbrev pub lowest_of : Bytes → List Slot → List (FieldKey × List Bytes) → Asking (Option FieldKey)
lowest_of name slots above = gives (lowest (keys_named name slots) above)

-- what follows the fields of a class
abbrev pub of_slots : Bytes → List Slot → Asking (Option FieldKey)
of_slots name slots = each with_above (keys_named name slots) (lowest_of name slots)

-- the predicates among its children
abbrev pub predicates_asked : Bytes → Asking (List Bytes)
predicates_asked x = asks (node.Fact (fact.Children x)) (λ answer. gives (predicates_in answer))

-- the slots of all lists, those of the last list first
abbrev pub gathered : List (List Slot) → List Slot
gathered lists = joined (reverse lists)

-- what comes of the slots that were found
abbrev pub ordered : List Slot → Asking (List Slot)
ordered slots = gives (in_key_order slots)

-- what follows the names above an object
abbrev pub of_above : List Bytes → Asking (List Slot)
of_above names = followed (spread most_names names names []) ordered
