-- What is asked for the slots of objects and the fields of classes.
use Rattle.std.specs.Prelude.{ℕ, zero, suc, nat_lt, Bool, false, not, ◌&&◌, List, [], ◌∷◌, ◌++◌, length, Option, Some, None, if◌then◌else◌}
use Rattle.std.specs.List.{list_all}
use Rattle.std.specs.Ordering.{is_lt}
use Rattle.vx_names.specs.declared.key.FieldKey.{FieldKey}
use Rattle.vx_names.specs.declared.key.DeclKey.TheVariants as decl_keys
use Rattle.vx_names.specs.Key.{decl_key_cmp}
use Rattle.vx_syntax.specs.declared.decl.Start.{Start}
use Rattle.vx_syntax.specs.Declarations.{field_key}
use Rattle.vx_syntax.specs.Expressions.{Bytes}
use Rattle.vx_program.specs.Program.{is_name_of}
use Rattle.vx_node.specs.declared.node.NodeId.TheVariants as node
use Rattle.vx_node.specs.declared.node.Fact.TheVariants as fact
use Rattle.vx_node.specs.declared.node.Filter.TheVariants as filter
use Rattle.vx_node.specs.declared.answer.Answer.{Answer}
use Rattle.vx_node.specs.declared.answer.Answer.TheVariants as answers
use Rattle.vx_node.specs.declared.answer.Known.TheVariants as known
use Rattle.vx_node.specs.declared.answer.Stands.{Stands}
use Rattle.vx_node.specs.declared.answer.Stands.TheVariants as h
use Rattle.vx_node.specs.declared.unit.Piece.{Piece}
use Rattle.vx_node.specs.Asking.{Asking, gives, mixes, asks, followed, each}
use Rattle.vx_model.specs.Fields.{keys_named}
use Rattle.vx_units.specs.ShapeUnit.{shape_unit}
use Rattle.vx_answers.specs.OrderRows.{most_names, up_row}

abbrev pub Slot : Type 0
Slot = FieldKey × Start

-- whether one slot goes before another in key order
abbrev pub goes_before : Slot → Slot → Bool
goes_before slot other = is_lt (decl_key_cmp (decl_keys.Field slot.0) (decl_keys.Field other.0))

-- a slot put in its place among slots in key order
abbrev pub with_slot : Slot → List Slot → List Slot
with_slot slot [] = slot ∷ []
with_slot slot (other ∷ rest) = if goes_before slot other then slot ∷ other ∷ rest else other ∷ with_slot slot rest

abbrev pub in_key_order : List Slot → List Slot
in_key_order [] = []
in_key_order (slot ∷ rest) = with_slot slot (in_key_order rest)

-- the slots that the fields of a name make
abbrev pub slots_on : Bytes → List (Bytes × Start × Bool) → List Slot
slots_on x [] = []
slots_on x ((name, start, changeable) ∷ rest) = (field_key name x, start) ∷ slots_on x rest

abbrev pub slots_in : Bytes → Answer → List Slot
slots_in x (answers.Fields fields) = slots_on x fields
slots_in x answer = []

-- ---- slots

-- the predicates among children
abbrev pub predicate_ones : List (Bytes × Stands) → List Bytes
predicate_ones [] = []
predicate_ones ((x, h.Predicate) ∷ rest) = x ∷ predicate_ones rest
predicate_ones ((x, h.Plain) ∷ rest) = predicate_ones rest
predicate_ones ((x, h.Nothing) ∷ rest) = predicate_ones rest

abbrev pub predicates_in : Answer → List Bytes
predicates_in (answers.Children children) = predicate_ones children
predicates_in answer = []

-- whether it is a predicate all of whose parents are met
abbrev pub may_hold : List Bytes → Answer → Bool
may_hold met (answers.Decl (known.Predicate parents test)) = list_all (is_name_of met) parents
may_hold met answer = false

-- Of each of these predicates its declaration. One that is not met yet, and all of whose parents are, is met. It gives up at the answer by which more
-- names are met than a program has.
abbrev pub joining : {A : Type 0} → (met left predicates : List Bytes) → (List Bytes → List Bytes → Asking A) → Asking A
joining met left [] go = go met left
joining met left (x ∷ xs) go =
    asks (node.Fact (fact.Decl x)) (λ answer.
    if may_hold met answer && not (is_name_of met x) then
    (if nat_lt most_names (length (met ++ x ∷ [])) then mixes (node.Fact (fact.Decl x)) else joining (met ++ x ∷ []) (left ++ x ∷ []) xs go)
    else joining met left xs go)

-- Of each name that is met, once and in the order in which they are met, its children and its fields. So all predicates are met that may come to hold.
abbrev pub spread : ℕ → (met left : List Bytes) → List Slot → Asking (List Slot)
spread steps met [] found = gives found
spread zero met (x ∷ left) found = mixes (node.Fact (fact.Children x))
spread (suc steps) met (x ∷ left) found =
    asks (node.Fact (fact.Children x)) (λ children. asks (node.Fact (fact.Fields x)) (λ fields.
    joining met left (predicates_in children) (λ met left. spread steps met left (slots_in x fields ++ found))))

-- What is asked for the names above the name; then, of these and of each predicate that may hold, the children and the fields, and the declaration of
-- each predicate among these children.
abbrev pub slots_row : Bytes → Asking (List Slot)
slots_row x = followed (up_row x) (λ names. followed (spread most_names names names []) (λ slots. gives (in_key_order slots)))

-- ---- fields

abbrev pub joined : List (List Slot) → List Slot
joined [] = []
joined (slots ∷ rest) = slots ++ joined rest

-- The fields of each name above, and what is asked for those names.
abbrev pub fields_row : Bytes → Asking (List Slot)
fields_row x =
    followed (up_row x) (λ names.
    each (λ y. asks (node.Fact (fact.Fields y)) (λ answer. gives (slots_in y answer))) names (λ slots. gives (in_key_order (joined slots))))

-- the key whose specialiser has all other specialisers above it; beside each key stand the names above its specialiser
abbrev pub lowest : List FieldKey → List (FieldKey × List Bytes) → Option FieldKey
lowest keys [] = None
lowest keys ((key, above) ∷ rest) = if list_all (λ other. is_name_of above other.specialiser) keys then Some key else lowest keys rest

-- Nothing but what is asked for the fields of the names above: the names above a specialiser that is above the class are above the class.
abbrev pub field_row : Bytes → Bytes → Asking (Option FieldKey)
field_row class name =
    followed (fields_row class) (λ slots.
    each (λ key. followed (up_row key.specialiser) (λ above. gives (key, above))) (keys_named name slots)
    (λ ups. gives (lowest (keys_named name slots) ups)))

-- ---- shapes

abbrev pub slots_answered : Answer → List Slot
slots_answered (answers.Slots slots) = slots
slots_answered answer = []

-- The slots.
abbrev pub shape_row : Bytes → Asking (List Piece)
shape_row x = asks (node.Filter (filter.Slots x)) (λ answer. gives (shape_unit (slots_answered answer)))
