-- Rows ask nodes of lower ranks alone.
use Rattle.std.proofs.Common.{List, Option, Some, None, Bool, true, false, [], arith, inl, inr, subst, suc, zero, length, ◌∷◌, ◌++◌, ◌<◌, ℕ}
use Rattle.std.specs.Prelude.{nat_lt, not, if◌then◌else◌, ◌&&◌}
use Rattle.vx_lists.specs.Members.{IsIn}
use Rattle.vx_syntax.specs.Expressions.{Bytes}
use Rattle.vx_program.specs.Program.{is_name_of}
use Rattle.vx_node.specs.declared.node.NodeId.{NodeId}
use Rattle.vx_node.specs.declared.node.NodeId.TheVariants as node
use Rattle.vx_names.specs.declared.key.FieldKey.{FieldKey}
use Rattle.vx_node.specs.declared.node.Fact.TheVariants as fact
use Rattle.vx_node.specs.declared.answer.Answer.{Answer}
use Rattle.vx_node.specs.Nodes.{rank}
use Rattle.vx_node.specs.Traces.{Answers}
use Rattle.vx_node.specs.Asking.{Asking, gives, mixes, asks, asked, followed, each}
use Rattle.vx_answers.specs.OrderRows.{Way, walk, walk_from, most_names, fresh, with_name, upward, downward, up_row, cone_row, base_row, is_plain}
use Rattle.vx_answers.specs.OrderRows.{chain, onward_in, Onward, nowhere, here, first}
use Rattle.vx_answers.specs.FieldRows.{Slot, slots_row, spread, joining, may_hold, predicates_in, fields_row, field_row, slots_in, in_key_order, joined, lowest}
use Rattle.vx_model.specs.Fields.{keys_named}

-- whatever is answered, all that is asked has a lower rank
pub data AsksBelow {A : Type 0} (r : ℕ) : Asking A → Type 0 where
  given : (value : A) → AsksBelow r (gives value)
  mixed : (subject : NodeId) → AsksBelow r (mixes subject)
  low : (subject : NodeId) (next : Answer → Asking A) → rank subject < r → ((answer : Answer) → AsksBelow r (next answer)) → AsksBelow r (asks subject next)

pub asked_below : {A : Type 0} (r : ℕ) (q : Asking A) (answer : Answers) (subject : NodeId) → AsksBelow r q → IsIn subject (asked q answer) → rank subject < r
asked_below r q answer subject (given value) i = absurd i
asked_below r q answer subject (mixed at) i = absurd i
asked_below r q answer subject (low at next less more) (inl e) = subst (λ n. rank n < r) e less
asked_below r q answer subject (low at next less more) (inr i) = asked_below r (next (answer at)) answer subject (more (answer at)) i

pub followed_below : {A B : Type 0} (r : ℕ) (q : Asking A) (go : A → Asking B) → AsksBelow r q → ((value : A) → AsksBelow r (go value)) →
    AsksBelow r (followed q go)
followed_below r q go (given value) more = more value
followed_below r q go (mixed at) more = mixed at
followed_below r q go (low at next less below) more =
    low at (λ answer. followed (next answer) go) less (λ answer. followed_below r (next answer) go (below answer) more)

pub each_below : {X A B : Type 0} (r : ℕ) (question : X → Asking A) (xs : List X) (go : List A → Asking B) → ((x : X) → AsksBelow r (question x)) →
    ((values : List A) → AsksBelow r (go values)) → AsksBelow r (each question xs go)
each_below r question [] go below more = more []
each_below r question (x ∷ xs) go below more =
    followed_below r (question x) (λ value. each question xs (λ values. go (value ∷ values))) (below x)
    (λ value. each_below r question xs (λ values. go (value ∷ values)) below (λ values. more (value ∷ values)))

-- one of two
pub either_below : {A : Type 0} (r : ℕ) (b : Bool) (q s : Asking A) → AsksBelow r q → AsksBelow r s → AsksBelow r (if b then q else s)
either_below r true q s one other = one
either_below r false q s one other = other

-- one node, and what goes on from its answer
one_below : {A : Type 0} (r : ℕ) (subject : NodeId) (next : Answer → Asking A) → rank subject < r → ((answer : Answer) → AsksBelow r (next answer)) →
    AsksBelow r (asks subject next)
one_below r subject next less more = low subject next less more

-- where a walk goes on
abbrev pub led_on : Way → ℕ → (met : List Bytes) → Bytes → (left found : List Bytes) → Option (List Bytes) → Asking (List Bytes)
led_on way steps met x left found onward =
    elim onward [
      | None ↦ walk way steps met left found
      | Some xs ↦
          if nat_lt most_names (length (met ++ fresh met xs)) then mixes (way.node x)
          else walk way steps (met ++ fresh met xs) (left ++ fresh met xs) (with_name x found)
    ]

led_below : (r : ℕ) (way : Way) (steps : ℕ) (met : List Bytes) (x : Bytes) (left found : List Bytes) (onward : Option (List Bytes)) →
    ((met left found : List Bytes) → AsksBelow r (walk way steps met left found)) → AsksBelow r (led_on way steps met x left found onward)
led_below r way steps met x left found None below = below met left found
led_below r way steps met x left found (Some xs) below =
    either_below r (nat_lt most_names (length (met ++ fresh met xs))) (mixes (way.node x))
    (walk way steps (met ++ fresh met xs) (left ++ fresh met xs) (with_name x found)) (mixed (way.node x))
    (below (met ++ fresh met xs) (left ++ fresh met xs) (with_name x found))

walk_below : (r : ℕ) (way : Way) → ((x : Bytes) → rank (way.node x) < r) → (steps : ℕ) (met left found : List Bytes) →
    AsksBelow r (walk way steps met left found)
walk_below r way less steps met [] found = given found
walk_below r way less zero met (x ∷ left) found = mixed (way.node x)
walk_below r way less (suc steps) met (x ∷ left) found =
    low (way.node x) (λ answer. led_on way steps met x left found (way.onward answer)) (less x)
    (λ answer. led_below r way steps met x left found (way.onward answer) (walk_below r way less steps))

pub up_below : (x : Bytes) → AsksBelow 1 (up_row x)
up_below x = walk_below 1 upward (λ y. omega arith) most_names (x ∷ []) (x ∷ []) []

pub cone_below : (x : Bytes) → AsksBelow 1 (cone_row x)
cone_below x =
    low (node.Fact (fact.There x)) (λ answer. if is_plain answer then walk_from downward x else gives []) (omega arith)
    (λ answer. either_below 1 (is_plain answer) (walk_from downward x) (gives []) (walk_below 1 downward (λ y. omega arith) most_names (x ∷ []) (x ∷ []) [])
    (given []))

pub fields_below : (x : Bytes) → AsksBelow 1 (fields_row x)
fields_below x =
    followed_below 1 (up_row x) _ (up_below x) (λ names.
    each_below 1 (λ y. asks (node.Fact (fact.Fields y)) (λ answer. gives (slots_in y answer))) names (λ slots. gives (in_key_order (joined slots)))
    (λ y. low (node.Fact (fact.Fields y)) (λ answer. gives (slots_in y answer)) (omega arith) (λ answer. given (slots_in y answer)))
    (λ slots. given (in_key_order (joined slots))))

pub field_below : (class name : Bytes) → AsksBelow 1 (field_row class name)
field_below class name =
    followed_below 1 (fields_row class) _ (fields_below class) (λ slots.
    each_below 1 (λ (key : FieldKey). followed (up_row key.specialiser) (λ above. gives (key, above))) (keys_named name slots)
    (λ ups. gives (lowest (keys_named name slots) ups))
    (λ key. followed_below 1 (up_row key.specialiser) (λ above. gives (key, above)) (up_below key.specialiser) (λ above. given (key, above)))
    (λ ups. given (lowest (keys_named name slots) ups)))

-- the predicates among children, whatever goes on from them
joining_below : {A : Type 0} (met left xs : List Bytes) (go : List Bytes → List Bytes → Asking A) → ((met left : List Bytes) → AsksBelow 1 (go met left)) →
    AsksBelow 1 (joining met left xs go)
joining_below met left [] go below = below met left
joining_below met left (x ∷ xs) go below =
    low (node.Fact (fact.Decl x)) _ (omega arith) (λ answer.
    either_below 1 (may_hold met answer && not (is_name_of met x)) _ _
    (either_below 1 (nat_lt most_names (length (met ++ x ∷ []))) _ _ (mixed (node.Fact (fact.Decl x)))
    (joining_below (met ++ x ∷ []) (left ++ x ∷ []) xs go below))
    (joining_below met left xs go below))

spread_below : (steps : ℕ) (met left : List Bytes) (found : List Slot) → AsksBelow 1 (spread steps met left found)
spread_below steps met [] found = given found
spread_below zero met (x ∷ left) found = mixed (node.Fact (fact.Children x))
spread_below (suc steps) met (x ∷ left) found =
    low (node.Fact (fact.Children x)) _ (omega arith) (λ children. low (node.Fact (fact.Fields x)) _ (omega arith) (λ fields.
    joining_below met left (predicates_in children) (λ met left. spread steps met left (slots_in x fields ++ found))
    (λ met left. spread_below steps met left (slots_in x fields ++ found))))

pub slots_below : (x : Bytes) → AsksBelow 1 (slots_row x)
slots_below x =
    followed_below 1 (up_row x) _ (up_below x) (λ names.
    followed_below 1 (spread most_names names names []) (λ slots. gives (in_key_order slots)) (spread_below most_names names names [])
    (λ slots. given (in_key_order slots)))

-- where a chain of first parents goes on
chain_on : (steps : ℕ) (met : List Bytes) (x : Bytes) (onward : Onward) → ((met : List Bytes) (x : Bytes) → AsksBelow 1 (chain steps met x)) →
    AsksBelow 1 (elim onward [
      | nowhere ↦ gives None
      | here ↦ gives (Some x)
      | first parent ↦
          if is_name_of met parent then mixes (node.Fact (fact.Decl x))
          else if nat_lt most_names (length (met ++ parent ∷ [])) then mixes (node.Fact (fact.Decl x))
          else chain steps (met ++ parent ∷ []) parent
    ])
chain_on steps met x nowhere below = given None
chain_on steps met x here below = given (Some x)
chain_on steps met x (first parent) below =
    either_below 1 (is_name_of met parent) _ _ (mixed (node.Fact (fact.Decl x)))
    (either_below 1 (nat_lt most_names (length (met ++ parent ∷ []))) _ _ (mixed (node.Fact (fact.Decl x))) (below (met ++ parent ∷ []) parent))

chain_below : (steps : ℕ) (met : List Bytes) (x : Bytes) → AsksBelow 1 (chain steps met x)
chain_below zero met x = mixed (node.Fact (fact.Decl x))
chain_below (suc steps) met x = low (node.Fact (fact.Decl x)) _ (omega arith) (λ answer. chain_on steps met x (onward_in answer) (chain_below steps))

pub base_below : (x : Bytes) → AsksBelow 1 (base_row x)
base_below x = chain_below most_names (x ∷ []) x
