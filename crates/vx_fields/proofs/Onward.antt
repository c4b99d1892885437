-- Where the walk over the names of an object goes on.
use Rattle.std.proofs.Common.{◌≡◌, ◌∙◌, ◌+◌, ◌-◌, ◌≤◌, ◌<◌, ◌++◌, ◌∷◌, ℕ, suc, drop_of_length-le, List, [], true, false, ap, arith, drop, get_or, length}
use Rattle.std.proofs.Common.{reverse, subst, sym}
use Rattle.std.specs.Prelude.{nat_lt, not, ◌&&◌, if◌then◌else◌}
use Rattle.std.proofs.lemmas.Bool.{cond-true, cond-false}
use Rattle.std.proofs.lemmas.List.{drop-append-le, reverse-append}
use Rattle.vx_lists.proofs.Rests.{left_at}
use Rattle.vx_syntax.specs.Expressions.{Bytes}
use Rattle.vx_program.specs.Program.{is_name_of}
use Rattle.vx_node.specs.declared.node.NodeId.{NodeId}
use Rattle.vx_node.specs.declared.node.NodeId.TheVariants as node
use Rattle.vx_node.specs.declared.node.Fact.TheVariants as fact
use Rattle.vx_node.specs.declared.answer.Answer.{Answer}
use Rattle.vx_node.specs.declared.trace.Step.{Step}
use Rattle.vx_node.specs.declared.asker.Halt.{Halt}
use Rattle.vx_node.specs.declared.asker.Halt.TheVariants as halts
use Rattle.vx_node.specs.Asking.{Asking, gives, mixes, ask, followed}
use Rattle.vx_node.specs.Askers.{Manner, Goes, Stops}
use Rattle.vx_node.proofs.Leaving.{goes_on, stops, goes_within, stops_within, gives_up}
use Rattle.vx_answers.specs.declared.limits.TheConstants.{MOST_NAMES}
use Rattle.vx_answers.specs.OrderRows.{most_names}
use Rattle.vx_answers.specs.FieldRows.{Slot, joining, may_hold, spread, joined}
use Rattle.vx_answers.proofs.Most.{most_is, more_than_most, no_more_than_most}
use Rattle.vx_fields.specs.Questions.{fields_of, predicates_asked, gathered}

abbrev pub Onward : Type 0
Onward = List Bytes → List Bytes → Asking (List Slot)

-- where a predicate that is met leads, unless it is one too many
abbrev met_on : (met left : List Bytes) → Bytes → List Bytes → Onward → Asking (List Slot)
met_on met left x xs go =
    if nat_lt most_names (length (met ++ x ∷ [])) then mixes (node.Fact (fact.Decl x)) else joining (met ++ x ∷ []) (left ++ x ∷ []) xs go

abbrev told_on : (met left : List Bytes) → Bytes → List Bytes → Onward → Answer → Asking (List Slot)
told_on met left x xs go answer = if may_hold met answer && not (is_name_of met x) then met_on met left x xs go else joining met left xs go

-- the answer how a predicate is declared
told : {S : Type 0} {manner : Manner S} {old new : S} {before after : List Step} (met left : List Bytes) (x : Bytes) (xs : List Bytes) (go : Onward)
    (value : Answer) (to : Asking (List Slot)) → Goes manner (ask (node.Fact (fact.Decl x))) (gives value) old before new after →
    told_on met left x xs go value ≡ to → Goes manner (joining met left (x ∷ xs) go) to old before new after
told {manner = manner} {old = old} {new = new} {before = before} {after = after} met left x xs go value to goes is =
    subst (λ q. Goes manner (joining met left (x ∷ xs) go) q old before new after) is (goes_within (told_on met left x xs go) goes)

pub not_told : {S : Type 0} {manner : Manner S} {old new : S} {before after : List Step} {halt : Halt} (met left : List Bytes) (x : Bytes)
    (xs : List Bytes) (go : Onward) → Stops manner (ask (node.Fact (fact.Decl x))) halt old before new after →
    Stops manner (joining met left (x ∷ xs) go) halt old before new after
not_told met left x xs go stopped = stops_within (told_on met left x xs go) stopped

-- it stays out
pub stays_out : {S : Type 0} {manner : Manner S} {old new : S} {before after : List Step} (met left : List Bytes) (x : Bytes) (xs : List Bytes)
    (go : Onward) (value : Answer) → Goes manner (ask (node.Fact (fact.Decl x))) (gives value) old before new after →
    (may_hold met value && not (is_name_of met x)) ≡ false → Goes manner (joining met left (x ∷ xs) go) (joining met left xs go) old before new after
stays_out met left x xs go value goes out =
    told met left x xs go value (joining met left xs go) goes
    (cond-false (may_hold met value && not (is_name_of met x)) (met_on met left x xs go) (joining met left xs go) out)

-- it is met
pub is_met : {S : Type 0} {manner : Manner S} {old new : S} {before after : List Step} (met : List Bytes) (place : ℕ) (x : Bytes) (xs : List Bytes)
    (go : Onward) (value : Answer) (now : List Bytes) → Goes manner (ask (node.Fact (fact.Decl x))) (gives value) old before new after →
    (may_hold met value && not (is_name_of met x)) ≡ true → now ≡ met ++ x ∷ [] → length now ≤ MOST_NAMES → place ≤ length met →
    Goes manner (joining met (drop place met) (x ∷ xs) go) (joining now (drop place now) xs go) old before new after
is_met met place x xs go value now goes holds grown few within =
    let left : List Bytes = drop place met in
    let rest : drop place now ≡ left ++ x ∷ [] = ap (drop place) grown ∙ drop-append-le place met (x ∷ []) within in
    let few' : nat_lt most_names (length (met ++ x ∷ [])) ≡ false = ap (λ ms. nat_lt most_names (length ms)) (sym grown) ∙
    no_more_than_most (length now) few in
    told met left x xs go value (joining now (drop place now) xs go) goes
    (cond-true (may_hold met value && not (is_name_of met x)) (met_on met left x xs go) (joining met left xs go) holds
    ∙ cond-false (nat_lt most_names (length (met ++ x ∷ []))) (mixes (node.Fact (fact.Decl x))) (joining (met ++ x ∷ []) (left ++ x ∷ []) xs go) few'
    ∙ ap (λ ms. joining ms (left ++ x ∷ []) xs go) (sym grown) ∙ ap (λ ls. joining now ls xs go) (sym rest))

-- it is one too many
pub is_too_many : {S : Type 0} {manner : Manner S} {old new : S} {before after : List Step} (met left : List Bytes) (x : Bytes) (xs : List Bytes)
    (go : Onward) (value : Answer) (now : List Bytes) (at : NodeId) → Goes manner (ask (node.Fact (fact.Decl x))) (gives value) old before new after →
    (may_hold met value && not (is_name_of met x)) ≡ true → now ≡ met ++ x ∷ [] → MOST_NAMES < length now → at ≡ node.Fact (fact.Decl x) →
    Stops manner (joining met left (x ∷ xs) go) (halts.Mixed at) old before new after
is_too_many {manner = manner} {old = old} {new = new} {before = before} {after = after} met left x xs go value now at goes holds grown more same =
    let many : nat_lt most_names (length (met ++ x ∷ [])) ≡ true = ap (λ ms. nat_lt most_names (length ms)) (sym grown) ∙
    more_than_most (length now) more in
    subst (λ n. Stops manner (joining met left (x ∷ xs) go) (halts.Mixed n) old before new after) (sym same)
    (gives_up (told met left x xs go value (mixes (node.Fact (fact.Decl x))) goes
    (cond-true (may_hold met value && not (is_name_of met x)) (met_on met left x xs go) (joining met left xs go) holds
    ∙ cond-true (nat_lt most_names (length (met ++ x ∷ []))) (mixes (node.Fact (fact.Decl x))) (joining (met ++ x ∷ []) (left ++ x ∷ []) xs go) many)))

-- ---- a step

-- what follows the predicates among the children of a name, and then its fields
abbrev pub of_children : ℕ → (met : List Bytes) → Bytes → (left : List Bytes) → List Slot → List Bytes → Asking (List Slot)
of_children steps met x left found predicates =
    followed (fields_of x) (λ slots. joining met left predicates (λ met left. spread steps met left (slots ++ found)))

abbrev pub of_fields : ℕ → (met left : List Bytes) → List Slot → List Bytes → List Slot → Asking (List Slot)
of_fields steps met left found predicates slots = joining met left predicates (λ met left. spread steps met left (slots ++ found))

-- the whole from a place is what is asked for the name there
pub at_name : (steps : ℕ) (met : List Bytes) (place : ℕ) (x : Bytes) (found : List Slot) → place < length met → x ≡ get_or met place x →
    spread (suc steps) met (drop place met) found ≡ followed (predicates_asked x) (of_children steps met x (drop (place + 1) met) found)
at_name steps met place x found within is = ap (λ left. spread (suc steps) met left found) (left_at met place x within is)

-- one list more is before the others
pub one_list_more : (lists : List (List Slot)) (slots : List Slot) → gathered (lists ++ slots ∷ []) ≡ slots ++ gathered lists
one_list_more lists slots = ap joined (reverse-append lists (slots ∷ []))

-- ---- loops

-- a predicate that is left
pub at_predicate : {S : Type 0} {manner : Manner S} {old new : S} {before after : List Step} {whole : Asking (List Slot)} (met left xs : List Bytes)
    (place : ℕ) (x : Bytes) (go : Onward) → place < length xs → x ≡ get_or xs place x →
    Goes manner whole (joining met left (drop place xs) go) old before new after →
    Goes manner whole (joining met left (x ∷ drop (place + 1) xs) go) old before new after
at_predicate {manner = manner} {old = old} {new = new} {before = before} {after = after} {whole = whole} met left xs place x go within is goes =
    subst (λ ls. Goes manner whole (joining met left ls go) old before new after) (left_at xs place x within is) goes

-- and where none is left
pub none_joins : {S : Type 0} {manner : Manner S} {old new : S} {before after : List Step} {whole : Asking (List Slot)} (met left xs : List Bytes)
    (place : ℕ) (go : Onward) → length xs ≤ place → Goes manner whole (joining met left (drop place xs) go) old before new after →
    Goes manner whole (go met left) old before new after
none_joins {manner = manner} {old = old} {new = new} {before = before} {after = after} {whole = whole} met left xs place go past goes =
    subst (λ ls. Goes manner whole (joining met left ls go) old before new after) (drop_of_length-le xs past) goes

-- a name that is left, with a step that may be taken
pub at_step : {S : Type 0} {manner : Manner S} {old new : S} {before after : List Step} {whole : Asking (List Slot)} (met : List Bytes) (place : ℕ)
    (found : List Slot) → place < MOST_NAMES →
    Goes manner whole (spread (most_names - place) met (drop place met) found) old before new after →
    Goes manner whole (spread (suc (most_names - (place + 1))) met (drop place met) found) old before new after
at_step {manner = manner} {old = old} {new = new} {before = before} {after = after} {whole = whole} met place found few goes =
    let fewer : most_names - place ≡ suc (most_names - (place + 1)) = omega (arith, most_is, few) in
    subst (λ n. Goes manner whole (spread n met (drop place met) found) old before new after) fewer goes

-- one for which there is no step
pub no_step : {S : Type 0} {manner : Manner S} {old new : S} {before after : List Step} {whole : Asking (List Slot)} (met : List Bytes) (place : ℕ)
    (x : Bytes) (found : List Slot) (at : NodeId) → place < length met → x ≡ get_or met place x → MOST_NAMES ≤ place → place ≤ most_names →
    at ≡ node.Fact (fact.Children x) → Goes manner whole (spread (most_names - place) met (drop place met) found) old before new after →
    Stops manner whole (halts.Mixed at) old before new after
no_step {manner = manner} {old = old} {new = new} {before = before} {after = after} {whole = whole} met place x found at within is many few same goes =
    let none : most_names - place ≡ 0 = omega (arith, most_is, many) in
    subst (λ n. Stops manner whole (halts.Mixed n) old before new after) (sym same)
    (gives_up (subst (λ ls. Goes manner whole (spread 0 met ls found) old before new after) (left_at met place x within is)
    (subst (λ n. Goes manner whole (spread n met (drop place met) found) old before new after) none goes)))

-- no name is left
pub all_spread : {S : Type 0} {manner : Manner S} {old new : S} {before after : List Step} {whole : Asking (List Slot)} (steps : ℕ) (met : List Bytes)
    (place : ℕ) (found : List Slot) → length met ≤ place → Goes manner whole (spread steps met (drop place met) found) old before new after →
    Goes manner whole (gives found) old before new after
all_spread {manner = manner} {old = old} {new = new} {before = before} {after = after} {whole = whole} steps met place found past goes =
    subst (λ ls. Goes manner whole (spread steps met ls found) old before new after) (drop_of_length-le met past) goes

-- ---- the parts of a step

pub step_stops : {S : Type 0} {manner : Manner S} {old new : S} {before after : List Step} {halt : Halt} (steps : ℕ) (met : List Bytes) (place : ℕ)
    (x : Bytes) (found : List Slot) → place < length met → x ≡ get_or met place x → Stops manner (predicates_asked x) halt old before new after →
    Stops manner (spread (suc steps) met (drop place met) found) halt old before new after
step_stops {manner = manner} {old = old} {new = new} {before = before} {after = after} {halt = halt} steps met place x found within is stopped =
    subst (λ q. Stops manner q halt old before new after) (sym (at_name steps met place x found within is))
    (stops_within (of_children steps met x (drop (place + 1) met) found) stopped)

pub step_goes : {S : Type 0} {manner : Manner S} {old new : S} {before after : List Step} (steps : ℕ) (met : List Bytes) (place : ℕ) (x : Bytes)
    (found : List Slot) (predicates : List Bytes) → place < length met → x ≡ get_or met place x →
    Goes manner (predicates_asked x) (gives predicates) old before new after →
    Goes manner (spread (suc steps) met (drop place met) found)
    (followed (fields_of x) (of_fields steps met (drop (place + 1) met) found predicates)) old before new after
step_goes {manner = manner} {old = old} {new = new} {before = before} {after = after} steps met place x found predicates within is goes =
    subst (λ q. Goes manner q (followed (fields_of x) (of_fields steps met (drop (place + 1) met) found predicates)) old before new after)
    (sym (at_name steps met place x found within is)) (goes_within (of_children steps met x (drop (place + 1) met) found) goes)

-- what was joined, as the code keeps the lists
pub step_ends : {S : Type 0} {manner : Manner S} {old new : S} {before after : List Step} {whole : Asking (List Slot)} (steps : ℕ) (now left : List Bytes)
    (slots : List Slot) (lists grown : List (List Slot)) → grown ≡ lists ++ slots ∷ [] →
    Goes manner whole (spread steps now left (slots ++ gathered lists)) old before new after →
    Goes manner whole (spread steps now left (gathered grown)) old before new after
step_ends {manner = manner} {old = old} {new = new} {before = before} {after = after} {whole = whole} steps now left slots lists grown is goes =
    subst (λ found. Goes manner whole (spread steps now left found) old before new after) (sym (ap gathered is ∙ one_list_more lists slots)) goes
