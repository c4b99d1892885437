-- One step of a walk.
use Rattle.std.proofs.Common.{Result, Ok, Err, drop_of_length-le, ◌-◌, List, Option, Some, None, true, false, [], ap, arith, sym, subst, suc, length}
use Rattle.std.proofs.Common.{drop, get_or, ◌∷◌, ◌++◌, ◌≡◌, ◌∙◌, ◌+◌, ◌≤◌, ◌<◌, ℕ}
use Rattle.std.specs.Prelude.{nat_lt, if◌then◌else◌}
use Rattle.std.proofs.lemmas.Bool.{cond-true, cond-false}
use Rattle.vx_lists.proofs.Rests.{left_at}
use Rattle.vx_syntax.specs.Expressions.{Bytes}
use Rattle.vx_node.specs.declared.node.NodeId.{NodeId}
use Rattle.vx_node.specs.declared.answer.Answer.{Answer}
use Rattle.vx_node.specs.declared.trace.Step.{Step}
use Rattle.vx_node.specs.declared.asker.Halt.{Halt}
use Rattle.vx_node.specs.declared.asker.Halt.TheVariants as h
use Rattle.vx_node.specs.Asking.{Asking, gives, mixes, ask}
use Rattle.vx_node.specs.declared.node.NodeId.TheVariants as n
use Rattle.vx_node.specs.declared.node.Fact.TheVariants as f
use Rattle.vx_node.specs.Askers.{Manner, Goes, Stops, Follows}
use Rattle.vx_node.proofs.Leaving.{idle, goes_on, stops, goes_within, stops_within, gives_up}
use Rattle.std.proofs.lemmas.List.{drop-append-le}
use Rattle.vx_answers.specs.declared.limits.TheConstants.{MOST_NAMES}
use Rattle.vx_answers.proofs.Most.{more_than_most, no_more_than_most}
use Rattle.vx_answers.specs.OrderRows.{is_plain, downward, cone_row, Way, walk, walk_from, fresh, with_name, most_names}

-- where a walk goes on from a name whose answer leads on to these names
abbrev pub led_on : Way → ℕ → (met : List Bytes) → Bytes → (left found : List Bytes) → Option (List Bytes) → Asking (List Bytes)
led_on way steps met x left found onward =
    elim onward [
      | None ↦ walk way steps met left found
      | Some xs ↦
          if nat_lt most_names (length (met ++ fresh met xs)) then mixes (way.node x)
          else walk way steps (met ++ fresh met xs) (left ++ fresh met xs) (with_name x found)
    ]

abbrev pub answered : Way → ℕ → (met : List Bytes) → Bytes → (left found : List Bytes) → Answer → Asking (List Bytes)
answered way steps met x left found answer = led_on way steps met x left found (way.onward answer)

-- a walk with a name left asks of it
pub one_more : {S : Type 0} {manner : Manner S} {old new : S} {before after : List Step}
    (way : Way) (steps : ℕ) (met : List Bytes) (x : Bytes) (left found : List Bytes) (value : Answer) (to : Asking (List Bytes)) →
    Goes manner (ask (way.node x)) (gives value) old before new after → answered way steps met x left found value ≡ to →
    Goes manner (walk way (suc steps) met (x ∷ left) found) to old before new after
one_more {manner = manner} {old = old} {new = new} {before = before} {after = after} way steps met x left found value to goes is =
    subst (λ q. Goes manner (walk way (suc steps) met (x ∷ left) found) q old before new after) is
    (goes_within (answered way steps met x left found) goes)

pub one_stops : {S : Type 0} {manner : Manner S} {old new : S} {before after : List Step} {halt : Halt}
    (way : Way) (steps : ℕ) (met : List Bytes) (x : Bytes) (left found : List Bytes) →
    Stops manner (ask (way.node x)) halt old before new after → Stops manner (walk way (suc steps) met (x ∷ left) found) halt old before new after
one_stops way steps met x left found stopped = stops_within (answered way steps met x left found) stopped

-- to nothing, to too many, and to names of which there are not too many
pub to_nothing : (way : Way) (steps : ℕ) (met : List Bytes) (x : Bytes) (left found : List Bytes) (value : Answer) → way.onward value ≡ None →
    answered way steps met x left found value ≡ walk way steps met left found
to_nothing way steps met x left found value none = ap (led_on way steps met x left found) none

pub too_many : (way : Way) (steps : ℕ) (met : List Bytes) (x : Bytes) (left found : List Bytes) (value : Answer) (xs : List Bytes) →
    way.onward value ≡ Some xs →
    nat_lt most_names (length (met ++ fresh met xs)) ≡ true → answered way steps met x left found value ≡ mixes (way.node x)
too_many way steps met x left found value xs some many =
    ap (led_on way steps met x left found) some
    ∙ cond-true (nat_lt most_names (length (met ++ fresh met xs))) (mixes (way.node x)) (walk way steps (met ++ fresh met xs) (left ++ fresh met xs)
    (with_name x found)) many

pub to_names : (way : Way) (steps : ℕ) (met : List Bytes) (x : Bytes) (left found : List Bytes) (value : Answer) (xs : List Bytes) →
    way.onward value ≡ Some xs →
    nat_lt most_names (length (met ++ fresh met xs)) ≡ false →
    answered way steps met x left found value ≡ walk way steps (met ++ fresh met xs) (left ++ fresh met xs) (with_name x found)
to_names way steps met x left found value xs some few =
    ap (led_on way steps met x left found) some
    ∙ cond-false (nat_lt most_names (length (met ++ fresh met xs))) (mixes (way.node x)) (walk way steps (met ++ fresh met xs) (left ++ fresh met xs)
    (with_name x found)) few

-- at a place of what was met
pub goes_at : {S : Type 0} {manner : Manner S} {old new : S} {before after : List Step}
    (way : Way) (steps : ℕ) (met : List Bytes) (place : ℕ) (x : Bytes) (found : List Bytes) (value : Answer) (to : Asking (List Bytes)) →
    place < length met →
    x ≡ get_or met place x → Goes manner (ask (way.node x)) (gives value) old before new after →
    answered way steps met x (drop (place + 1) met) found value ≡ to → Goes manner (walk way (suc steps) met (drop place met) found) to old before new after
goes_at {manner = manner} {old = old} {new = new} {before = before} {after = after} way steps met place x found value to within is goes e =
    subst (λ left. Goes manner (walk way (suc steps) met left found) to old before new after) (sym (left_at met place x within is))
    (one_more way steps met x (drop (place + 1) met) found value to goes e)

pub stops_at : {S : Type 0} {manner : Manner S} {old new : S} {before after : List Step} {halt : Halt}
    (way : Way) (steps : ℕ) (met : List Bytes) (place : ℕ) (x : Bytes) (found : List Bytes) → place < length met → x ≡ get_or met place x →
    Stops manner (ask (way.node x)) halt old before new after →
    Stops manner (walk way (suc steps) met (drop place met) found) halt old before new after
stops_at {manner = manner} {old = old} {new = new} {before = before} {after = after} {halt = halt} way steps met place x found within is stopped =
    subst (λ left. Stops manner (walk way (suc steps) met left found) halt old before new after) (sym (left_at met place x within is))
    (one_stops way steps met x (drop (place + 1) met) found stopped)

-- a step that meets names, as the code keeps what was met and the place in it
pub meets : {S : Type 0} {manner : Manner S} {old new : S} {before after : List Step}
    (way : Way) (steps : ℕ) (met : List Bytes) (place : ℕ) (x : Bytes) (found : List Bytes) (value : Answer) (xs now found' : List Bytes) →
    place < length met →
    x ≡ get_or met place x → Goes manner (ask (way.node x)) (gives value) old before new after → way.onward value ≡ Some xs →
    now ≡ met ++ fresh met xs → length now ≤ MOST_NAMES → found' ≡ with_name x found →
    Goes manner (walk way (suc steps) met (drop place met) found) (walk way steps now (drop (place + 1) now) found') old before new after
meets {manner = manner} {old = old} {new = new} {before = before} {after = after} way steps met place x found value xs now found' within is goes some
    grown few put =
    let new_ones : List Bytes = fresh met xs in
    let rest : drop (place + 1) now ≡ drop (place + 1) met ++ new_ones =
    ap (drop (place + 1)) grown ∙ drop-append-le (place + 1) met new_ones (omega (arith, within)) in
    let few' : nat_lt most_names (length (met ++ new_ones)) ≡ false = ap (λ ms. nat_lt most_names (length ms)) (sym grown) ∙
    no_more_than_most (length now) few in
    let to : walk way steps (met ++ new_ones) (drop (place + 1) met ++ new_ones) (with_name x found) ≡ walk way steps now (drop (place + 1) now) found' =
    ap (λ ms. walk way steps ms (drop (place + 1) met ++ new_ones) (with_name x found)) (sym grown)
    ∙ ap (λ ls. walk way steps now ls (with_name x found)) (sym rest) ∙ ap (walk way steps now (drop (place + 1) now)) (sym put) in
    goes_at way steps met place x found value (walk way steps now (drop (place + 1) now) found') within is goes
    (to_names way steps met x (drop (place + 1) met) found value xs some few' ∙ to)

-- a step that meets too many
pub meets_too_many : {S : Type 0} {manner : Manner S} {old new : S} {before after : List Step}
    (way : Way) (steps : ℕ) (met : List Bytes) (place : ℕ) (x : Bytes) (found : List Bytes) (value : Answer) (xs now : List Bytes) (node : NodeId) →
    place < length met →
    x ≡ get_or met place x → Goes manner (ask (way.node x)) (gives value) old before new after → way.onward value ≡ Some xs →
    now ≡ met ++ fresh met xs → MOST_NAMES < length now → node ≡ way.node x →
    Stops manner (walk way (suc steps) met (drop place met) found) (h.Mixed node) old before new after
meets_too_many {manner = manner} {old = old} {new = new} {before = before} {after = after}
    way steps met place x found value xs now node within is goes some grown more same =
    let many : nat_lt most_names (length (met ++ fresh met xs)) ≡ true = ap (λ ms. nat_lt most_names (length ms)) (sym grown) ∙
    more_than_most (length now) more in
    let stopped : Stops manner (walk way (suc steps) met (drop place met) found) (h.Mixed (way.node x)) old before new after =
    gives_up (goes_at way steps met place x found value (mixes (way.node x)) within is goes (too_many way steps met x (drop (place + 1) met) found value
    xs some many)) in
    subst (λ n. Stops manner (walk way (suc steps) met (drop place met) found) (h.Mixed n) old before new after) (sym same) stopped

-- where a walk begins
pub walk_begins : {S : Type 0} (manner : Manner S) (state : S) (trace : List Step) (way : Way) (x : Bytes) (met found : List Bytes) →
    met ≡ x ∷ [] → found ≡ [] → Goes manner (walk_from way x) (walk way (most_names - 0) met met found) state trace state trace
walk_begins manner state trace way x met found one none =
    let same : walk_from way x ≡ walk way (most_names - 0) met met found =
    ap (λ n. walk way n (x ∷ []) (x ∷ []) []) (let e : most_names ≡ most_names - 0 = omega arith in e)
    ∙ ap (λ ms. walk way (most_names - 0) ms ms []) (sym one) ∙ ap (walk way (most_names - 0) met met) (sym none) in
    subst (λ q. Goes manner (walk_from way x) q state trace state trace) same (idle manner state trace (walk_from way x))

-- one step fewer is left at the next place
pub one_fewer : (place n : ℕ) → place < n → n ≤ most_names → most_names - place ≡ suc (most_names - (place + 1))
one_fewer place n within few = omega arith

-- and where nothing is left it has come to its value
pub walk_ends : {S : Type 0} {manner : Manner S} {old new : S} {before after : List Step} (way : Way) (x : Bytes) (steps place : ℕ)
    (met found : List Bytes) → length met ≤ place → Goes manner (walk_from way x) (walk way steps met (drop place met) found) old before new after →
    Goes manner (walk_from way x) (gives found) old before new after
walk_ends {manner = manner} {old = old} {new = new} {before = before} {after = after} way x steps place met found past goes =
    subst (λ left. Goes manner (walk_from way x) (walk way steps met left found) old before new after) (drop_of_length-le met past) goes

-- where a cone goes on from the answer how the name stands
abbrev pub coned : Bytes → Answer → Asking (List Bytes)
coned x answer = if is_plain answer then walk_from downward x else gives []

pub is_there_plain : {S : Type 0} {manner : Manner S} {old new : S} {before after : List Step} (x : Bytes) (value : Answer) →
    Goes manner (ask (n.Fact (f.There x))) (gives value) old before new after → is_plain value ≡ true →
    Goes manner (cone_row x) (walk_from downward x) old before new after
is_there_plain {manner = manner} {old = old} {new = new} {before = before} {after = after} x value goes plain =
    subst (λ q. Goes manner (cone_row x) q old before new after) (cond-true (is_plain value) (walk_from downward x) (gives []) plain)
    (goes_within (coned x) goes)

pub is_not_plain : {S : Type 0} {manner : Manner S} {old new : S} {before after : List Step} (x : Bytes) (value : Answer) (names : List Bytes) →
    Goes manner (ask (n.Fact (f.There x))) (gives value) old before new after → is_plain value ≡ false → names ≡ [] →
    Goes manner (cone_row x) (gives names) old before new after
is_not_plain {manner = manner} {old = old} {new = new} {before = before} {after = after} x value names goes plain none =
    subst (λ q. Goes manner (cone_row x) q old before new after)
    (cond-false (is_plain value) (walk_from downward x) (gives []) plain ∙ ap gives (sym none)) (goes_within (coned x) goes)

pub cone_stops : {S : Type 0} {manner : Manner S} {old new : S} {before after : List Step} {halt : Halt} (x : Bytes) →
    Stops manner (ask (n.Fact (f.There x))) halt old before new after → Stops manner (cone_row x) halt old before new after
cone_stops x stopped = stops_within (coned x) stopped

-- what follows a part that went on
pub then_follows : {S A : Type 0} {manner : Manner S} {old now : S} (new : S) {before middle : List Step}
    (after : List Step) {whole part : Asking A} (result : Result A Halt) → Goes manner whole part old before now middle →
    Follows manner part result now middle new after → Follows manner whole result old before new after
then_follows new after (Ok value) goes follows = goes_on goes follows
then_follows new after (Err halt) goes follows = stops goes follows
