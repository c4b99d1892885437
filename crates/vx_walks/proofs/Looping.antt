-- Loops over a list of questions, each of which may stop, as `each` asks them.
use Rattle.std.proofs.Common.{List, [], ap, sym, subst, drop, length, get_or, ◌∷◌, ◌++◌, ◌≡◌, ◌∙◌, ◌+◌, ◌<◌, ◌≤◌, ℕ, append_assoc, append-nil}
use Rattle.std.proofs.Common.{drop_of_length-le}
use Rattle.std.proofs.Math.Path.{fun_ext}
use Rattle.vx_lists.proofs.Rests.{left_at}
use Rattle.vx_node.specs.declared.trace.Step.{Step}
use Rattle.vx_node.specs.declared.asker.Halt.{Halt}
use Rattle.vx_node.specs.Asking.{Asking, gives, each}
use Rattle.vx_node.specs.Askers.{Manner, Goes, Stops}
use Rattle.vx_node.proofs.Leaving.{idle, goes_on, stops, goes_within, stops_within}

-- what is left to ask, behind the values of what was asked
abbrev pub left_of : {X V B : Type 0} → (X → Asking V) → (List V → Asking B) → List X → List V → Asking B
left_of question go xs values = each question xs (λ rest. go (values ++ rest))

-- and behind one more
abbrev one_more : {X V B : Type 0} → (X → Asking V) → (List V → Asking B) → List X → List V → V → Asking B
one_more question go xs values value = each question xs (λ rest. go (values ++ value ∷ rest))

pushed : {X V B : Type 0} (question : X → Asking V) (go : List V → Asking B) (xs : List X) (values grown : List V) (value : V) →
    grown ≡ values ++ value ∷ [] → one_more question go xs values value ≡ left_of question go xs grown
pushed question go xs values grown value is =
    ap (each question xs) (fun_ext (λ rest. ap go (sym (append_assoc values (value ∷ []) rest)))) ∙ ap (left_of question go xs) (sym is)

pub begins : {S X V B : Type 0} (manner : Manner S) (state : S) (steps : List Step) (question : X → Asking V) (go : List V → Asking B)
    (xs : List X) (values : List V) → values ≡ [] →
    Goes manner (each question xs go) (left_of question go (drop 0 xs) values) state steps state steps
begins manner state steps question go xs values none =
    subst (λ vs. Goes manner (each question xs go) (left_of question go xs vs) state steps state steps) (sym none)
    (idle manner state steps (each question xs go))

pub turns : {S X V B : Type 0} {manner : Manner S} {old now new : S} {before middle after : List Step} {whole : Asking B}
    (question : X → Asking V) (go : List V → Asking B) (xs : List X) (place : ℕ) (x : X) (values : List V) (value : V) (grown : List V) →
    place < length xs → x ≡ get_or xs place x → grown ≡ values ++ value ∷ [] →
    Goes manner whole (left_of question go (drop place xs) values) old before now middle →
    Goes manner (question x) (gives value) now middle new after →
    Goes manner whole (left_of question go (drop (place + 1) xs) grown) old before new after
turns {manner = manner} {old = old} {now = now} {new = new} {before = before} {middle = middle} {after = after} {whole = whole}
    question go xs place x values value grown within is more so_far one =
    let rest = drop (place + 1) xs in
    subst (λ q. Goes manner whole q old before new after) (pushed question go rest values grown value more)
    (goes_on (subst (λ ls. Goes manner whole (left_of question go ls values) old before now middle) (left_at xs place x within is) so_far)
    (goes_within (one_more question go rest values) one))

pub turn_stops : {S X V B : Type 0} {manner : Manner S} {old now new : S} {before middle after : List Step} {whole : Asking B} {halt : Halt}
    (question : X → Asking V) (go : List V → Asking B) (xs : List X) (place : ℕ) (x : X) (values : List V) →
    place < length xs → x ≡ get_or xs place x →
    Goes manner whole (left_of question go (drop place xs) values) old before now middle →
    Stops manner (question x) halt now middle new after → Stops manner whole halt old before new after
turn_stops {manner = manner} {old = old} {now = now} {before = before} {middle = middle} {whole = whole}
    question go xs place x values within is so_far stopped =
    stops (subst (λ ls. Goes manner whole (left_of question go ls values) old before now middle) (left_at xs place x within is) so_far)
    (stops_within (one_more question go (drop (place + 1) xs) values) stopped)

pub ends : {S X V B : Type 0} {manner : Manner S} {old new : S} {before after : List Step} {whole : Asking B}
    (question : X → Asking V) (go : List V → Asking B) (xs : List X) (place : ℕ) (values : List V) → length xs ≤ place →
    Goes manner whole (left_of question go (drop place xs) values) old before new after → Goes manner whole (go values) old before new after
ends {manner = manner} {old = old} {new = new} {before = before} {after = after} {whole = whole} question go xs place values past goes =
    subst (λ vs. Goes manner whole (go vs) old before new after) (append-nil values)
    (subst (λ ls. Goes manner whole (left_of question go ls values) old before new after) (drop_of_length-le xs past) goes)

-- a loop over what is to be asked, which the code has in a list of its own
pub goes_as : {S X V B : Type 0} {manner : Manner S} {old now new : S} {before middle after : List Step} {whole : Asking B}
    (question : X → Asking V) (go : List V → Asking B) (names wanted : List X) (values : List V) → names ≡ wanted →
    Goes manner whole (each question wanted go) old before now middle → Goes manner (each question names go) (go values) now middle new after →
    Goes manner whole (go values) old before new after
goes_as {manner = manner} {now = now} {new = new} {middle = middle} {after = after} question go names wanted values is so_far goes =
    goes_on so_far (subst (λ xs. Goes manner (each question xs go) (go values) now middle new after) is goes)

pub stops_as : {S X V B : Type 0} {manner : Manner S} {old now new : S} {before middle after : List Step} {whole : Asking B} {halt : Halt}
    (question : X → Asking V) (go : List V → Asking B) (names wanted : List X) → names ≡ wanted →
    Goes manner whole (each question wanted go) old before now middle → Stops manner (each question names go) halt now middle new after →
    Stops manner whole halt old before new after
stops_as {manner = manner} {now = now} {new = new} {middle = middle} {after = after} {halt = halt} question go names wanted is so_far stopped =
    stops so_far (subst (λ xs. Stops manner (each question xs go) halt now middle new after) is stopped)
