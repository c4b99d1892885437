-- What is asked for a test never gives up, whatever is answered.
use Rattle.std.proofs.Common.{List, Option, Some, None, [], ◌∷◌, ℕ, zero, suc}
use Rattle.vx_syntax.specs.declared.test.Test.{Test}
use Rattle.vx_syntax.specs.Expressions.{Bytes}
use Rattle.vx_node.specs.declared.answer.Answer.{Answer}
use Rattle.vx_node.specs.declared.node.Filter.TheVariants as filters
use Rattle.vx_node.specs.Asking.{Asking, gives, mixes, asks, followed, each}
use Rattle.vx_compilation.specs.Readings.{ask_field}
use Rattle.vx_units.specs.TestUnit.{all_tested}
use Rattle.vx_answers.specs.OrderRows.{most_names}
use Rattle.vx_answers.specs.SendRows.{beside}
use Rattle.vx_answers.specs.TestRows.{OwnTest, Onwards, predicate_in, ask_stood, above_asked, above_after, in_all, with_fields, tests_of, test_among, test_row}

abbrev pub NeverMixes : {A : Type 0} → Asking A → Type 0
NeverMixes (gives value) = Unit {0}
NeverMixes (mixes at) = ⊥
NeverMixes (asks at next) = (answer : Answer) → NeverMixes (next answer)

followed_never : {A B : Type 0} (q : Asking A) (go : A → Asking B) → NeverMixes q → ((value : A) → NeverMixes (go value)) → NeverMixes (followed q go)
followed_never (gives value) go never more = more value
followed_never (mixes at) go never more = absurd never
followed_never (asks at next) go never more = λ answer. followed_never (next answer) go (never answer) more

each_never : {X A B : Type 0} (question : X → Asking A) (xs : List X) (go : List A → Asking B) → ((x : X) → NeverMixes (question x)) →
    ((values : List A) → NeverMixes (go values)) → NeverMixes (each question xs go)
each_never question [] go never more = more []
each_never question (x ∷ xs) go never more =
    followed_never (question x) (λ value. each question xs (λ values. go (value ∷ values))) (never x)
    (λ value. each_never question xs (λ values. go (value ∷ values)) never (λ values. more (value ∷ values)))

after_never : (go : Onwards) → ((met left plain : List Bytes) (found : List OwnTest) → NeverMixes (go met left plain found)) →
    (met : List Bytes) (x : Bytes) (left plain : List Bytes) (found : List OwnTest) (own : Option (List Bytes × Test)) →
    NeverMixes (above_after go met x left plain found own)
after_never go further met x left plain found None = further met left plain found
after_never go further met x left plain found (Some own) = each_never ask_stood own.0 _ (λ y answer. tt) (λ stood. further _ _ _ _)

above_never : (steps : ℕ) (met left plain : List Bytes) (found : List OwnTest) → NeverMixes (above_asked steps met left plain found)
above_never steps met [] plain found = tt
above_never zero met (x ∷ left) plain found = tt
above_never (suc steps) met (x ∷ left) plain found =
    λ answer. after_never (above_asked steps) (above_never steps) met x left plain found (predicate_in answer)

fields_never : (names : List Bytes) (class : Bytes) → NeverMixes (with_fields names class)
fields_never names class = each_never (λ name. ask_field class name gives) names (λ fields. gives (class, fields)) (λ name answer. tt) (λ fields. tt)

among_never : (plain : List Bytes) (tests : List OwnTest) → NeverMixes (test_among (record { plain = plain; tests = tests }))
among_never plain [] = tt
among_never plain (own ∷ rest) =
    each_never (beside filters.Cone) plain _ (λ x answer. tt) (λ cones.
    each_never _ (in_all cones) _ (fields_never (all_tested (tests_of (own ∷ rest)) [])) (λ classes. tt))

pub test_never : (x : Bytes) → NeverMixes (test_row x)
test_never x =
    followed_never (above_asked most_names (x ∷ []) (x ∷ []) [] []) test_among (above_never most_names (x ∷ []) (x ∷ []) [] [])
    (λ found. among_never found.plain found.tests)
