-- What is asked for bindings, inlining, clones and tables has lower ranks.
use Rattle.std.proofs.Common.{ℕ, zero, suc, true, false, List, [], ◌∷◌, length, Option, Some, None, arith, ◌<◌}
use Rattle.std.specs.Prelude.{nat_le, ◌&&◌}
use Rattle.std.specs.List.{list_any}
use Rattle.std.specs.Str.{bytes_eq}
use Rattle.vx_names.specs.declared.key.Selector.{Selector}
use Rattle.vx_names.specs.declared.key.MethodKey.{MethodKey}
use Rattle.vx_syntax.specs.declared.test.Test.{Test}
use Rattle.vx_syntax.specs.Expressions.{Bytes}
use Rattle.vx_syntax.specs.Declarations.{any}
use Rattle.vx_node.specs.declared.node.NodeId.TheVariants as node
use Rattle.vx_node.specs.declared.node.Fact.TheVariants as fact
use Rattle.vx_node.specs.declared.node.Filter.TheVariants as filters
use Rattle.vx_node.specs.declared.node.Info.{Info}
use Rattle.vx_node.specs.declared.kind.Kind.{Kind}
use Rattle.vx_node.specs.Asking.{gives}
use Rattle.vx_model.specs.Kinds.{Source}
use Rattle.vx_compilation.specs.Readings.{heads_in, source_in, base_in, bound_in}
use Rattle.vx_compilation.specs.Cloning.{Sending, sends_of, is_name, is_one, is_open}
use Rattle.vx_answers.specs.SendRows.{about, beside, specialisers_of, specialisers_asked, info_objects, cones_asked, bind_among, bind_row}
use Rattle.vx_answers.specs.SendRows.{inline_row, all_one, decided, is_base, positions, clones_by, clones_row, names_in}
use Rattle.vx_units.specs.TestUnit.{all_tested}
use Rattle.vx_answers.specs.OrderRows.{most_names}
use Rattle.vx_answers.specs.UnitRows.{with_cone, source_heads, with_clones, table_among, table_row}
use Rattle.vx_answers.specs.TestRows.{OwnTest, Onwards, predicate_in, ask_stood, above_asked, above_after, in_all, with_fields, tests_of, test_among, test_row}
use Rattle.vx_answers.proofs.Below.{AsksBelow, given, low, followed_below, each_below, either_below}

about_below : (r : ℕ) → 1 < r → (x : Bytes) → AsksBelow r (about x)
about_below r more x = low (node.Filter (filters.Base x)) _ more (λ base. low (node.Filter (filters.Up x)) _ more (λ up. given _))

ups_below : (x : Bytes) → AsksBelow 2 (beside filters.Up x)
ups_below x = low (node.Filter (filters.Up x)) _ (omega arith) (λ answer. given _)

cones_below : (x : Bytes) → AsksBelow 2 (beside filters.Cone x)
cones_below x = low (node.Filter (filters.Cone x)) _ (omega arith) (λ answer. given _)

among_below : (heads : List (MethodKey × Kind)) (infos : List Info) (below : Option MethodKey) → AsksBelow 2 (bind_among heads infos below)
among_below heads infos below =
    each_below 2 about (specialisers_asked (specialisers_of heads below)) _ (about_below 2 (omega arith)) (λ abouts.
    each_below 2 (beside filters.Up) (info_objects infos) _ ups_below (λ ups.
    each_below 2 (beside filters.Cone) (cones_asked abouts (specialisers_of heads below) 0 infos) _ cones_below (λ cones. given _)))

pub bind_below : (selector : Selector) (infos : List Info) (below : Option MethodKey) → AsksBelow 2 (bind_row selector infos below)
bind_below selector infos below = low _ _ (omega arith) (λ answer. among_below (heads_in answer) infos below)

pub inline_below : (key : MethodKey) → AsksBelow 1 (inline_row key)
inline_below key = low _ _ (omega arith) (λ answer. given _)

-- ---- clones

all_below : (name : Bytes) (sending : Sending) (classes : List Bytes) → AsksBelow 3 (all_one name sending classes)
all_below name sending [] = given true
all_below name sending (class ∷ classes) =
    low _ _ (omega arith) (λ answer. either_below 3 (is_one (bound_in answer)) _ _ (all_below name sending classes) (given false))

decided_below : (formal : Option Bytes) (x : Bytes) (classes : List Bytes) (sendings : List Sending) → AsksBelow 3 (decided formal x classes sendings)
decided_below None x classes sendings = given false
decided_below (Some name) x classes [] = given false
decided_below (Some name) x classes (sending ∷ sendings) =
    either_below 3 (list_any (is_name name) sending.1) _ _
    (low _ _ (omega arith) (λ answer.
    either_below 3 (is_open (bound_in answer)) _ _
    (followed_below 3 (all_one name sending classes) _ (all_below name sending classes) (λ all.
    either_below 3 all _ _ (given true) (decided_below (Some name) x classes sendings)))
    (decided_below (Some name) x classes sendings)))
    (decided_below (Some name) x classes sendings)

positions_below : (place : ℕ) (formals : List (Option Bytes)) (xs : List Bytes) (sendings : List Sending) → AsksBelow 3 (positions place formals xs sendings)
positions_below place [] xs sendings = given None
positions_below place (formal ∷ formals) [] sendings = given None
positions_below place (formal ∷ formals) (x ∷ xs) sendings =
    either_below 3 (bytes_eq x any) _ _ (positions_below (suc place) formals xs sendings)
    (low _ _ (omega arith) (λ base.
    either_below 3 (is_base x (base_in base)) _ _
    (low (node.Filter (filters.Cone x)) _ (omega arith) (λ answer.
    either_below 3 (nat_le 2 (length (names_in answer)) && nat_le (length (names_in answer)) 4) _ _
    (followed_below 3 (decided formal x (names_in answer) sendings) _ (decided_below formal x (names_in answer) sendings) (λ all.
    either_below 3 all _ _ (given _) (positions_below (suc place) formals xs sendings)))
    (positions_below (suc place) formals xs sendings)))
    (positions_below (suc place) formals xs sendings)))

clones_by_below : (key : MethodKey) (o : Option Source) → AsksBelow 3 (clones_by key o)
clones_by_below key None = given None
clones_by_below key (Some own) = positions_below 0 own.formals key.specialisers (sends_of own.body.0)

pub clones_below : (key : MethodKey) → AsksBelow 3 (clones_row key)
clones_below key = low _ _ (omega arith) (λ answer. clones_by_below key (source_in answer))

-- ---- tables

with_cone_below : (x : Bytes) → AsksBelow 4 (with_cone x)
with_cone_below x =
    followed_below 4 (about x) _ (about_below 4 (omega arith) x) (λ one.
    either_below 4 (is_base x one.base) _ _ (low (node.Filter (filters.Cone x)) (λ answer. gives (one, names_in answer)) (omega arith)
    (λ answer. given (one, names_in answer)))
    (given (one, [])))

with_clones_below : (key : MethodKey) → AsksBelow 4 (with_clones key)
with_clones_below key = low (node.Filter (filters.Clones key)) _ (omega arith) (λ answer. given _)

table_among_below : (selector : Selector) (heads : List (MethodKey × Kind)) → AsksBelow 4 (table_among selector heads)
table_among_below selector heads =
    each_below 4 with_cone (specialisers_asked (specialisers_of heads None)) _ with_cone_below (λ asked.
    each_below 4 with_clones (source_heads heads) _ with_clones_below (λ clones. given _))

pub table_below : (selector : Selector) → AsksBelow 4 (table_row selector)
table_below selector = low _ _ (omega arith) (λ answer. table_among_below selector (heads_in answer))

-- ---- tests

after_below : (go : Onwards) → ((met left plain : List Bytes) (found : List OwnTest) → AsksBelow 4 (go met left plain found)) →
    (met : List Bytes) (x : Bytes) (left plain : List Bytes) (found : List OwnTest) (own : Option (List Bytes × Test)) →
    AsksBelow 4 (above_after go met x left plain found own)
after_below go further met x left plain found None = further met left plain found
after_below go further met x left plain found (Some own) =
    each_below 4 ask_stood own.0 _ (λ y. low (node.Fact (fact.There y)) _ (omega arith) (λ answer. given _)) (λ stood. further _ _ _ _)

above_below : (steps : ℕ) (met left plain : List Bytes) (found : List OwnTest) → AsksBelow 4 (above_asked steps met left plain found)
above_below steps met [] plain found = given _
above_below zero met (x ∷ left) plain found = given _
above_below (suc steps) met (x ∷ left) plain found =
    low (node.Fact (fact.Decl x)) _ (omega arith) (λ answer.
    after_below (above_asked steps) (above_below steps) met x left plain found (predicate_in answer))

fields_below : (names : List Bytes) (class : Bytes) → AsksBelow 4 (with_fields names class)
fields_below names class =
    each_below 4 _ names _ (λ name. low (node.Filter (filters.Field class name)) _ (omega arith) (λ answer. given _)) (λ fields. given _)

among_tested_below : (plain : List Bytes) (tests : List OwnTest) → AsksBelow 4 (test_among (record { plain = plain; tests = tests }))
among_tested_below plain [] = given []
among_tested_below plain (own ∷ rest) =
    each_below 4 (beside filters.Cone) plain _ (λ x. low (node.Filter (filters.Cone x)) _ (omega arith) (λ answer. given _)) (λ cones.
    each_below 4 _ (in_all cones) _ (fields_below (all_tested (tests_of (own ∷ rest)) [])) (λ classes. given _))

pub test_below : (x : Bytes) → AsksBelow 4 (test_row x)
test_below x =
    followed_below 4 (above_asked most_names (x ∷ []) (x ∷ []) [] []) test_among (above_below most_names (x ∷ []) (x ∷ []) [] []) (λ found.
    among_tested_below found.plain found.tests)
