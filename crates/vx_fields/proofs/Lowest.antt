-- The first key among those that are left that has all others above it.
use Rattle.std.proofs.Common.{◌≡◌, ◌∙◌, ◌+◌, ◌<◌, List, ℕ, Some, Bool, true, false, ap, drop, get_or, length}
use Rattle.std.specs.List.{list_all}
use Rattle.std.proofs.lemmas.Bool.{cond-true, cond-false}
use Rattle.vx_names.specs.declared.key.FieldKey.{FieldKey}
use Rattle.vx_syntax.specs.Expressions.{Bytes}
use Rattle.vx_program.specs.Program.{is_name_of}
use Rattle.vx_lists.proofs.Rests.{left_at}
use Rattle.vx_answers.specs.FieldRows.{lowest}

abbrev has_all : List FieldKey → List Bytes → Bool
has_all keys names = list_all (λ key. is_name_of names key.specialiser) keys

pub it_is : (keys : List FieldKey) (all : List (FieldKey × List Bytes)) (place : ℕ) (one : FieldKey × List Bytes) → place < length all →
    one ≡ get_or all place one → has_all keys one.1 ≡ true → lowest keys (drop place all) ≡ Some one.0
it_is keys all place one within is has =
    ap (lowest keys) (left_at all place one within is) ∙ cond-true (has_all keys one.1) (Some one.0) (lowest keys (drop (place + 1) all)) has

pub it_is_behind : (keys : List FieldKey) (all : List (FieldKey × List Bytes)) (place : ℕ) (one : FieldKey × List Bytes) → place < length all →
    one ≡ get_or all place one → has_all keys one.1 ≡ false → lowest keys (drop place all) ≡ lowest keys (drop (place + 1) all)
it_is_behind keys all place one within is has =
    ap (lowest keys) (left_at all place one within is) ∙ cond-false (has_all keys one.1) (Some one.0) (lowest keys (drop (place + 1) all)) has
