-- The canonical texts of tests and declarations are cut into their tokens.
use Rattle.std.proofs.Common.{◌≡◌, ℕ, ℤ, Bool, true, false, if◌then◌else◌, List, [], ◌∷◌, ◌++◌, length, map, codes, Option, Some, None, refl, sym, ap, subst, ◌∙◌}
use Rattle.std.specs.List.{AllByRecursion, zip}
use Rattle.std.specs.Str.{bytes_eq}
use Rattle.vx_names.specs.declared.operator.Operator.{Operator}
use Rattle.vx_names.specs.declared.key.FieldKey.{FieldKey}
use Rattle.vx_names.specs.declared.key.MethodKey.{MethodKey}
use Rattle.vx_names.specs.Operator.{spelling, operator_of}
use Rattle.vx_syntax.specs.declared.token.Token.TheVariants as k
use Rattle.vx_syntax.specs.declared.token.Keyword.TheVariants as w
use Rattle.vx_syntax.specs.declared.token.Mark.TheVariants as m
use Rattle.vx_syntax.specs.declared.test.Compare.{Compare}
use Rattle.vx_syntax.specs.declared.test.Compare.TheVariants as c
use Rattle.vx_syntax.specs.declared.test.Test.{Test, end_of-Test, more_of-Test}
use Rattle.vx_syntax.specs.declared.test.Test.TheFolds.{fold-roll-Test}
use Rattle.vx_syntax.specs.declared.test.Test.TheOpen.{Test-F}
use Rattle.vx_syntax.specs.declared.test.Test.TheVariants as q
use Rattle.vx_syntax.specs.declared.decl.Start.{Start}
use Rattle.vx_syntax.specs.declared.decl.Start.TheVariants as s
use Rattle.vx_syntax.specs.declared.decl.Decl.{Decl}
use Rattle.vx_syntax.specs.declared.decl.Decl.TheVariants as d
use Rattle.vx_syntax.specs.Expressions.{Bytes, Scope}
use Rattle.vx_syntax.specs.Tests.{and_word, or_word, not_word}
use Rattle.vx_syntax.specs.Declarations.{any, true_word, false_word, add_word, formal_scope}
use Rattle.vx_syntax.specs.Words.{keyword, IsWord}
use Rattle.vx_syntax.specs.Print.{joined, listed, compare_text, test_text, test_text_step, is_plain, parents_text, start_text, formal_text, specialiser_text, field_key_text, head_text, decl_text}
use Rattle.vx_syntax.specs.PrintedTokens.{printed_names, compares_by, printed_test, printed_parents, printed_start, message, printed_formal, printed_more_formals, printed_method_formals, printed_decl}
use Rattle.vx_syntax.specs.Written.{IsTestWritten, IsSent, AreNames, IsStartWritten, AreFormalsWritten, IsDeclWritten}
use Rattle.vx_syntax.proofs.Views.{and_is, or_is, not_is}
use Rattle.vx_reader.specs.Tokens.{front, tokens}
use Rattle.vx_reader.proofs.Cuts.{Ends, Any, Cuts, behind, then_any, whatever, by_text, nothing, tokens_cut}
use Rattle.vx_reader.proofs.CutSigns.{blank, open_bracket, close_bracket, at_sign, EndsOperator, operator_cut}
use Rattle.vx_reader.proofs.CutWords.{identifier_cut, word_cut, literal_cut}
use Rattle.vx_reader.proofs.CutStrings.{string_cut}
use Rattle.vx_reader.proofs.CutTrees.{joined_ends, comma_blank, close_blank, becomes_blank, var_blank, names_cut, method_body_cut}

-- tests
compared : (how : Compare) → compare_text how ≡ spelling (compares_by how)
compared c.Less = refl
compared c.AtMost = refl
compared c.More = refl
compared c.AtLeast = refl
compared c.Equal = refl

-- the texts of tests, from those of their parts
text_of_compare : (field : Bytes) (how : Compare) (n : ℤ) → test_text (q.Compare field how n) ≡ test_text_step (Test-F.Compare field how n)
text_of_compare field how n = ap test_text (sym (q.rolls-Compare field how n)) ∙ fold-roll-Test (Bool → Bytes) test_text_step (Test-F.Compare field how n)

text_of_and : (s : _) (a : Test) (s' : _) (b : Test) →
    test_text (q.And' s (more_of-Test a end_of-Test) s' (more_of-Test b end_of-Test)) ≡ test_text_step (Test-F.And (test_text a) (test_text b))
text_of_and s a s' b =
    sym (ap test_text (and_is s a s' b)) ∙ ap test_text (sym (q.rolls-And a b)) ∙ fold-roll-Test (Bool → Bytes) test_text_step (Test-F.And a b)

text_of_or : (s : _) (a : Test) (s' : _) (b : Test) →
    test_text (q.Or' s (more_of-Test a end_of-Test) s' (more_of-Test b end_of-Test)) ≡ test_text_step (Test-F.Or (test_text a) (test_text b))
text_of_or s a s' b =
    sym (ap test_text (or_is s a s' b)) ∙ ap test_text (sym (q.rolls-Or a b)) ∙ fold-roll-Test (Bool → Bytes) test_text_step (Test-F.Or a b)

text_of_not : (s : _) (a : Test) → test_text (q.Not' s (more_of-Test a end_of-Test)) ≡ test_text_step (Test-F.Not (test_text a))
text_of_not s a = sym (ap test_text (not_is s a)) ∙ ap test_text (sym (q.rolls-Not a)) ∙ fold-roll-Test (Bool → Bytes) test_text_step (Test-F.Not a)

blank_and : Cuts Any (codes " and ") (λ us. k.Word and_word ∷ us)
unfolding front keyword
blank_and = record { same = λ rest any. refl }

blank_or : Cuts Any (codes " or ") (λ us. k.Word or_word ∷ us)
unfolding front keyword
blank_or = record { same = λ rest any. refl }

not_blank : Cuts Any (codes "not ") (λ us. k.Word not_word ∷ us)
unfolding front keyword
not_blank = record { same = λ rest any. refl }

compare_cut : (how : Compare) → Cuts EndsOperator (compare_text how) (λ us. k.Operator (compares_by how) ∷ us)
compare_cut how = subst (λ text. Cuts EndsOperator text (λ us. k.Operator (compares_by how) ∷ us)) (sym (compared how)) (operator_cut (compares_by how))

test_cut : (part : Bool) (a : Test) → IsTestWritten a → Cuts Ends (test_text a part) (printed_test part a)
test_cut part (q.Compare field how n) h =
    by_text (ap (λ text. text part) (text_of_compare field how n))
    (then_any (behind (then_any (behind (word_cut field h.0) blank (λ rest any. refl)) (compare_cut how)) blank (λ rest any. (refl, refl, refl))) (literal_cut n h.3))
test_cut part (q.And' s (more_of-Test a end_of-Test) s' (more_of-Test b end_of-Test)) h =
    by_text (ap (λ text. text part) (text_of_and s a s' b))
    (whatever (behind (then_any (behind (then_any open_bracket (test_cut true a h.0)) blank_and (λ rest any. refl)) (test_cut true b h.1)) close_bracket (λ rest any. refl)))
test_cut part (q.Or' s (more_of-Test a end_of-Test) s' (more_of-Test b end_of-Test)) h =
    by_text (ap (λ text. text part) (text_of_or s a s' b))
    (whatever (behind (then_any (behind (then_any open_bracket (test_cut true a h.0)) blank_or (λ rest any. refl)) (test_cut true b h.1)) close_bracket (λ rest any. refl)))
test_cut false (q.Not' s (more_of-Test a end_of-Test)) h = by_text (ap (λ text. text false) (text_of_not s a)) (then_any not_blank (test_cut false a h))
test_cut true (q.Not' s (more_of-Test a end_of-Test)) h =
    by_text (ap (λ text. text true) (text_of_not s a)) (whatever (then_any (then_any open_bracket not_blank) (behind (test_cut false a h) close_bracket (λ rest any. refl))))

-- the words and reserved words of declarations, with their blanks
blank_isa : Cuts Any (codes " isa ") (λ us. k.Keyword w.Isa ∷ us)
unfolding front keyword
blank_isa = record { same = λ rest any. refl }

blank_when : Cuts Any (codes " when ") (λ us. k.Keyword w.When ∷ us)
unfolding front keyword
blank_when = record { same = λ rest any. refl }

object_blank : Cuts Any (codes "object ") (λ us. k.Keyword w.Object ∷ us)
unfolding front keyword
object_blank = record { same = λ rest any. refl }

predicate_blank : Cuts Any (codes "predicate ") (λ us. k.Keyword w.Predicate ∷ us)
unfolding front keyword
predicate_blank = record { same = λ rest any. refl }

field_blank : Cuts Any (codes "field ") (λ us. k.Keyword w.Field ∷ us)
unfolding front keyword
field_blank = record { same = λ rest any. refl }

method_blank : Cuts Any (codes "method ") (λ us. k.Keyword w.Method ∷ us)
unfolding front keyword
method_blank = record { same = λ rest any. refl }

add_blank : Cuts Any (codes "add ") (λ us. k.Word add_word ∷ us)
unfolding front keyword
add_blank = record { same = λ rest any. refl }

true_cut : Cuts Ends (codes "true") (λ us. k.Word true_word ∷ us)
unfolding keyword
true_cut = identifier_cut true_word (k.Word true_word) (refl, (refl, (refl, (refl, tt)))) refl

false_cut : Cuts Ends (codes "false") (λ us. k.Word false_word ∷ us)
unfolding keyword
false_cut = identifier_cut false_word (k.Word false_word) (refl, (refl, (refl, (refl, (refl, tt))))) refl

-- parents
isa_cut : (x : Bytes) (xs : List Bytes) → IsWord x → AllByRecursion IsWord xs → Cuts Ends (parents_text (x ∷ xs)) (λ us. k.Keyword w.Isa ∷ printed_names (x ∷ xs) us)
isa_cut x xs first others = then_any blank_isa (names_cut x xs first others)

-- the parents of an object, by whether they are `any` alone
by_plain : (plain : Bool) (x : Bytes) → IsWord x → Cuts Ends (if plain then [] else parents_text (x ∷ [])) (λ us. if plain then us else k.Keyword w.Isa ∷ k.Word x ∷ us)
by_plain true x h = nothing
by_plain false x h = isa_cut x [] h tt

parents_cut : (parents : List Bytes) → AreNames parents → Cuts Ends (if is_plain parents then [] else parents_text parents) (printed_parents parents)
parents_cut [] h = absurd h
parents_cut (x ∷ []) h = by_plain (bytes_eq x any) x h.0
parents_cut (x ∷ y ∷ xs) h = isa_cut x (y ∷ xs) h.0 h.1

parents_end : (plain : Bool) (parents : List Bytes) (rest : List ℕ) → Ends rest → Ends ((if plain then [] else parents_text parents) ++ rest)
parents_end true parents rest ends = ends
parents_end false parents rest ends = refl

-- fields
start_cut : (start : Start) → IsStartWritten start → Cuts Ends (start_text start) (printed_start start)
start_cut s.Nil h = nothing
start_cut s.True h = then_any becomes_blank true_cut
start_cut s.False h = then_any becomes_blank false_cut
start_cut (s.Int n) h = then_any becomes_blank (literal_cut n h)
start_cut (s.Text bytes) h = then_any becomes_blank (whatever (string_cut bytes h))

-- `field f(@a)`
open_at : Cuts Any (codes "(@") (λ us. k.Mark m.Open ∷ k.Mark m.At ∷ us)
open_at = then_any open_bracket at_sign

field_key_cut : (key : FieldKey) → IsWord key.name → IsWord key.specialiser →
    Cuts Any (field_key_text key) (λ us. k.Keyword w.Field ∷ k.Word key.name ∷ k.Mark m.Open ∷ k.Mark m.At ∷ k.Word key.specialiser ∷ k.Mark m.Close ∷ us)
field_key_cut key name specialiser =
    behind (then_any (behind (then_any field_blank (word_cut key.name name)) open_at (λ rest any. refl)) (word_cut key.specialiser specialiser)) close_bracket (λ rest any. refl)

-- methods
specialiser_cut : (x : Bytes) → IsWord x → Cuts Ends (specialiser_text x) (λ us. k.Mark m.At ∷ k.Word x ∷ us)
specialiser_cut x h = then_any at_sign (word_cut x h)

-- a formal with a name, by whether its specialiser is `any`
by_any : (is_any : Bool) (x specialiser : Bytes) → IsWord x → IsWord specialiser →
    Cuts Ends (if is_any then x else x ++ specialiser_text specialiser) (λ us. k.Word x ∷ (if is_any then us else k.Mark m.At ∷ k.Word specialiser ∷ us))
by_any true x specialiser h g = word_cut x h
by_any false x specialiser h g = behind (word_cut x h) (specialiser_cut specialiser g) (λ rest ends. refl)

-- the first formal, and that the others are written in some scope
first_formal : (x : Option Bytes) (specialiser : Bytes) (xs : List (Option Bytes)) (specialisers : List Bytes) (scope : Scope) →
    AreFormalsWritten scope (x ∷ xs) (specialiser ∷ specialisers) →
    Cuts Ends (formal_text (x, specialiser)) (printed_formal x specialiser) × ((inner : Scope) × AreFormalsWritten inner xs specialisers)
first_formal (Some x) specialiser xs specialisers scope h = (by_any (bytes_eq specialiser any) x specialiser h.0 h.2, ((x, false) ∷ scope, h.3))
first_formal None specialiser xs specialisers scope h = (specialiser_cut specialiser h.0, (scope, h.1))

more_formals_cut : (xs : List (Option Bytes)) (specialisers : List Bytes) (scope : Scope) → AreFormalsWritten scope xs specialisers →
    Cuts Ends (joined (codes ", ") (codes ", ") (map formal_text (zip xs specialisers))) (printed_more_formals xs specialisers)
more_formals_cut [] specialisers scope h = nothing
more_formals_cut (x ∷ xs) [] scope h = nothing
more_formals_cut (x ∷ xs) (specialiser ∷ specialisers) scope h =
    let first = first_formal x specialiser xs specialisers scope h in
    then_any comma_blank (behind first.0 (more_formals_cut xs specialisers first.1.0 first.1.1)
    (λ more ends. joined_ends 44 (32 ∷ []) (map formal_text (zip xs specialisers)) more refl ends))

formals_cut : (xs : List (Option Bytes)) (specialisers : List Bytes) (scope : Scope) → AreFormalsWritten scope xs specialisers →
    Cuts Ends (listed (map formal_text (zip xs specialisers))) (printed_method_formals xs specialisers)
formals_cut [] specialisers scope h = nothing
formals_cut (x ∷ xs) [] scope h = nothing
formals_cut (x ∷ xs) (specialiser ∷ specialisers) scope h =
    let first = first_formal x specialiser xs specialisers scope h in
    behind first.0 (more_formals_cut xs specialisers first.1.0 first.1.1) (λ more ends. joined_ends 44 (32 ∷ []) (map formal_text (zip xs specialisers)) more refl ends)

-- the name of a message
message_cut : (o : Option Operator) (x : Bytes) (n : ℕ) → IsSent o x n → Cuts (λ rest. Ends rest × EndsOperator rest) x (λ us. message o x ∷ us)
message_cut None x n h = record { same = λ rest ends. (word_cut x h.0).same rest ends.0 }
message_cut (Some op) x n h =
    subst (λ y. Cuts (λ rest. Ends rest × EndsOperator rest) y (λ us. k.Operator op ∷ us)) h.0 (record { same = λ rest ends. (operator_cut op).same rest ends.1 })

head_cut : (key : MethodKey) (formals : List (Option Bytes)) (n : ℕ) → IsSent (operator_of key.selector.name) key.selector.name n → AreFormalsWritten [] formals key.specialisers →
    Cuts Any (head_text key formals)
    (λ us. k.Keyword w.Method ∷ message (operator_of key.selector.name) key.selector.name ∷ k.Mark m.Open ∷ printed_method_formals formals key.specialisers (k.Mark m.Close ∷ us))
head_cut key formals n sent h =
    behind (then_any (behind (then_any method_blank (message_cut (operator_of key.selector.name) key.selector.name n sent)) open_bracket (λ rest any. (refl, (refl, refl, refl))))
    (formals_cut formals key.specialisers [] h)) close_blank (λ rest any. refl)

decl_cut : (decl : Decl) → IsDeclWritten decl → Cuts Ends (decl_text decl) (printed_decl decl)
decl_cut (d.Object x parents) h =
    then_any object_blank (behind (word_cut x h.0) (parents_cut parents h.1) (λ rest ends. parents_end (is_plain parents) parents rest ends))
decl_cut (d.Predicate x [] test) h = absurd h.1
decl_cut (d.Predicate x (y ∷ ys) test) h =
    then_any (behind (behind (then_any predicate_blank (word_cut x h.0)) (isa_cut y ys h.1.0 h.1.1) (λ rest ends. refl)) blank_when (λ rest any. refl)) (test_cut false test h.2)
decl_cut (d.Field key start false) h = then_any (field_key_cut key h.0 h.2) (start_cut start h.3)
decl_cut (d.Field key start true) h = then_any var_blank (then_any (field_key_cut key h.0 h.2) (start_cut start h.3))
decl_cut (d.Method key formals body) h =
    then_any (head_cut key formals (length key.specialisers) h.0 h.2) (method_body_cut body.0 (formal_scope formals) h.3)

-- the tokens of a block that adds a declaration
pub addition_cut : (decl : Decl) → IsDeclWritten decl → tokens (codes "add " ++ decl_text decl) ≡ k.Word add_word ∷ printed_decl decl []
addition_cut decl h = tokens_cut (then_any add_blank (decl_cut decl h))
