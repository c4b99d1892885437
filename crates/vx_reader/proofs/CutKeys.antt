-- The canonical texts of keys, behind `drop`, are cut into their tokens.
use Rattle.std.proofs.Common.{◌≡◌, ℕ, List, [], ◌∷◌, ◌++◌, length, map, codes, Option, Some, None, refl, subst}
use Rattle.std.specs.List.{AllByRecursion}
use Rattle.vx_names.specs.declared.operator.Operator.{Operator}
use Rattle.vx_names.specs.declared.key.FieldKey.{FieldKey}
use Rattle.vx_names.specs.declared.key.MethodKey.{MethodKey}
use Rattle.vx_names.specs.declared.key.DeclKey.{DeclKey}
use Rattle.vx_names.specs.declared.key.DeclKey.TheVariants as y
use Rattle.vx_names.specs.Operator.{operator_of}
use Rattle.vx_syntax.specs.declared.token.Token.TheVariants as k
use Rattle.vx_syntax.specs.declared.token.Keyword.TheVariants as w
use Rattle.vx_syntax.specs.declared.token.Mark.TheVariants as m
use Rattle.vx_syntax.specs.Words.{keyword, IsWord}
use Rattle.vx_syntax.specs.Expressions.{Bytes}
use Rattle.vx_syntax.specs.Declarations.{drop_word}
use Rattle.vx_syntax.specs.Print.{joined, specialiser_text}
use Rattle.vx_syntax.specs.PrintedTokens.{message, printed_more_specialisers, printed_specialisers, printed_key}
use Rattle.vx_syntax.specs.Written.{IsSent, IsKeyWritten}
use Rattle.vx_reader.specs.Tokens.{front, tokens}
use Rattle.vx_reader.specs.EditText.{named_key_text}
use Rattle.vx_reader.proofs.Cuts.{Ends, Any, Cuts, behind, then_any, whatever, nothing, tokens_cut}
use Rattle.vx_reader.proofs.CutSigns.{open_bracket, close_bracket, comma, at_sign, operator_cut}
use Rattle.vx_reader.proofs.CutWords.{word_cut}
use Rattle.vx_reader.proofs.CutTrees.{joined_ends}

drop_object : Cuts Any (codes "drop object ") (λ us. k.Word drop_word ∷ k.Keyword w.Object ∷ us)
unfolding front keyword
drop_object = record { same = λ rest any. refl }

drop_predicate : Cuts Any (codes "drop predicate ") (λ us. k.Word drop_word ∷ k.Keyword w.Predicate ∷ us)
unfolding front keyword
drop_predicate = record { same = λ rest any. refl }

drop_field : Cuts Any (codes "drop field ") (λ us. k.Word drop_word ∷ k.Keyword w.Field ∷ us)
unfolding front keyword
drop_field = record { same = λ rest any. refl }

drop_method : Cuts Any (codes "drop method ") (λ us. k.Word drop_word ∷ k.Keyword w.Method ∷ us)
unfolding front keyword
drop_method = record { same = λ rest any. refl }

at_word : (x : Bytes) → IsWord x → Cuts Ends (specialiser_text x) (λ us. k.Mark m.At ∷ k.Word x ∷ us)
at_word x h = then_any at_sign (word_cut x h)

more_specialisers_cut : (xs : List Bytes) → AllByRecursion IsWord xs →
    Cuts Ends (joined (codes ",") (codes ",") (map specialiser_text xs)) (printed_more_specialisers xs)
more_specialisers_cut [] h = nothing
more_specialisers_cut (x ∷ xs) h =
    then_any comma (behind (at_word x h.0) (more_specialisers_cut xs h.1) (λ rest ends. joined_ends 44 [] (map specialiser_text xs) rest refl ends))

specialisers_cut : (xs : List Bytes) → AllByRecursion IsWord xs → Cuts Ends (joined [] (codes ",") (map specialiser_text xs)) (printed_specialisers xs)
specialisers_cut [] h = nothing
specialisers_cut (x ∷ xs) h =
    behind (at_word x h.0) (more_specialisers_cut xs h.1) (λ rest ends. joined_ends 44 [] (map specialiser_text xs) rest refl ends)

-- the name of a message and the bracket behind it
called_cut : (o : Option Operator) (x : Bytes) (n : ℕ) → IsSent o x n → Cuts Any (x ++ codes "(") (λ us. message o x ∷ k.Mark m.Open ∷ us)
called_cut None x n h = behind (word_cut x h.0) open_bracket (λ rest any. refl)
called_cut (Some op) x n h =
    subst (λ y. Cuts Any (y ++ codes "(") (λ us. k.Operator op ∷ k.Mark m.Open ∷ us)) h.0
    (behind (operator_cut op) open_bracket (λ rest any. (refl, refl, refl)))

dropped_field_cut : (key : FieldKey) → IsWord key.name → IsWord key.specialiser →
    Cuts Any (codes "drop " ++ named_key_text (y.Field key)) (λ us. k.Word drop_word ∷ printed_key (y.Field key) us)
dropped_field_cut key name specialiser =
    behind (then_any (behind (then_any drop_field (word_cut key.name name)) (then_any open_bracket at_sign) (λ rest any. refl))
    (word_cut key.specialiser specialiser)) close_bracket (λ rest any. refl)

dropped_method_cut : (key : MethodKey) → IsSent (operator_of key.selector.name) key.selector.name (length key.specialisers) →
    AllByRecursion IsWord key.specialisers → Cuts Any (codes "drop " ++ named_key_text (y.Method key)) (λ us. k.Word drop_word ∷ printed_key (y.Method key) us)
dropped_method_cut key sent each =
    behind (then_any (then_any drop_method (called_cut (operator_of key.selector.name) key.selector.name (length key.specialisers) sent))
    (specialisers_cut key.specialisers each)) close_bracket (λ rest any. refl)

dropped_cut : (key : DeclKey) → IsKeyWritten key → Cuts Ends (codes "drop " ++ named_key_text key) (λ us. k.Word drop_word ∷ printed_key key us)
dropped_cut (y.Object x) h = then_any drop_object (word_cut x h)
dropped_cut (y.Predicate x) h = then_any drop_predicate (word_cut x h)
dropped_cut (y.Field key) h = whatever (dropped_field_cut key h.0 h.2)
dropped_cut (y.Method key) h = whatever (dropped_method_cut key h.0 h.2)

-- the tokens of a block that drops the declaration with this key
pub removal_cut : (key : DeclKey) → IsKeyWritten key → tokens (codes "drop " ++ named_key_text key) ≡ k.Word drop_word ∷ printed_key key []
removal_cut key h = tokens_cut (dropped_cut key h)
