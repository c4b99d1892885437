-- The canonical tokens of a key lie nowhere too deep, behind `drop`.
use Rattle.std.proofs.Common.{ℕ, ◌+◌, ◌≤◌, false, List, [], ◌∷◌, Option, Some, None, arith}
use Rattle.vx_names.specs.declared.key.DeclKey.{DeclKey}
use Rattle.vx_names.specs.declared.key.DeclKey.TheVariants as y
use Rattle.vx_names.specs.declared.operator.Operator.{Operator}
use Rattle.vx_names.specs.Operator.{operator_of}
use Rattle.vx_syntax.specs.declared.token.Token.{Token}
use Rattle.vx_syntax.specs.declared.token.Token.TheVariants as k
use Rattle.vx_syntax.specs.declared.token.Mark.TheVariants as m
use Rattle.vx_syntax.specs.declared.decl.Start.TheVariants as s
use Rattle.vx_syntax.specs.declared.decl.Decl.TheVariants as d
use Rattle.vx_syntax.specs.Expressions.{Bytes}
use Rattle.vx_syntax.specs.Declarations.{drop_word}
use Rattle.vx_syntax.specs.PrintedTokens.{message, printed_more_specialisers, printed_specialisers, printed_key}
use Rattle.vx_syntax.specs.Depth.{first_levels, IsShallow}
use Rattle.vx_syntax.proofs.Shallow.{weight, low, word_fits}
use Rattle.vx_syntax.proofs.ShallowDecls.{added_is_shallow}

more_specialisers_fit : (xs : List Bytes) (n : ℕ) (ls : List ℕ) (us : List Token) → 2 + weight ls ≤ 513 → ((i : ℕ) → IsShallow (i ∷ ls) us) →
    IsShallow (n ∷ ls) (printed_more_specialisers xs us)
more_specialisers_fit [] n ls us fits next = next n
more_specialisers_fit (x ∷ xs) n ls us fits next = (
  low 0 ls (omega (arith, fits)),
  (low 0 ls (omega (arith, fits)), word_fits x 0 ls (printed_more_specialisers xs us) fits (λ i _. more_specialisers_fit xs i ls us fits next)),
)

specialisers_fit : (xs : List Bytes) (ls : List ℕ) (us : List Token) → 2 + weight ls ≤ 513 → ((i : ℕ) → IsShallow (i ∷ ls) us) →
    IsShallow (0 ∷ ls) (printed_specialisers xs us)
specialisers_fit [] ls us fits next = next 0
specialisers_fit (x ∷ xs) ls us fits next =
    (low 0 ls (omega (arith, fits)), word_fits x 0 ls (printed_more_specialisers xs us) fits (λ i _. more_specialisers_fit xs i ls us fits next))

-- the name of a message and the bracket behind it
called_fits : (o : Option Operator) (x : Bytes) (us : List Token) → ((i : ℕ) → i ≤ 1 → IsShallow (0 ∷ i ∷ []) us) →
    IsShallow (0 ∷ []) (message o x ∷ k.Mark m.Open ∷ us)
called_fits None x us next = word_fits x 0 [] (k.Mark m.Open ∷ us) (omega arith) (λ i le. (low 0 (i ∷ []) (omega (arith, le)), next i le))
called_fits (Some op) x us next = (omega arith, (omega arith, next 1 (omega arith)))

pub dropped_is_shallow : (key : DeclKey) → IsShallow first_levels (k.Word drop_word ∷ printed_key key [])
dropped_is_shallow (y.Object x) = (omega arith, (omega arith, word_fits x 0 [] [] (omega arith) (λ i _. tt)))
dropped_is_shallow (y.Predicate x) = (omega arith, (omega arith, word_fits x 0 [] [] (omega arith) (λ i _. tt)))
dropped_is_shallow (y.Field key) = added_is_shallow (d.Field key s.Nil false) (omega arith)
dropped_is_shallow (y.Method key) = (
  omega arith,
  (
    omega arith,
    called_fits (operator_of key.selector.name) key.selector.name (printed_specialisers key.specialisers (k.Mark m.Close ∷ [])) (λ i le.
        specialisers_fit key.specialisers (i ∷ []) (k.Mark m.Close ∷ []) (omega (arith, le)) (λ j. (low i [] (omega (arith, le)), tt))),
  ),
)
