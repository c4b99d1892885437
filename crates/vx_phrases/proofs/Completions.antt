-- Tokens that complete a state, from those that complete another.
use Rattle.std.proofs.Common.{List, ◌∷◌, codes, refl, arith}
use Rattle.vx_syntax.specs.declared.token.Token.{Token}
use Rattle.vx_syntax.specs.Words.{keyword, IsWord, IsToken}
use Rattle.vx_syntax.specs.Expressions.{Bytes}
use Rattle.vx_phrases.specs.Laws.{Completion}

-- a word, where any serves
abbrev pub letter : Bytes
letter = codes "a"

pub letter_is_word : IsWord letter
unfolding keyword
letter_is_word = record { identifier = (refl, tt); short = omega arith; free = refl }

-- a token, and then what completes another state
pub then_token : {V : Type 0} {A B : List Token → List Token → V → Type 0} (token : Token) → IsToken token →
    ((ts us : List Token) (v : V) → A ts us v → B (token ∷ ts) us v) → Completion A → Completion B
then_token token is f found =
    record { tokens = token ∷ found.tokens; value = found.value; each = (is, found.each); completes = λ us. f _ _ _ (found.completes us) }

-- what completes another state
pub also : {V : Type 0} {A B : List Token → List Token → V → Type 0} → ((ts us : List Token) (v : V) → A ts us v → B ts us v) → Completion A → Completion B
also f found = record { tokens = found.tokens; value = found.value; each = found.each; completes = λ us. f _ _ _ (found.completes us) }
