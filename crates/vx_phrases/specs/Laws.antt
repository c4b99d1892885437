-- What holds of each reader here, by what its states want: `Remains s ts us v` says that the tokens ts begin with what
-- completes the state s, the whole means v, and the tokens us follow it.
use Rattle.std.specs.Prelude.{◌≡◌, ℕ, ◌⊎◌, List, [], ◌∷◌, ◌++◌, Option, Some, None, is_none}
use Rattle.std.specs.List.{AllByRecursion}
use Rattle.vx_syntax.specs.declared.token.Token.{Token}
use Rattle.vx_syntax.specs.declared.token.Token.TheVariants as k
use Rattle.vx_syntax.specs.Words.{IsToken}

-- what completes the state where a step leads
abbrev pub Moves : {S V : Type 0} → (S → List Token → List Token → V → Type 0) → Option S → List Token → List Token → V → Type 0
Moves Remains None ts us v = ⊥
Moves Remains (Some s) ts us v = Remains s ts us v

-- What begins with a token is completed where the token leads, or is whole before it.
abbrev pub IsComplete : {S V : Type 0} → (S → List Token → List Token → V → Type 0) → (S → Token → Option S) → (S → Option V) → Type 0
IsComplete {S} {V} Remains step finished = (s : S) (t : Token) (ts us : List Token) (v : V) → Remains s (t ∷ ts) us v →
    Moves Remains (step s t) ts us v ⊎ ((us ≡ t ∷ ts) × (finished s ≡ Some v))

-- What completes the state where a token leads, completes with the token in front the state before.
abbrev pub IsSound : {S V : Type 0} → (S → List Token → List Token → V → Type 0) → (S → Token → Option S) → Type 0
IsSound {S} {V} Remains step = (s : S) (t : Token) (ts us : List Token) (v : V) → Moves Remains (step s t) ts us v → Remains s (t ∷ ts) us v

-- Where all is read, nothing more is needed.
abbrev pub Ends : {S V : Type 0} → (S → List Token → List Token → V → Type 0) → (S → Option V) → Type 0
Ends {S} {V} Remains finished = (s : S) (us : List Token) (v : V) → finished s ≡ Some v → Remains s us us v

-- Where no token follows, all is read.
abbrev pub IsEnd : {S V : Type 0} → (S → List Token → List Token → V → Type 0) → (S → Option V) → Type 0
IsEnd {S} {V} Remains finished = (s : S) (us : List Token) (v : V) → Remains s [] us v → (us ≡ []) × (finished s ≡ Some v)

-- tokens that complete a state, and what the whole then means
pub record Completion {V : Type 0} (Wants : List Token → List Token → V → Type 0) : Type 0 where
  pub tokens : List Token
  pub value : V
  pub each : AllByRecursion IsToken tokens
  pub completes : (us : List Token) → Wants (tokens ++ us) us value

-- Whether a number goes on does not depend on the number.
abbrev pub TakesAnyNumber : {S : Type 0} → (S → Token → Option S) → Type 0
TakesAnyNumber {S} step = (s : S) (m n : ℕ) → is_none (step s (k.Number m)) ≡ is_none (step s (k.Number n))
