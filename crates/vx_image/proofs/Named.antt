-- The names of the format are names.
use Rattle.std.proofs.Common.{◌≡◌, ◌⊎◌, ℕ, Bool, true, false, ◌&&◌, ◌||◌, List, [], ◌∷◌, length, leb, map, Option, Some, None}
use Rattle.std.proofs.Common.{if◌then◌else◌, inl, inr, refl, sym, ap, ◌∙◌}
use Rattle.std.proofs.lemmas.Bool.{leb-true, le-leb, or_left}
use Rattle.std.specs.List.{list_all, list_any, AllByRecursion}
use Rattle.std.specs.Option.{is_some}
use Rattle.std.specs.Str.{bytes_eq}
use Rattle.vx_names.specs.Bytes as bytes
use Rattle.vx_names.specs.Operator.{spelling, operator_of, IsOperator}
use Rattle.vx_names.specs.Name.{IsIdentifier, IsName}
use Rattle.vx_names.specs.declared.operator.Operator.{Operator}
use Rattle.vx_names.specs.declared.operator.Operator.TheVariants.{Plus, Minus, Star, Slash, Percent, Less, Greater, LessEqual, GreaterEqual, Equal, PlusPlus}
use Rattle.vx_names.specs.declared.operator.Operator.TheVariants.{EqualEqual}
use Rattle.vx_format.specs.Layout.{is_identifier, is_name, is_word_byte, operators}

-- one of some choices, or one of the rest
or_else : (found : Bool) (operator : Operator) (rest : Option Operator) (others : Bool) → is_some rest ≡ others
    → is_some (if found then Some operator else rest) ≡ (found || others)
or_else true operator rest others e = refl
or_else false operator rest others e = e

-- all operators, in the order in which they are looked for
abbrev all_operators : List Operator
all_operators = Plus ∷ Minus ∷ Star ∷ Slash ∷ Percent ∷ Less ∷ Greater ∷ LessEqual ∷ GreaterEqual ∷ Equal ∷ PlusPlus ∷ EqualEqual ∷ []

abbrev first_of : List Operator → List ℕ → Option Operator
first_of [] bytes = None
first_of (o ∷ os) bytes = if bytes_eq bytes (spelling o) then Some o else first_of os bytes

found_first : (os : List Operator) (bytes : List ℕ) → is_some (first_of os bytes) ≡ list_any (bytes_eq bytes) (map spelling os)
found_first [] bytes = refl
found_first (o ∷ os) bytes = or_else (bytes_eq bytes (spelling o)) o (first_of os bytes) (list_any (bytes_eq bytes) (map spelling os))
    (found_first os bytes)

-- looking for the operator finds one exactly where the bytes are among those of operators
pub operator_found : (bytes : List ℕ) → is_some (operator_of bytes) ≡ list_any (bytes_eq bytes) operators
unfolding operator_of
operator_found bytes = found_first all_operators bytes

both : (a b : Bool) → (a && b) ≡ true → (a ≡ true) × (b ≡ true)
both true b e = (refl, e)
both false b e = absurd cc

and_so : (a b : Bool) → a ≡ true → b ≡ true → (a && b) ≡ true
and_so true b e h = h
and_so false b e h = absurd cc

one_of : (a b : Bool) → (a || b) ≡ true → (a ≡ true) ⊎ (b ≡ true)
one_of true b e = inl refl
one_of false b e = inr e

or_so : (a b : Bool) → b ≡ true → (a || b) ≡ true
or_so true b e = refl
or_so false b e = e

each_goes_on : (bs : List ℕ) → list_all is_word_byte bs ≡ true → AllByRecursion (λ c. bytes.is_word_byte c ≡ true) bs
each_goes_on [] e = tt
each_goes_on (b ∷ bs) e = let p = both (is_word_byte b) (list_all is_word_byte bs) e in (p.0, each_goes_on bs p.1)

all_go_on : (bs : List ℕ) → AllByRecursion (λ c. bytes.is_word_byte c ≡ true) bs → list_all is_word_byte bs ≡ true
all_go_on [] h = refl
all_go_on (b ∷ bs) h = and_so (is_word_byte b) (list_all is_word_byte bs) h.0 (all_go_on bs h.1)

identifier : (bs : List ℕ) → is_identifier bs ≡ true → IsIdentifier bs
identifier [] e = absurd cc
identifier (b ∷ bs) e = let p = both _ (list_all is_word_byte bs) e in (p.0, each_goes_on bs p.1)

identified : (bs : List ℕ) → IsIdentifier bs → is_identifier bs ≡ true
identified [] h = absurd h
identified (b ∷ bs) h = and_so _ (list_all is_word_byte bs) h.0 (all_go_on bs h.1)

-- what the crate of names says of operators
abbrev pub Alone : Type 0
Alone = (bytes : List ℕ) (operator : Operator) → operator_of bytes ≡ Some operator → spelling operator ≡ bytes

abbrev pub Found : Type 0
Found = (operator : Operator) → operator_of (spelling operator) ≡ Some operator

operator : Alone → (bs : List ℕ) (found : Option Operator) → operator_of bs ≡ found → is_some found ≡ true → IsOperator bs
operator alone bs (Some o) e some = (o, alone bs o e)
operator alone bs None e some = absurd cc

pub is_a_name : Alone → (bs : List ℕ) → is_name bs ≡ true → IsName bs
unfolding is_name
is_a_name alone bs e = elim (one_of (is_identifier bs && leb (length bs) 64) (list_any (bytes_eq bs) operators) e) [
  | inl h ↦ let p = both (is_identifier bs) (leb (length bs) 64) h in inl (identifier bs p.0, leb-true _ _ p.1)
  | inr h ↦ inr (operator alone bs (operator_of bs) refl (operator_found bs ∙ h))
]

pub a_name_is : Found → (bs : List ℕ) → IsName bs → is_name bs ≡ true
unfolding is_name
a_name_is found bs (inl h) =
    or_left (is_identifier bs && leb (length bs) 64) (list_any (bytes_eq bs) operators)
    (and_so (is_identifier bs) (leb (length bs) 64) (identified bs h.0) (le-leb _ _ h.1))
a_name_is found bs (inr h) =
    or_so (is_identifier bs && leb (length bs) 64) (list_any (bytes_eq bs) operators)
    (sym (operator_found bs) ∙ ap (λ s. is_some (operator_of s)) (sym h.1) ∙ ap is_some (found h.0))
