-- White space, marks and operators are cut into their tokens.
use Rattle.std.proofs.Common.{◌≡◌, ℕ, zero, ◌==◌, false, List, [], ◌∷◌, ◌++◌, length, codes, Option, Some, None, refl, ◌∙◌, arith}
use Rattle.std.proofs.lemmas.Bool.{cond-true, le-leb}
use Rattle.vx_names.specs.declared.operator.Operator.{Operator}
use Rattle.vx_names.specs.declared.operator.Operator.TheVariants as o
use Rattle.vx_names.specs.Operator.{spelling, operator_of}
use Rattle.vx_syntax.specs.declared.token.Token.{Token}
use Rattle.vx_syntax.specs.declared.token.Token.TheVariants as k
use Rattle.vx_syntax.specs.declared.token.Mark.TheVariants as m
use Rattle.vx_syntax.specs.Words.{mark}
use Rattle.vx_reader.specs.Tokens.{sign, begins, sign_of, longer, sign_front, front}
use Rattle.vx_reader.proofs.Cuts.{cut, Any, Cuts, front_cut}

sign_of_one : (a : ℕ) (rest : List ℕ) → sign_of 1 (a ∷ rest) ≡ sign (a ∷ [])
sign_of_one a rest = cond-true _ _ _ (le-leb 1 (length (a ∷ rest)) (omega arith))

sign_of_two : (a b : ℕ) (rest : List ℕ) → sign_of 2 (a ∷ b ∷ rest) ≡ sign (a ∷ b ∷ [])
sign_of_two a b rest = cond-true _ _ _ (le-leb 2 (length (a ∷ b ∷ rest)) (omega arith))

sign_of_three : (a b c : ℕ) (rest : List ℕ) → sign_of 3 (a ∷ b ∷ c ∷ rest) ≡ sign (a ∷ b ∷ c ∷ [])
sign_of_three a b c rest = cond-true _ _ _ (le-leb 3 (length (a ∷ b ∷ c ∷ rest)) (omega arith))

-- the sign at the front, by what the first three, two and one bytes are
by_one : (three two one : Option Token) (token : Token) → three ≡ None → two ≡ None → one ≡ Some token →
    longer three 3 (longer two 2 (longer one 1 (begins k.Bad 1))) ≡ begins token 1
by_one three two one token e3 e2 e1 = rw (e3, e2, e1) refl

by_two : (three two one : Option Token) (token : Token) → three ≡ None → two ≡ Some token → longer three 3 (longer two 2 (longer one 1 (begins k.Bad 1))) ≡ begins token 2
by_two three two one token e3 e2 = rw (e3, e2) refl

by_three : (three two one : Option Token) (token : Token) → three ≡ Some token → longer three 3 (longer two 2 (longer one 1 (begins k.Bad 1))) ≡ begins token 3
by_three three two one token e3 = rw e3 refl

-- a sign of one byte that none of two or three bytes begins with
one_byte : (a b : ℕ) (rest : List ℕ) (token : Token) → sign (a ∷ []) ≡ Some token → sign (a ∷ b ∷ []) ≡ None → ((c : ℕ) → sign (a ∷ b ∷ c ∷ []) ≡ None) →
    sign_front (a ∷ b ∷ rest) ≡ begins token 1
unfolding sign_front
one_byte a b [] token one two three = by_one _ _ _ token refl (sign_of_two a b [] ∙ two) (sign_of_one a (b ∷ []) ∙ one)
one_byte a b (c ∷ rest) token one two three =
    by_one _ _ _ token (sign_of_three a b c rest ∙ three c) (sign_of_two a b (c ∷ rest) ∙ two) (sign_of_one a (b ∷ c ∷ rest) ∙ one)

-- a sign of two bytes that none of three begins with
two_bytes : (a b : ℕ) (rest : List ℕ) (token : Token) → sign (a ∷ b ∷ []) ≡ Some token → ((c : ℕ) → sign (a ∷ b ∷ c ∷ []) ≡ None) → sign_front (a ∷ b ∷ rest) ≡ begins token 2
unfolding sign_front
two_bytes a b [] token two three = by_two _ _ _ token refl (sign_of_two a b [] ∙ two)
two_bytes a b (c ∷ rest) token two three = by_two _ _ _ token (sign_of_three a b c rest ∙ three c) (sign_of_two a b (c ∷ rest) ∙ two)

three_bytes : (a b c : ℕ) (rest : List ℕ) (token : Token) → sign (a ∷ b ∷ c ∷ []) ≡ Some token → sign_front (a ∷ b ∷ c ∷ rest) ≡ begins token 3
unfolding sign_front
three_bytes a b c rest token three = by_three _ _ _ token (sign_of_three a b c rest ∙ three)

-- a sign that no other begins with, whatever follows
pub alone : (a : ℕ) (rest : List ℕ) (token : Token) → sign (a ∷ []) ≡ Some token → ((b : ℕ) → sign (a ∷ b ∷ []) ≡ None) → ((b c : ℕ) → sign (a ∷ b ∷ c ∷ []) ≡ None) →
    sign_front (a ∷ rest) ≡ begins token 1
unfolding sign_front
alone a [] token one two three = by_one _ _ _ token refl refl (sign_of_one a [] ∙ one)
alone a (b ∷ rest) token one two three = one_byte a b rest token one (two b) (three b)

pub blank : Cuts Any (codes " ") (λ us. us)
unfolding front
blank = record { same = λ rest any. refl }

-- where the first byte leaves nothing but signs, the sign is cut off
one_byte_cut : (a b : ℕ) (rest : List ℕ) (token : Token) → front (a ∷ b ∷ rest) ≡ sign_front (a ∷ b ∷ rest) → sign (a ∷ []) ≡ Some token →
    sign (a ∷ b ∷ []) ≡ None → ((c : ℕ) → sign (a ∷ b ∷ c ∷ []) ≡ None) → cut zero (a ∷ b ∷ rest) ≡ token ∷ cut zero (b ∷ rest)
one_byte_cut a b rest token is one two three = front_cut a [] (b ∷ rest) token (is ∙ one_byte a b rest token one two three)

two_bytes_cut : (a b : ℕ) (rest : List ℕ) (token : Token) → front (a ∷ b ∷ rest) ≡ sign_front (a ∷ b ∷ rest) → sign (a ∷ b ∷ []) ≡ Some token →
    ((c : ℕ) → sign (a ∷ b ∷ c ∷ []) ≡ None) → cut zero (a ∷ b ∷ rest) ≡ token ∷ cut zero rest
two_bytes_cut a b rest token is two three = front_cut a (b ∷ []) rest token (is ∙ two_bytes a b rest token two three)

alone_cut : (a : ℕ) (token : Token) → ((rest : List ℕ) → front (a ∷ rest) ≡ sign_front (a ∷ rest)) → sign (a ∷ []) ≡ Some token → ((b : ℕ) → sign (a ∷ b ∷ []) ≡ None) →
    ((b c : ℕ) → sign (a ∷ b ∷ c ∷ []) ≡ None) → Cuts Any (a ∷ []) (λ us. token ∷ us)
alone_cut a token is one two three = record { same = λ rest any. front_cut a [] rest token (is rest ∙ alone a rest token one two three) }

pub open_bracket : Cuts Any (codes "(") (λ us. k.Mark m.Open ∷ us)
unfolding front mark operator_of
open_bracket = alone_cut 40 (k.Mark m.Open) (λ rest. refl) refl (λ b. refl) (λ b c. refl)

pub close_bracket : Cuts Any (codes ")") (λ us. k.Mark m.Close ∷ us)
unfolding front mark operator_of
close_bracket = alone_cut 41 (k.Mark m.Close) (λ rest. refl) refl (λ b. refl) (λ b c. refl)

pub open_block : Cuts Any (codes "{") (λ us. k.Mark m.OpenBlock ∷ us)
unfolding front mark operator_of
open_block = alone_cut 123 (k.Mark m.OpenBlock) (λ rest. refl) refl (λ b. refl) (λ b c. refl)

pub close_block : Cuts Any (codes "}") (λ us. k.Mark m.CloseBlock ∷ us)
unfolding front mark operator_of
close_block = alone_cut 125 (k.Mark m.CloseBlock) (λ rest. refl) refl (λ b. refl) (λ b c. refl)

pub comma : Cuts Any (codes ",") (λ us. k.Mark m.Comma ∷ us)
unfolding front mark operator_of
comma = alone_cut 44 (k.Mark m.Comma) (λ rest. refl) refl (λ b. refl) (λ b c. refl)

pub semicolon : Cuts Any (codes ";") (λ us. k.Mark m.Semicolon ∷ us)
unfolding front mark operator_of
semicolon = alone_cut 59 (k.Mark m.Semicolon) (λ rest. refl) refl (λ b. refl) (λ b c. refl)

pub at_sign : Cuts Any (codes "@") (λ us. k.Mark m.At ∷ us)
unfolding front mark operator_of
at_sign = alone_cut 64 (k.Mark m.At) (λ rest. refl) refl (λ b. refl) (λ b c. refl)

pub ampersand : Cuts Any (codes "&") (λ us. k.Mark m.Ampersand ∷ us)
unfolding front mark operator_of
ampersand = alone_cut 38 (k.Mark m.Ampersand) (λ rest. refl) refl (λ b. refl) (λ b c. refl)

pub caret : Cuts Any (codes "^") (λ us. k.Mark m.Caret ∷ us)
unfolding front mark operator_of
caret = alone_cut 94 (k.Mark m.Caret) (λ rest. refl) refl (λ b. refl) (λ b c. refl)

pub becomes : Cuts Any (codes ":=") (λ us. k.Mark m.Becomes ∷ us)
unfolding front mark operator_of
becomes = record { same = λ rest any. two_bytes_cut 58 61 rest (k.Mark m.Becomes) refl refl (λ c. refl) }

pub dots : Cuts Any (codes "...") (λ us. k.Mark m.Dots ∷ us)
unfolding front mark operator_of
dots = record { same = λ rest any. front_cut 46 (46 ∷ 46 ∷ []) rest (k.Mark m.Dots) (three_bytes 46 46 46 rest (k.Mark m.Dots) refl) }

-- bytes that prolong no operator before them, and begin no comment with it: the first is neither `+`, `-` nor `=`
abbrev pub EndsOperator : List ℕ → Type 0
EndsOperator [] = ⊥
EndsOperator (b ∷ bs) = ((b == 43) ≡ false) × ((b == 45) ≡ false) × ((b == 61) ≡ false)

operator_same : (op : Operator) (rest : List ℕ) → EndsOperator rest → cut zero (spelling op ++ rest) ≡ k.Operator op ∷ cut zero rest
unfolding front mark operator_of
operator_same op [] h = absurd h
operator_same o.Plus (b ∷ rest) h = one_byte_cut 43 b rest (k.Operator o.Plus) refl refl (rw (h.0, sign) refl) (λ c. rw (h.0, sign) refl)
operator_same o.Minus (b ∷ rest) h = one_byte_cut 45 b rest (k.Operator o.Minus) (rw h.1 refl) refl refl (λ c. refl)
operator_same o.Star (b ∷ rest) h = one_byte_cut 42 b rest (k.Operator o.Star) refl refl refl (λ c. refl)
operator_same o.Slash (b ∷ rest) h = one_byte_cut 47 b rest (k.Operator o.Slash) refl refl refl (λ c. refl)
operator_same o.Percent (b ∷ rest) h = one_byte_cut 37 b rest (k.Operator o.Percent) refl refl refl (λ c. refl)
operator_same o.Less (b ∷ rest) h = one_byte_cut 60 b rest (k.Operator o.Less) refl refl (rw (h.2, sign) refl) (λ c. rw (h.2, sign) refl)
operator_same o.Greater (b ∷ rest) h = one_byte_cut 62 b rest (k.Operator o.Greater) refl refl (rw (h.2, sign) refl) (λ c. rw (h.2, sign) refl)
operator_same o.LessEqual (b ∷ rest) h = two_bytes_cut 60 61 (b ∷ rest) (k.Operator o.LessEqual) refl refl (λ c. refl)
operator_same o.GreaterEqual (b ∷ rest) h = two_bytes_cut 62 61 (b ∷ rest) (k.Operator o.GreaterEqual) refl refl (λ c. refl)
operator_same o.Equal (b ∷ rest) h = one_byte_cut 61 b rest (k.Operator o.Equal) refl refl (rw (h.2, sign) refl) (λ c. rw (h.2, sign) refl)
operator_same o.PlusPlus (b ∷ rest) h = two_bytes_cut 43 43 (b ∷ rest) (k.Operator o.PlusPlus) refl refl (λ c. refl)
operator_same o.EqualEqual (b ∷ rest) h = two_bytes_cut 61 61 (b ∷ rest) (k.Operator o.EqualEqual) refl refl (λ c. refl)

pub operator_cut : (op : Operator) → Cuts EndsOperator (spelling op) (λ us. k.Operator op ∷ us)
operator_cut op = record { same = operator_same op }
