-- Blocks and their tokens, written out.
use Rattle.std.proofs.Common.{◌≡◌, ℕ, [], ◌∷◌, ◌++◌, codes, replicate, refl}
use Rattle.vx_names.specs.Operator.{operator_of}
use Rattle.vx_names.specs.declared.operator.Operator.TheVariants as o
use Rattle.vx_syntax.specs.declared.token.Mark.TheVariants as m
use Rattle.vx_reader.specs.declared.token.Placed.{Placed}
use Rattle.vx_syntax.specs.declared.token.Token.{Token}
use Rattle.vx_syntax.specs.declared.token.Token.TheVariants as k
use Rattle.vx_reader.specs.Strings.{quoted}
use Rattle.vx_syntax.specs.Words.{keyword, mark}
use Rattle.vx_reader.specs.Tokens.{sign_front, front, placed_tokens}

abbrev at : ℕ → Token → Placed
at place token = record { token = token; place = place }

-- x := "a\"b\\";
assignment : placed_tokens (codes "x := " ++ 34 ∷ 97 ∷ 92 ∷ 34 ∷ 98 ∷ 92 ∷ 92 ∷ 34 ∷ 59 ∷ [])
    ≡ at 0 (k.Word (codes "x")) ∷ at 2 (k.Mark m.Becomes) ∷ at 5 (k.Text (97 ∷ 34 ∷ 98 ∷ 92 ∷ [])) ∷ at 13 (k.Mark m.Semicolon) ∷ []
unfolding placed_tokens front keyword mark sign_front quoted operator_of
assignment = refl

operators : placed_tokens (codes "<=>==+++")
    ≡ at 0 (k.Operator o.LessEqual) ∷ at 2 (k.Operator o.GreaterEqual) ∷ at 4 (k.Operator o.Equal) ∷ at 5 (k.Operator o.PlusPlus) ∷ at 7 (k.Operator o.Plus) ∷ []
unfolding placed_tokens front keyword mark sign_front quoted operator_of
operators = refl

-- a comment ends with its line
comment : placed_tokens (codes "a--b" ++ 34 ∷ 200 ∷ 10 ∷ codes "- -1")
    ≡ at 0 (k.Word (codes "a")) ∷ at 7 (k.Operator o.Minus) ∷ at 9 (k.Operator o.Minus) ∷ at 10 (k.Number 1) ∷ []
unfolding placed_tokens front keyword mark sign_front quoted operator_of
comment = refl

dots : placed_tokens (codes "....:") ≡ at 0 (k.Mark m.Dots) ∷ at 3 k.Bad ∷ at 4 k.Bad ∷ []
unfolding placed_tokens front keyword mark sign_front quoted operator_of
dots = refl

numbers : placed_tokens (codes "12 170141183460469231731687303715884105727 170141183460469231731687303715884105728 340282366920938463463374607431768211456")
    ≡ at 0 (k.Number 12) ∷ at 3 (k.Number 170141183460469231731687303715884105727) ∷ at 43 (k.Number 170141183460469231731687303715884105728)
    ∷ at 83 (k.Number 170141183460469231731687303715884105728) ∷ []
unfolding placed_tokens front keyword mark sign_front quoted operator_of
numbers = refl

-- a quote that begins no string is one bad byte
unclosed : placed_tokens (34 ∷ 97 ∷ 92 ∷ 98 ∷ []) ≡ at 0 k.Bad ∷ at 1 (k.Word (codes "a")) ∷ at 2 k.Bad ∷ at 3 (k.Word (codes "b")) ∷ []
unfolding placed_tokens front keyword mark sign_front quoted operator_of
unclosed = refl

longest_string : placed_tokens (34 ∷ replicate 1024 35 ++ 34 ∷ []) ≡ at 0 (k.Text (replicate 1024 35)) ∷ []
unfolding placed_tokens front keyword mark sign_front quoted operator_of
longest_string = refl

-- one byte more is too many, and 1,025 letters are too many for a word
too_long_string : placed_tokens (34 ∷ replicate 1025 97 ++ 34 ∷ []) ≡ at 0 k.Bad ∷ at 1 k.Bad ∷ at 1026 k.Bad ∷ []
unfolding placed_tokens front keyword mark sign_front quoted operator_of
too_long_string = refl
