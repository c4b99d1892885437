-- Bytes that are cut into tokens, wherever they stand.
use Rattle.std.proofs.Common.{◌≡◌, ℕ, zero, suc, ◌-◌, List, [], ◌∷◌, ◌++◌, length, Option, Some, None, refl, sym, ap, subst, ◌∙◌, arith, append_assoc, append-nil}
use Rattle.vx_names.specs.Bytes.{is_word_byte}
use Rattle.vx_syntax.specs.declared.token.Token.{Token}
use Rattle.vx_reader.specs.declared.token.Placed.{Placed}
use Rattle.vx_reader.proofs.Runs.{Stops}
use Rattle.vx_reader.specs.Tokens.{begins, front, at, tokens_after, placed_tokens, without_places, tokens}

-- the token that is found, if there is one
abbrev found : Option Token → List Token
found None = []
found (Some token) = token ∷ []

-- the tokens that begin after the first bytes, which are passed over, without their places
abbrev pub cut : ℕ → List ℕ → List Token
cut passed [] = []
cut (suc passed) (b ∷ bs) = cut passed bs
cut zero (b ∷ bs) = found (front (b ∷ bs)).token ++ cut (front (b ∷ bs)).more bs

placeless_found : (n : ℕ) (o : Option Token) (placed : List Placed) → without_places (at n o ++ placed) ≡ found o ++ without_places placed
placeless_found n None placed = refl
placeless_found n (Some token) placed = refl

placeless : (n passed : ℕ) (bytes : List ℕ) → without_places (tokens_after n passed bytes) ≡ cut passed bytes
placeless n passed [] = refl
placeless n (suc passed) (b ∷ bs) = placeless (suc n) passed bs
placeless n zero (b ∷ bs) =
    placeless_found n (front (b ∷ bs)).token (tokens_after (suc n) (front (b ∷ bs)).more bs)
    ∙ ap (λ ts. found (front (b ∷ bs)).token ++ ts) (placeless (suc n) (front (b ∷ bs)).more bs)

-- bytes that end a word or a number before them
abbrev pub Ends : List ℕ → Type 0
Ends bytes = Stops is_word_byte bytes

-- any bytes
abbrev pub Any : List ℕ → Type 0
Any bytes = Unit {0}

-- Wherever other bytes follow for which `Behind` holds, the bytes are cut into tokens of their own: f puts them before the tokens of what follows.
pub record Cuts (Behind : List ℕ → Type 0) (bytes : List ℕ) (f : List Token → List Token) : Type 0 where
  pub same : (rest : List ℕ) → Behind rest → cut zero (bytes ++ rest) ≡ f (cut zero rest)

-- bytes behind others
pub behind : {P Q : List ℕ → Type 0} {a b : List ℕ} {f g : List Token → List Token} → Cuts P a f → Cuts Q b g → ((rest : List ℕ) → Q rest → P (b ++ rest)) →
    Cuts Q (a ++ b) (λ us. f (g us))
behind {P} {Q} {a} {b} {f} {g} x y ends = record {
  same = λ rest h. ap (cut zero) (append_assoc a b rest) ∙ x.same (b ++ rest) (ends rest h) ∙ ap f (y.same rest h);
}

-- bytes behind others that are cut so whatever follows
pub then_any : {Q : List ℕ → Type 0} {a b : List ℕ} {f g : List Token → List Token} → Cuts Any a f → Cuts Q b g → Cuts Q (a ++ b) (λ us. f (g us))
then_any x y = behind x y (λ rest h. tt)

-- what is cut so whatever follows is cut so here
pub whatever : {P : List ℕ → Type 0} {bytes : List ℕ} {f : List Token → List Token} → Cuts Any bytes f → Cuts P bytes f
whatever x = record { same = λ rest h. x.same rest tt }

-- bytes that are known by another way to write them
pub by_text : {bytes other : List ℕ} {f : List Token → List Token} → other ≡ bytes → Cuts Ends bytes f → Cuts Ends other f
by_text {bytes} {other} {f} is x = subst (λ text. Cuts Ends text f) (sym is) x

pub nothing : Cuts Ends [] (λ us. us)
nothing = record { same = λ rest h. refl }

passed_over : (bs rest : List ℕ) → cut (length bs) (bs ++ rest) ≡ cut zero rest
passed_over [] rest = refl
passed_over (b ∷ bs) rest = passed_over bs rest

-- a token at the front
pub front_cut : (b : ℕ) (bs rest : List ℕ) (token : Token) → front ((b ∷ bs) ++ rest) ≡ begins token (length (b ∷ bs)) → cut zero ((b ∷ bs) ++ rest) ≡ token ∷ cut zero rest
front_cut b bs rest token is =
    let more : length (b ∷ bs) - 1 ≡ length bs = omega arith in
    ap (λ f. found f.token ++ cut f.more (bs ++ rest)) is ∙ ap (λ n. token ∷ cut n (bs ++ rest)) more ∙ ap (λ us. token ∷ us) (passed_over bs rest)

-- all the tokens of a block
pub tokens_cut : {bytes : List ℕ} {f : List Token → List Token} → Cuts Ends bytes f → tokens bytes ≡ f []
unfolding placed_tokens
tokens_cut {bytes} {f} x = placeless 0 zero bytes ∙ ap (cut zero) (sym (append-nil bytes)) ∙ x.same [] tt
