-- What bytes begin with, and the tokens behind it.
use Rattle.std.proofs.Common.{◌≡◌, ℕ, Bool, zero, suc, ◌==◌, ◌+◌, ◌-◌, ◌<◌, ◌≤◌, true, false, List, [], ◌∷◌, ◌++◌, length, take, drop, get_or, refl, sym, ◌∙◌, ap, arith, add-zero, add-one, subst, length-drop, append_assoc, append-nil}
use Rattle.std.proofs.lemmas.Bool.{eqb-true, eq-eqb, ne_eqb}
use Rattle.std.proofs.lemmas.List.{take_rest}
use Rattle.vx_reader.specs.declared.token.Front.{Front}
use Rattle.vx_reader.specs.declared.token.Placed.{Placed}
use Rattle.vx_names.specs.Bytes.{is_letter}
use Rattle.std.specs.Char.{is_ascii_digit}
use Rattle.vx_reader.specs.Bytes.{is_white, quote}
use Rattle.vx_reader.specs.Strings.{quoted}
use Rattle.vx_reader.specs.Tokens.{passes, word_front, number_front, text_front, begins_comment, comment_front, sign_front, begun, front, at, tokens_after, placed_tokens}

-- the bytes behind the first one, as code takes them
abbrev pub behind : List ℕ → List ℕ
behind bytes = take (length bytes - 1) (drop 1 bytes)

pub front_is : (bytes : List ℕ) → 0 < length bytes → front bytes ≡ begun (get_or bytes 0 0) bytes
unfolding front
front_is [] some = absurd (omega arith)
front_is (b ∷ bs) some = refl

-- what begins there, by the first byte
pub white_begins : (bytes : List ℕ) (f : Front) → 0 < length bytes → is_white (get_or bytes 0 0) ≡ true → f ≡ passes 1 → f ≡ front bytes
white_begins bytes f some white is = is ∙ sym (front_is bytes some ∙ rw white refl)

pub word_begins : (bytes : List ℕ) (f : Front) → 0 < length bytes → is_white (get_or bytes 0 0) ≡ false → is_letter (get_or bytes 0 0) ≡ true →
    f ≡ word_front bytes → f ≡ front bytes
word_begins bytes f some white letter is = is ∙ sym (front_is bytes some ∙ rw (white, letter) refl)

pub number_begins : (bytes : List ℕ) (f : Front) → 0 < length bytes → is_white (get_or bytes 0 0) ≡ false → is_letter (get_or bytes 0 0) ≡ false →
    is_ascii_digit (get_or bytes 0 0) ≡ true → f ≡ number_front bytes → f ≡ front bytes
number_begins bytes f some white letter digit is = is ∙ sym (front_is bytes some ∙ rw (white, letter, digit) refl)

pub text_begins : (bytes : List ℕ) (f : Front) → 0 < length bytes → is_white (get_or bytes 0 0) ≡ false → is_letter (get_or bytes 0 0) ≡ false →
    is_ascii_digit (get_or bytes 0 0) ≡ false → get_or bytes 0 0 ≡ quote → f ≡ text_front (quoted (behind bytes)) → f ≡ front bytes
text_begins bytes f some white letter digit text is =
    let same : (get_or bytes 0 0 == quote) ≡ true = eq-eqb _ _ text in
    is ∙ ap (λ bs. text_front (quoted bs)) (take_rest bytes 1) ∙ sym (front_is bytes some ∙ rw (white, letter, digit, same) refl)

pub comment_begins : (bytes : List ℕ) (f : Front) → 0 < length bytes → is_white (get_or bytes 0 0) ≡ false → is_letter (get_or bytes 0 0) ≡ false →
    is_ascii_digit (get_or bytes 0 0) ≡ false → (get_or bytes 0 0 ≡ quote → ⊥) → begins_comment bytes ≡ true → f ≡ comment_front bytes → f ≡ front bytes
comment_begins bytes f some white letter digit text comment is =
    let other : (get_or bytes 0 0 == quote) ≡ false = ne_eqb _ _ text in
    is ∙ sym (front_is bytes some ∙ rw (white, letter, digit, other, comment) refl)

pub sign_begins : (bytes : List ℕ) (f : Front) → 0 < length bytes → is_white (get_or bytes 0 0) ≡ false → is_letter (get_or bytes 0 0) ≡ false →
    is_ascii_digit (get_or bytes 0 0) ≡ false → (get_or bytes 0 0 ≡ quote → ⊥) → begins_comment bytes ≡ false → f ≡ sign_front bytes → f ≡ front bytes
sign_begins bytes f some white letter digit text comment is =
    let other : (get_or bytes 0 0 == quote) ≡ false = ne_eqb _ _ text in
    is ∙ sym (front_is bytes some ∙ rw (white, letter, digit, other, comment) refl)

-- bytes that are passed over
passed_over : (n passed : ℕ) (bytes : List ℕ) → tokens_after n passed bytes ≡ tokens_after (n + passed) zero (drop passed bytes)
passed_over n zero bytes = rw add-zero refl
passed_over n (suc passed) [] = refl
passed_over n (suc passed) (b ∷ bs) = let e : suc n + passed ≡ n + suc passed = omega arith in rw (passed_over (suc n) passed bs, e) refl

tokens_cons : (n : ℕ) (bytes : List ℕ) → 0 < length bytes →
    tokens_after n zero bytes ≡ at n (front bytes).token ++ tokens_after (n + 1 + (front bytes).more) zero (drop (front bytes).more (behind bytes))
tokens_cons n [] some = absurd (omega arith)
tokens_cons n (b ∷ bs) some =
    rw (take_rest (b ∷ bs) 1, add-one) (ap (λ l. at n (front (b ∷ bs)).token ++ l) (passed_over (suc n) (front (b ∷ bs)).more bs))

-- the tokens that are found, and those of the bytes that are left: all the tokens of the block
pub record Found (bytes rest : List ℕ) (found : List Placed) : Type 0 where
  pub all : found ++ tokens_after (length bytes - length rest) zero rest ≡ placed_tokens bytes
  pub within : length rest ≤ length bytes

pub nothing_found : (bytes : List ℕ) → Found bytes bytes []
unfolding placed_tokens
nothing_found bytes =
    let e : length bytes - length bytes ≡ 0 = omega arith in
    record { all = ap (λ n. tokens_after n zero bytes) e; within = omega arith }

-- one round of the tokenizer
pub round : (bytes rest : List ℕ) (found more : List Placed) (begins : Front) (place : ℕ) → 0 < length rest → begins.more < length rest → Found bytes rest found →
    begins ≡ front rest → place ≡ length bytes - length rest → more ≡ found ++ at place begins.token →
    Found bytes (take (length (behind rest) - begins.more) (drop begins.more (behind rest))) more
round bytes rest found more begins place some shorter h is here e =
    let left : take (length (behind rest) - begins.more) (drop begins.more (behind rest)) ≡ drop begins.more (behind rest) = take_rest (behind rest) begins.more in
    let len : length (drop begins.more (behind rest)) ≡ length rest - 1 - begins.more = rw (length-drop, take_rest rest 1, length-drop) refl in
    let next : length bytes - length (drop begins.more (behind rest)) ≡ place + 1 + begins.more = omega (arith, h.within) in
    rw left (record {
      all = rw (next, e, append_assoc) (ap (λ l. found ++ l) (subst (λ f. at place f.token ++ tokens_after (place + 1 + f.more) zero (drop f.more (behind rest)) ≡ tokens_after place zero rest) (sym is) (sym (tokens_cons place rest some))) ∙ rw here h.all);
      within = omega (arith, h.within);
    })

pub no_more : (bytes rest : List ℕ) (found : List Placed) → length rest ≡ 0 → Found bytes rest found → found ≡ placed_tokens bytes
no_more bytes [] found none h = sym (append-nil found) ∙ h.all
no_more bytes (b ∷ bs) found none h = absurd (omega arith)

-- what `is_empty` says
pub some_bytes : (bytes : List ℕ) (r : Bool) → r ≡ (length bytes == 0) → r ≡ false → 0 < length bytes
some_bytes [] r is e = absurd cc
some_bytes (b ∷ bs) r is e = omega arith

pub no_bytes : (bytes : List ℕ) (r : Bool) → r ≡ (length bytes == 0) → r ≡ true → length bytes ≡ 0
no_bytes bytes r is e = eqb-true (length bytes) 0 (sym is ∙ e)
