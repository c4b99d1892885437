-- A line feed parts the tokens before it from those behind it: no token has one, and comments end with their line.
use Rattle.std.proofs.Common.{◌≡◌, ℕ, zero, suc, ◌==◌, ◌-◌, ◌<◌, ◌≤◌, nat_le, Bool, true, false, if◌then◌else◌, List, [], ◌∷◌, ◌++◌, length, take, take_while, codes, Option, Some, None, refl, sym, ap, ◌∙◌, arith, subst, length-append}
use Rattle.std.proofs.lemmas.Bool.{cond-true, le-leb, leb-true, leb-false}
use Rattle.std.proofs.lemmas.List.{take-append-le}
use Rattle.std.proofs.lemmas.List.Sums.{take_while-cons}
use Rattle.std.proofs.lemmas.Slice.Eq.{bytes_eq-Decides}
use Rattle.std.specs.Char.{is_ascii_digit}
use Rattle.std.specs.Option.{option_map}
use Rattle.std.specs.Str.{bytes_eq}
use Rattle.vx_names.specs.Bytes.{is_letter, is_word_byte}
use Rattle.vx_names.specs.Operator.{operator_of}
use Rattle.vx_syntax.specs.declared.token.TheConstants.{TEXT_BYTES}
use Rattle.vx_syntax.specs.declared.token.Token.{Token}
use Rattle.vx_syntax.specs.declared.token.Token.TheVariants as k
use Rattle.vx_syntax.specs.Words.{mark}
use Rattle.vx_reader.specs.declared.token.Front.{Front}
use Rattle.vx_reader.specs.declared.token.Placed.{Placed}
use Rattle.vx_reader.specs.declared.token.Quoted.{Quoted}
use Rattle.vx_reader.specs.declared.text.StringByte.{StringByte}
use Rattle.vx_reader.specs.declared.text.StringByte.TheVariants.{Closing, Backslash, Held, Wrong}
use Rattle.vx_reader.specs.Bytes.{is_white, is_in_line, quote}
use Rattle.vx_reader.specs.Strings.{string_byte, behind_backslash, holding, quoted_behind, short, quoted}
use Rattle.vx_reader.specs.Tokens.{word, number, sign, begins, passes, text_front, begins_comment, sign_of, longer, sign_front, front, at, tokens_after, placed_tokens, without_places, tokens}
use Rattle.vx_reader.specs.EditText.{line_feed}
use Rattle.vx_reader.proofs.Runs.{run_within}
use Rattle.vx_reader.proofs.Texts.{by_byte, by_byte_is}

-- runs end before it
run_parts : (p : ℕ → Bool) → p line_feed ≡ false → (xs ys : List ℕ) → take_while p (xs ++ line_feed ∷ ys) ≡ take_while p xs
run_parts p stops [] ys = rw (take_while-cons p line_feed ys, stops) refl
run_parts p stops (x ∷ xs) ys = rw (take_while-cons p x (xs ++ line_feed ∷ ys), take_while-cons p x xs, run_parts p stops xs ys) refl

-- no string has one
feed_wrong : (escaped : Bool) → string_byte escaped line_feed ≡ Wrong
feed_wrong true = refl
feed_wrong false = refl

string_parts : (escaped : Bool) (xs ys : List ℕ) → quoted_behind escaped (xs ++ line_feed ∷ ys) ≡ quoted_behind escaped xs
string_parts escaped [] ys = by_byte_is escaped line_feed ys Wrong (feed_wrong escaped)
string_parts escaped (x ∷ xs) ys =
    by_byte_is escaped x (xs ++ line_feed ∷ ys) (string_byte escaped x) refl
    ∙ same (string_byte escaped x) (string_parts true xs ys) (string_parts false xs ys)
    ∙ sym (by_byte_is escaped x xs (string_byte escaped x) refl)
  where
    same : (is : StringByte) → quoted_behind true (xs ++ line_feed ∷ ys) ≡ quoted_behind true xs →
        quoted_behind false (xs ++ line_feed ∷ ys) ≡ quoted_behind false xs → by_byte is x (xs ++ line_feed ∷ ys) ≡ by_byte is x xs
    same Closing next after = refl
    same Backslash next after = ap behind_backslash next
    same Held next after = ap (holding x) after
    same Wrong next after = refl

-- a string, if there is one, of at most so many bytes
abbrev IfWithin : ℕ → Option Quoted → Type 0
IfWithin n None = Unit {0}
IfWithin n (Some string) = string.len ≤ n

longer_within : (n : ℕ) (o : Option Quoted) (value : Quoted → List ℕ) → IfWithin n o →
    IfWithin (suc n) (option_map (λ q. record { value = value q; len = suc q.len }) o)
longer_within n None value h = tt
longer_within n (Some q) value h = omega (arith, h)

string_within : (escaped : Bool) (xs : List ℕ) → IfWithin (length xs) (quoted_behind escaped xs)
string_within escaped [] = tt
string_within escaped (x ∷ xs) = by (string_byte escaped x) refl (string_within true xs) (string_within false xs)
  where
    by : (is : StringByte) → string_byte escaped x ≡ is → IfWithin (length xs) (quoted_behind true xs) → IfWithin (length xs) (quoted_behind false xs) →
        IfWithin (suc (length xs)) (quoted_behind escaped (x ∷ xs))
    by Closing e next after = subst (IfWithin (suc (length xs))) (sym (by_byte_is escaped x xs Closing e)) (omega arith)
    by Backslash e next after =
        subst (IfWithin (suc (length xs))) (sym (by_byte_is escaped x xs Backslash e)) (longer_within (length xs) (quoted_behind true xs) (λ q. q.value) next)
    by Held e next after =
        subst (IfWithin (suc (length xs))) (sym (by_byte_is escaped x xs Held e)) (longer_within (length xs) (quoted_behind false xs) (λ q. x ∷ q.value) after)
    by Wrong e next after = subst (IfWithin (suc (length xs))) (sym (by_byte_is escaped x xs Wrong e)) tt

text_within : (n : ℕ) (o : Option Quoted) → IfWithin n o → (text_front (short o)).more ≤ n
text_within n None h = omega arith
text_within n (Some string) h = by (nat_le (length string.value) TEXT_BYTES)
  where
    by : (b : Bool) → (text_front (if b then Some string else None)).more ≤ n
    by true = omega (arith, h)
    by false = omega arith

-- no operator and no mark has one
abbrev has_feed : List ℕ → Bool
has_feed [] = false
has_feed (x ∷ xs) = if x == line_feed then true else has_feed xs

or_further : (b further : Bool) → further ≡ true → (if b then true else further) ≡ true
or_further true further h = refl
or_further false further h = h

feed_taken : (n : ℕ) (xs ys : List ℕ) → length xs < n → has_feed (take n (xs ++ line_feed ∷ ys)) ≡ true
feed_taken zero xs ys less = absurd (omega (arith, less))
feed_taken (suc n) [] ys less = refl
feed_taken (suc n) (x ∷ xs) ys less = or_further (x == line_feed) (has_feed (take n (xs ++ line_feed ∷ ys))) (feed_taken n xs ys (omega (arith, less)))

differs : (xs other : List ℕ) → has_feed other ≡ false → has_feed xs ≡ true → bytes_eq xs other ≡ false
differs xs other without has = by (bytes_eq xs other) refl
  where
    by : (b : Bool) → bytes_eq xs other ≡ b → b ≡ false
    by true e = absurd (cc (has, without, ap has_feed ((bytes_eq-Decides xs other).0 e)))
    by false e = refl

no_operator : (xs : List ℕ) → has_feed xs ≡ true → operator_of xs ≡ None
unfolding operator_of
no_operator xs has = rw (
  differs xs (codes "+") refl has,
  differs xs (codes "-") refl has,
  differs xs (codes "*") refl has,
  differs xs (codes "/") refl has,
  differs xs (codes "%") refl has,
  differs xs (codes "<") refl has,
  differs xs (codes ">") refl has,
  differs xs (codes "<=") refl has,
  differs xs (codes ">=") refl has,
  differs xs (codes "=") refl has,
  differs xs (codes "++") refl has,
  differs xs (codes "==") refl has,
) refl

no_mark : (xs : List ℕ) → has_feed xs ≡ true → mark xs ≡ None
unfolding mark
no_mark xs has = rw (
  differs xs (codes "(") refl has,
  differs xs (codes ")") refl has,
  differs xs (codes "{") refl has,
  differs xs (codes "}") refl has,
  differs xs (codes ",") refl has,
  differs xs (codes ";") refl has,
  differs xs (codes "@") refl has,
  differs xs (codes "&") refl has,
  differs xs (codes "^") refl has,
  differs xs (codes ":=") refl has,
  differs xs (codes "...") refl has,
) refl

no_sign : (xs : List ℕ) → has_feed xs ≡ true → sign xs ≡ None
no_sign xs has = rw (sign, no_operator xs has, no_mark xs has) refl

nothing_more : (b : Bool) (xs : List ℕ) → has_feed xs ≡ true → (if b then sign xs else None) ≡ None
nothing_more true xs has = no_sign xs has
nothing_more false xs has = refl

one_sign_parts : (n : ℕ) (xs ys : List ℕ) → sign_of n (xs ++ line_feed ∷ ys) ≡ sign_of n xs
one_sign_parts n xs ys = by (nat_le n (length xs)) refl
  where
    by : (b : Bool) → nat_le n (length xs) ≡ b → sign_of n (xs ++ line_feed ∷ ys) ≡ (if b then sign (take n xs) else None)
    by true is =
        let few : n ≤ length xs = leb-true n (length xs) is in
        let long : nat_le n (length (xs ++ line_feed ∷ ys)) ≡ true =
        le-leb n (length (xs ++ line_feed ∷ ys)) (omega (arith, few, length-append xs (line_feed ∷ ys))) in
        cond-true _ _ _ long ∙ ap sign (take-append-le n xs (line_feed ∷ ys) few)
    by false is =
        nothing_more (nat_le n (length (xs ++ line_feed ∷ ys))) (take n (xs ++ line_feed ∷ ys)) (feed_taken n xs ys (leb-false n (length xs) is))

signs_part : (xs ys : List ℕ) → sign_front (xs ++ line_feed ∷ ys) ≡ sign_front xs
unfolding sign_front
signs_part xs ys = rw (one_sign_parts 3 xs ys, one_sign_parts 2 xs ys, one_sign_parts 1 xs ys) refl

sign_within : (n len : ℕ) (xs : List ℕ) (shorter : Front) → length xs ≡ suc len → shorter.more ≤ len → (longer (sign_of n xs) n shorter).more ≤ len
sign_within n len xs shorter is less = by (nat_le n (length xs)) refl
  where
    found : (o : Option Token) → n ≤ length xs → (longer o n shorter).more ≤ len
    found None few = less
    found (Some token) few = omega (arith, few, is)

    by : (b : Bool) → nat_le n (length xs) ≡ b → (longer (if b then sign (take n xs) else None) n shorter).more ≤ len
    by true few = found (sign (take n xs)) (leb-true n (length xs) few)
    by false few = less

signs_within : (x : ℕ) (xs : List ℕ) → (sign_front (x ∷ xs)).more ≤ length xs
unfolding sign_front
signs_within x xs =
    sign_within 3 (length xs) (x ∷ xs) _ (omega arith) (sign_within 2 (length xs) (x ∷ xs) _ (omega arith)
    (sign_within 1 (length xs) (x ∷ xs) (begins k.Bad 1) (omega arith) (omega arith)))

-- comments end before it
one_byte : (x : ℕ) → bytes_eq (x ∷ []) (codes "--") ≡ false
one_byte x = by (bytes_eq (x ∷ []) (codes "--")) refl
  where
    by : (b : Bool) → bytes_eq (x ∷ []) (codes "--") ≡ b → b ≡ false
    by true e = absurd (cc (ap length ((bytes_eq-Decides (x ∷ []) (codes "--")).0 e)))
    by false e = refl

comment_parts : (x : ℕ) (xs ys : List ℕ) → begins_comment (x ∷ (xs ++ line_feed ∷ ys)) ≡ begins_comment (x ∷ xs)
comment_parts x [] ys = differs (x ∷ line_feed ∷ []) (codes "--") refl (feed_taken 2 (x ∷ []) ys (omega arith)) ∙ sym (one_byte x)
comment_parts x (y ∷ xs) ys = refl

-- what bytes begin with
same_front : {b c : Bool} {f g h i : Front} → b ≡ c → f ≡ h → g ≡ i → (if b then f else g) ≡ (if c then h else i)
same_front {b} {c} {f} {g} {h} {i} e first other =
    ap (λ a. if a then f else g) e ∙ ap (λ a. if c then a else g) first ∙ ap (λ a. if c then h else a) other

front_parts : (x : ℕ) (xs ys : List ℕ) → front (x ∷ (xs ++ line_feed ∷ ys)) ≡ front (x ∷ xs)
unfolding front quoted
front_parts x xs ys =
    same_front {b = is_white x} refl refl
    (same_front {b = is_letter x} refl (ap (λ run. begins (word run) (length run)) (run_parts is_word_byte refl (x ∷ xs) ys))
    (same_front {b = is_ascii_digit x} refl (ap (λ run. begins (k.Number (number run)) (length run)) (run_parts is_ascii_digit refl (x ∷ xs) ys))
    (same_front {b = x == quote} refl (ap (λ string. text_front (short string)) (string_parts false xs ys))
    (same_front (comment_parts x xs ys) (ap (λ run. passes (length run)) (run_parts is_in_line refl (x ∷ xs) ys)) (signs_part (x ∷ xs) ys)))))

either_within : (n : ℕ) (b : Bool) (f g : Front) → f.more ≤ n → g.more ≤ n → (if b then f else g).more ≤ n
either_within n true f g first other = first
either_within n false f g first other = other

run_less : (p : ℕ → Bool) (x : ℕ) (xs : List ℕ) → length (take_while p (x ∷ xs)) - 1 ≤ length xs
run_less p x xs = omega (arith, run_within p (x ∷ xs))

front_within : (x : ℕ) (xs : List ℕ) → (front (x ∷ xs)).more ≤ length xs
unfolding front quoted
front_within x xs =
    either_within (length xs) (is_white x) _ _ (omega arith) (either_within (length xs) (is_letter x) _ _ (run_less is_word_byte x xs)
    (either_within (length xs) (is_ascii_digit x) _ _ (run_less is_ascii_digit x xs)
    (either_within (length xs) (x == quote) _ _ (text_within (length xs) (quoted_behind false xs) (string_within false xs))
    (either_within (length xs) (begins_comment (x ∷ xs)) _ _ (run_less is_in_line x xs) (signs_within x xs)))))

-- the place at which tokens begin says nothing of what they are
one_moved : (m n : ℕ) (o : Option Token) (ps qs : List Placed) → without_places ps ≡ without_places qs →
    without_places (at m o ++ ps) ≡ without_places (at n o ++ qs)
one_moved m n None ps qs e = e
one_moved m n (Some token) ps qs e = ap (λ us. token ∷ us) e

moved : (m n passed : ℕ) (bytes : List ℕ) → without_places (tokens_after m passed bytes) ≡ without_places (tokens_after n passed bytes)
moved m n passed [] = refl
moved m n (suc passed) (b ∷ bs) = moved (suc m) (suc n) passed bs
moved m n zero (b ∷ bs) = one_moved m n (front (b ∷ bs)).token _ _ (moved (suc m) (suc n) (front (b ∷ bs)).more bs)

behind_one : (n : ℕ) (o : Option Token) (ps qs : List Placed) (us : List Token) → without_places ps ≡ without_places qs ++ us →
    without_places (at n o ++ ps) ≡ without_places (at n o ++ qs) ++ us
behind_one n None ps qs us e = e
behind_one n (Some token) ps qs us e = ap (λ ts. token ∷ ts) e

feed_passed : (n : ℕ) (ys : List ℕ) → tokens_after n zero (line_feed ∷ ys) ≡ tokens_after (suc n) zero ys
unfolding front
feed_passed n ys = refl

tokens_part : (n passed : ℕ) (xs ys : List ℕ) → passed ≤ length xs →
    without_places (tokens_after n passed (xs ++ line_feed ∷ ys)) ≡ without_places (tokens_after n passed xs) ++ without_places (tokens_after 0 zero ys)
tokens_part n zero [] ys h = ap without_places (feed_passed n ys) ∙ moved (suc n) 0 zero ys
tokens_part n (suc passed) [] ys h = absurd (omega (arith, h))
tokens_part n (suc passed) (x ∷ xs) ys h = tokens_part (suc n) passed xs ys (omega (arith, h))
tokens_part n zero (x ∷ xs) ys h =
    ap (λ f. without_places (at n f.token ++ tokens_after (suc n) f.more (xs ++ line_feed ∷ ys))) (front_parts x xs ys)
    ∙ behind_one n (front (x ∷ xs)).token _ _ (without_places (tokens_after 0 zero ys))
    (tokens_part (suc n) (front (x ∷ xs)).more xs ys (front_within x xs))

-- the tokens of a block, by those before and behind one of its line feeds
pub lines_part : (xs ys : List ℕ) → tokens (xs ++ line_feed ∷ ys) ≡ tokens xs ++ tokens ys
unfolding placed_tokens
lines_part xs ys = tokens_part 0 zero xs ys (omega arith)
