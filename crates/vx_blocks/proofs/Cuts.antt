-- Whole lines, and what they are of the first block.
use Rattle.std.proofs.Common.{◌≡◌, ℕ, zero, suc, ◌<◌, ◌==◌, ◌||◌, List, [], ◌∷◌, ◌++◌, length, take, get_or, true, false, cond, refl, arith, append_assoc, append-nil, ap, sym, ◌∙◌}
use Rattle.std.specs.List.{concat, onto_first, list_any}
use Rattle.std.proofs.lemmas.Bool.Decides.{nat_tests}
use Rattle.std.proofs.Math.Bool.{and-false, or-false}
use Rattle.vx_blocks.specs.Blocks.{lines, is_end_line, is_whole_end_line, onto_first_block, blocks_of, blocks, has_end_line}
use Rattle.vx_blocks.specs.Search.{IsFront}

-- no byte 10 stands there
abbrev pub IsUnbroken : List ℕ → Type 0
IsUnbroken bs = (k : ℕ) → k < length bs → (get_or bs k 0 == 10) ≡ false

-- it's a line, whatever comes behind it
abbrev pub IsWholeLine : List ℕ → Type 0
IsWholeLine line = (more : List ℕ) → lines (line ++ more) ≡ line ∷ lines more

-- a line ends with the first byte 10
pub whole_line : (bs : List ℕ) (n : ℕ) → n < length bs → (get_or bs n 0 == 10) ≡ true → ((k : ℕ) → k < n → (get_or bs k 0 == 10) ≡ false) → IsWholeLine (take (suc n) bs)
whole_line [] n l is before = absurd (omega arith)
whole_line (b ∷ bs) zero l is before = λ more. rw is refl
whole_line (b ∷ bs) (suc n) l is before = λ more.
    let e : (b == 10) ≡ false = before 0 (omega arith) in
    rw (e, whole_line bs n (omega arith) is (λ k h. before (suc k) (omega arith)) more) refl

eq-from_test : (a b : ℕ) → (a == b) ≡ true → a ≡ b
eq-from_test a b is = grind (arith, nat_tests)

-- a line with its byte 10 is an end line only by the forms that have one
pub end_line-whole : (bs : List ℕ) (n : ℕ) → n < length bs → (get_or bs n 0 == 10) ≡ true → is_end_line (take (suc n) bs) ≡ is_whole_end_line (take (suc n) bs)
end_line-whole [] n l is = absurd (omega arith)
end_line-whole (a ∷ bs) zero l is = rw (eq-from_test a 10 is) refl
end_line-whole (a ∷ []) (suc n) l is = absurd (omega arith)
end_line-whole (a ∷ b ∷ bs) (suc zero) l is = rw (eq-from_test b 10 is) (simp (and-false, or-false))
end_line-whole (a ∷ b ∷ []) (suc (suc n)) l is = absurd (omega arith)
end_line-whole (a ∷ b ∷ c ∷ bs) (suc (suc zero)) l is = rw (eq-from_test c 10 is) (simp and-false)
end_line-whole (a ∷ b ∷ c ∷ []) (suc (suc (suc n))) l is = absurd (omega arith)
end_line-whole (a ∷ b ∷ c ∷ d ∷ bs) (suc (suc (suc n))) l is = simp and-false

-- without byte 10 there is one line
only_line : (bs : List ℕ) → 0 < length bs → IsUnbroken bs → lines bs ≡ bs ∷ []
only_line [] l e = absurd (omega arith)
only_line (b ∷ []) l e = rw (e 0 (omega arith)) refl
only_line (b ∷ c ∷ bs) l e =
    let first : (b == 10) ≡ false = e 0 (omega arith) in
    rw (first, only_line (c ∷ bs) (omega arith) (λ k h. e (suc k) (omega arith))) refl

no_whole_end_line : (bs : List ℕ) → IsUnbroken bs → is_whole_end_line bs ≡ false
no_whole_end_line [] e = refl
no_whole_end_line (a ∷ []) e = simp and-false
no_whole_end_line (a ∷ b ∷ []) e =
    let second : (b == 10) ≡ false = e 1 (omega arith) in
    rw second (simp and-false)
no_whole_end_line (a ∷ b ∷ c ∷ []) e =
    let third : (c == 10) ≡ false = e 2 (omega arith) in
    rw third (simp and-false)
no_whole_end_line (a ∷ b ∷ c ∷ d ∷ bs) e = simp and-false

-- nor is there an end line that is whole
pub has_end_line-unbroken : (bs : List ℕ) → IsUnbroken bs → has_end_line bs ≡ false
has_end_line-unbroken [] e = refl
has_end_line-unbroken (b ∷ bs) e =
    rw (only_line (b ∷ bs) (omega arith) e, no_whole_end_line (b ∷ bs) e) refl

concat-onto_first : (b : ℕ) (parts : List (List ℕ)) → concat (onto_first b parts) ≡ b ∷ concat parts
concat-onto_first b [] = refl
concat-onto_first b (part ∷ parts) = refl

pub concat-lines : (bs : List ℕ) → concat (lines bs) ≡ bs
concat-lines [] = refl
concat-lines (b ∷ bs) =
    elim (b == 10) as (λ t. concat (cond t ((b ∷ []) ∷ lines bs) (onto_first b (lines bs))) ≡ b ∷ bs) [
      | true ↦ ap (λ xs. b ∷ xs) (concat-lines bs)
      | false ↦ concat-onto_first b (lines bs) ∙ ap (λ xs. b ∷ xs) (concat-lines bs)
    ]

-- the lines of a block, put together
onto-append : (xs ys : List ℕ) (found : List (List ℕ)) → onto_first_block xs (onto_first_block ys found) ≡ onto_first_block (xs ++ ys) found
onto-append xs ys [] = refl
onto-append xs ys (block ∷ more) = ap (λ b. b ∷ more) (sym (append_assoc xs ys block))

blocks_of-going_on : (line : List ℕ) (more : List (List ℕ)) → is_end_line line ≡ false → blocks_of (line ∷ more) ≡ onto_first_block line (blocks_of more)
blocks_of-going_on line more is = rw is refl

blocks_of-ended : (line : List ℕ) (more : List (List ℕ)) → is_end_line line ≡ true → blocks_of (line ∷ more) ≡ [] ∷ blocks_of more
blocks_of-ended line more is = rw is refl

nothing_before : (line : List ℕ) (more : List (List ℕ)) → blocks_of (line ∷ more) ≡ onto_first_block [] (blocks_of (line ∷ more))
nothing_before line more =
    let next = blocks_of more in
    elim (is_end_line line) as (λ t. cond t ([] ∷ next) (onto_first_block line next) ≡ onto_first_block [] (cond t ([] ∷ next) (onto_first_block line next))) [
      | true ↦ refl
      | false ↦ sym (onto-append [] line next)
    ]

nothing_before-onto_first : (b : ℕ) (parts : List (List ℕ)) → blocks_of (onto_first b parts) ≡ onto_first_block [] (blocks_of (onto_first b parts))
nothing_before-onto_first b [] = nothing_before (b ∷ []) []
nothing_before-onto_first b (part ∷ parts) = nothing_before (b ∷ part) parts

nothing_before-blocks : (input : List ℕ) → 0 < length input → blocks input ≡ onto_first_block [] (blocks input)
nothing_before-blocks [] some = absurd (omega arith)
nothing_before-blocks (b ∷ bs) some =
    elim (b == 10) as (λ t. blocks_of (cond t ((b ∷ []) ∷ lines bs) (onto_first b (lines bs))) ≡ onto_first_block [] (blocks_of (cond t ((b ∷ []) ∷ lines bs) (onto_first b (lines bs))))) [
      | true ↦ nothing_before (b ∷ []) (lines bs)
      | false ↦ nothing_before-onto_first b (lines bs)
    ]

-- at the beginning there is none of the block yet
pub front_at_start : IsFront []
front_at_start = record { joins = λ more some. nothing_before-blocks more some; ends = λ more. refl }

blocks-line : (line more : List ℕ) → IsWholeLine line → is_end_line line ≡ false → blocks (line ++ more) ≡ onto_first_block line (blocks more)
blocks-line line more whole is = ap blocks_of (whole more) ∙ blocks_of-going_on line (lines more) is

blocks-end_line : (line more : List ℕ) → IsWholeLine line → is_end_line line ≡ true → blocks (line ++ more) ≡ [] ∷ blocks more
blocks-end_line line more whole is = ap blocks_of (whole more) ∙ blocks_of-ended line (lines more) is

has_end_line-line : (line more : List ℕ) → IsWholeLine line → has_end_line (line ++ more) ≡ (is_whole_end_line line || has_end_line more)
has_end_line-line line more whole = ap (list_any is_whole_end_line) (whole more)

length-some : (xs ys : List ℕ) → 0 < length ys → 0 < length (xs ++ ys)
length-some [] ys l = l
length-some (x ∷ xs) ys l = omega arith

length-some_left : (xs ys : List ℕ) → 0 < length xs → 0 < length (xs ++ ys)
length-some_left [] ys l = absurd (omega arith)
length-some_left (x ∷ xs) ys l = omega arith

-- another line that ends no block is a part of it
pub front_goes_on : (front line : List ℕ) → IsFront front → 0 < length line → IsWholeLine line → is_end_line line ≡ false → is_whole_end_line line ≡ false → IsFront (front ++ line)
front_goes_on front line is some whole other none = record {
  joins = λ more _. rw append_assoc (is.joins (line ++ more) (length-some front (line ++ more) (length-some_left line more some)) ∙ ap (onto_first_block front) (blocks-line line more whole other) ∙ onto-append front line (blocks more));
  ends = λ more. rw append_assoc (is.ends (line ++ more) ∙ has_end_line-line line more whole ∙ ap (λ t. t || has_end_line more) none);
}

-- an end line ends it
pub block_ends : (front line rest : List ℕ) → IsFront front → 0 < length line → IsWholeLine line → is_end_line line ≡ true → (more : List ℕ) → blocks (front ++ (line ++ rest) ++ more) ≡ front ∷ blocks (rest ++ more)
block_ends front line rest is some whole ends more =
    let at : blocks (front ++ (line ++ (rest ++ more))) ≡ onto_first_block front (blocks (line ++ (rest ++ more))) = is.joins (line ++ (rest ++ more)) (length-some front (line ++ (rest ++ more)) (length-some_left line (rest ++ more) some)) in
    rw (append_assoc, append_assoc) (at ∙ ap (onto_first_block front) (blocks-end_line line (rest ++ more) whole ends) ∙ ap (λ b. b ∷ blocks (rest ++ more)) (append-nil front))

pub end_line_is_seen : (front line rest : List ℕ) → IsFront front → IsWholeLine line → is_whole_end_line line ≡ true → has_end_line (front ++ (line ++ rest)) ≡ true
end_line_is_seen front line rest is whole ends = is.ends (line ++ rest) ∙ has_end_line-line line rest whole ∙ ap (λ t. t || has_end_line rest) ends

-- the last block, where its last line has no byte 10
pub last_line_ends : (front line : List ℕ) → IsFront front → IsUnbroken line → is_end_line line ≡ true → blocks (front ++ line) ≡ front ∷ []
last_line_ends front [] is unbroken ends = absurd (cc)
last_line_ends front (b ∷ bs) is unbroken ends =
    is.joins (b ∷ bs) (length-some front (b ∷ bs) (omega arith)) ∙ ap (λ found. onto_first_block front (blocks_of found)) (only_line (b ∷ bs) (omega arith) unbroken) ∙ ap (onto_first_block front) (blocks_of-ended (b ∷ bs) [] ends) ∙ ap (λ b. b ∷ []) (append-nil front)

pub last_line_goes_on : (front line : List ℕ) → 0 < length (front ++ line) → IsFront front → IsUnbroken line → is_end_line line ≡ false → blocks (front ++ line) ≡ (front ++ line) ∷ []
last_line_goes_on front [] some is unbroken other =
    is.joins [] some ∙ ap (λ b. b ∷ []) (sym (append-nil front))
last_line_goes_on front (b ∷ bs) some is unbroken other =
    is.joins (b ∷ bs) some ∙ ap (λ found. onto_first_block front (blocks_of found)) (only_line (b ∷ bs) (omega arith) unbroken) ∙ ap (onto_first_block front) (blocks_of-going_on (b ∷ bs) [] other)
