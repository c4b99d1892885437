-- What the search for an end line keeps, and what it finds.
use Rattle.std.proofs.Common.{◌≡◌, ℕ, zero, suc, ◌+◌, ◌-◌, ◌<◌, ◌≤◌, ◌==◌, List, [], ◌∷◌, ◌++◌, length, take, drop, get_or, true, false, cond, Some, None, position, refl, arith, ap, sym, ◌∙◌, subst, append_assoc, inl, inr}
use Rattle.std.specs.List.{position_from}
use Rattle.std.proofs.lemmas.Bool.{ne_eqb, eqb-false, cases_lt}
use Rattle.std.proofs.lemmas.List.Quantifiers.{position-Some}
use Rattle.std.proofs.lemmas.Iterator.Adapters.{position_from-zero}
use Rattle.std.proofs.lemmas.List.{get_or-drop, length-drop, length-take, take-append-drop}
use Rattle.std.proofs.Math.Seq.{take-add}
use Rattle.vx_blocks.specs.Blocks.{blocks, is_end_line, is_whole_end_line, has_end_line}
use Rattle.vx_blocks.specs.Search.{IsSearched, IsFirstEnd}
use Rattle.vx_blocks.proofs.Cuts.{IsUnbroken, IsWholeLine, whole_line, end_line-whole, has_end_line-unbroken, front_at_start, front_goes_on, block_ends, end_line_is_seen, last_line_ends, last_line_goes_on}

-- nothing is searched at the beginning
pub search_starts : (bytes : List ℕ) → IsSearched bytes 0 0
search_starts bytes = record { in_order = omega arith; within = omega arith; front = front_at_start; unbroken = λ k l h. absurd (omega arith) }

-- the line that begins at `line` ends before `end`
pub record IsLineAt (bytes : List ℕ) (line end : ℕ) : Type 0 where
  pub in_order : line < end
  pub within : end ≤ length bytes
  pub whole : IsWholeLine (take (end - line) (drop line bytes))
  pub ends : is_end_line (take (end - line) (drop line bytes)) ≡ is_whole_end_line (take (end - line) (drop line bytes))

unbroken_more : (b : ℕ) (bs : List ℕ) → (b == 10) ≡ false → IsUnbroken bs → IsUnbroken (b ∷ bs)
unbroken_more b bs is more zero h = is
unbroken_more b bs is more (suc k) h = more k (omega arith)

-- no byte 10 before `searched`, nor in so many bytes behind it
unbroken_up_to : (bytes : List ℕ) (line searched place : ℕ) → IsSearched bytes line searched → ((k : ℕ) → k < place → (get_or (drop searched bytes) k 0 == 10) ≡ false) → (k : ℕ) → line ≤ k → k < searched + place → (get_or bytes k 0 == 10) ≡ false
unbroken_up_to bytes line searched place is behind k l h =
    elim (cases_lt k searched) [
      | inl before ↦ ne_eqb _ _ (is.unbroken k l before)
      | inr after ↦
          let same : searched + (k - searched) ≡ k = omega arith in
          subst (λ (n : ℕ). (get_or bytes n 0 == 10) ≡ false) same (rw get_or-drop at (behind (k - searched) (omega arith)))
    ]

pub next_line : (bytes : List ℕ) (line searched place : ℕ) → IsSearched bytes line searched → position (λ b. b == 10) (drop searched bytes) ≡ Some place → IsLineAt bytes line (searched + place + 1)
next_line bytes line searched place is found =
    let at = position-Some (λ (b : ℕ). b == 10) (drop searched bytes) place 0 found in
    let n = searched + place - line in
    let len : searched + place + 1 - line ≡ suc n = omega arith in
    let within : searched + place < length bytes = omega (arith, length-drop searched bytes, at.0) in
    let rest : n < length (drop line bytes) = omega (arith, length-drop line bytes) in
    let here : line + n ≡ searched + place = omega arith in
    let byte : (get_or (drop line bytes) n 0 == 10) ≡ true = rw (get_or-drop line bytes n 0, here) (rw get_or-drop at at.1) in
    let before : (k : ℕ) → k < n → (get_or (drop line bytes) k 0 == 10) ≡ false = λ k h. rw get_or-drop (unbroken_up_to bytes line searched place is at.2 (line + k) (omega arith) (omega arith)) in
    record {
      in_order = omega arith;
      within = omega arith;
      whole = rw len (whole_line (drop line bytes) n rest byte before);
      ends = rw len (end_line-whole (drop line bytes) n rest byte);
    }

-- up to the end of the line
take_line : (bytes : List ℕ) (line end : ℕ) → line ≤ end → take end bytes ≡ take line bytes ++ take (end - line) (drop line bytes)
take_line bytes line end l =
    let same : line + (end - line) ≡ end = omega arith in
    subst (λ (n : ℕ). take n bytes ≡ take line bytes ++ take (end - line) (drop line bytes)) same (take-add line (end - line) bytes)

-- the bytes are those before the line, the line, and those behind it
line_apart : (bytes : List ℕ) (line end : ℕ) → line ≤ end → bytes ≡ take line bytes ++ (take (end - line) (drop line bytes) ++ drop end bytes)
line_apart bytes line end l =
    sym (take-append-drop end bytes) ∙ ap (λ front. front ++ drop end bytes) (take_line bytes line end l) ∙ append_assoc (take line bytes) (take (end - line) (drop line bytes)) (drop end bytes)

line_has_bytes : (bytes : List ℕ) (line end : ℕ) → IsLineAt bytes line end → 0 < length (take (end - line) (drop line bytes))
line_has_bytes bytes line end at = omega (arith, length-take (end - line) (drop line bytes), length-drop line bytes)

pub search_goes_on : (bytes : List ℕ) (line searched end : ℕ) → IsSearched bytes line searched → IsLineAt bytes line end → is_end_line (take (end - line) (drop line bytes)) ≡ false → IsSearched bytes end end
search_goes_on bytes line searched end is at other = record {
  in_order = omega arith;
  within = at.within;
  front = rw (take_line bytes line end (omega arith)) (front_goes_on (take line bytes) (take (end - line) (drop line bytes)) is.front (line_has_bytes bytes line end at) at.whole other (sym at.ends ∙ other));
  unbroken = λ k l h. absurd (omega arith);
}

pub end_is_found : (bytes : List ℕ) (line searched end : ℕ) → IsSearched bytes line searched → IsLineAt bytes line end → is_end_line (take (end - line) (drop line bytes)) ≡ true → IsFirstEnd bytes line end
end_is_found bytes line searched end is at ends =
    let front = take line bytes in
    let line' = take (end - line) (drop line bytes) in
    let rest = drop end bytes in
    let apart : front ++ (line' ++ rest) ≡ bytes = sym (line_apart bytes line end (omega arith)) in
    record {
      in_order = at.in_order;
      within = at.within;
      some = subst (λ (b : List ℕ). has_end_line b ≡ true) apart (end_line_is_seen front line' rest is.front at.whole (sym at.ends ∙ ends));
      cuts = λ more. subst (λ (b : List ℕ). blocks (b ++ more) ≡ front ∷ blocks (rest ++ more)) apart (block_ends front line' rest is.front (line_has_bytes bytes line end at) at.whole ends more);
    }

no_break : (bs : List ℕ) (n : ℕ) → position_from (λ b. b == 10) n bs ≡ None → IsUnbroken bs
no_break [] n none = λ k h. absurd (omega arith)
no_break (b ∷ bs) n none =
    elim (b == 10) as (λ t. cond t (Some n) (position_from (λ b. b == 10) (n + 1) bs) ≡ None → (b == 10) ≡ t → IsUnbroken (b ∷ bs)) [
      | true ↦ λ found _. absurd (cc)
      | false ↦ λ rest is. unbroken_more b bs is (no_break bs (n + 1) rest)
    ] none refl

pub all_searched : (bytes : List ℕ) (line searched : ℕ) → IsSearched bytes line searched → position (λ b. b == 10) (drop searched bytes) ≡ None → IsSearched bytes line (length bytes)
all_searched bytes line searched is none =
    let behind : IsUnbroken (drop searched bytes) = no_break (drop searched bytes) 0 (sym (position_from-zero (λ (b : ℕ). b == 10) (drop searched bytes)) ∙ none) in
    record {
      in_order = omega arith;
      within = omega arith;
      front = is.front;
      unbroken = λ k l h. eqb-false _ _ (unbroken_up_to bytes line searched (length (drop searched bytes)) is behind k l (omega (arith, length-drop searched bytes)));
    }

-- what is behind the last line's beginning has no byte 10
last_line-unbroken : (bytes : List ℕ) (line : ℕ) → IsSearched bytes line (length bytes) → IsUnbroken (drop line bytes)
last_line-unbroken bytes line is = λ k h. rw get_or-drop (ne_eqb _ _ (is.unbroken (line + k) (omega arith) (omega (arith, length-drop line bytes))))

pub no_end : (bytes : List ℕ) (line : ℕ) → IsSearched bytes line (length bytes) → has_end_line bytes ≡ false
no_end bytes line is =
    subst (λ (b : List ℕ). has_end_line b ≡ false) (take-append-drop line bytes) (is.front.ends (drop line bytes) ∙ has_end_line-unbroken (drop line bytes) (last_line-unbroken bytes line is))

pub last_block-ended : (bytes : List ℕ) (line : ℕ) → IsSearched bytes line (length bytes) → is_end_line (drop line bytes) ≡ true → blocks bytes ≡ take line bytes ∷ []
last_block-ended bytes line is ends =
    subst (λ (b : List ℕ). blocks b ≡ take line bytes ∷ []) (take-append-drop line bytes) (last_line_ends (take line bytes) (drop line bytes) is.front (last_line-unbroken bytes line is) ends)

pub last_block-all : (bytes : List ℕ) (line : ℕ) → 0 < length bytes → IsSearched bytes line (length bytes) → is_end_line (drop line bytes) ≡ false → blocks bytes ≡ bytes ∷ []
last_block-all bytes line some is other =
    let apart = take-append-drop line bytes in
    subst (λ (b : List ℕ). blocks b ≡ b ∷ []) apart (last_line_goes_on (take line bytes) (drop line bytes) (rw apart some) is.front (last_line-unbroken bytes line is) other)
