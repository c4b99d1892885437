-- Signs as pieces, and how many bytes they have.
use Rattle.std.proofs.Common.{◌≡◌, ◌∙◌, ◌+◌, List, ℕ, [], ◌∷◌, ◌++◌, refl, ap, sym, length, append-nil, append_assoc, arith, ◌<◌, ◌≤◌, drop, get_or}
use Rattle.std.proofs.Common.{drop_of_length-le}
use Rattle.vx_lists.proofs.Rests.{left_at}
use Rattle.vx_format.specs.Numbers.{Bytes}
use Rattle.vx_node.specs.declared.unit.Piece.TheVariants as pieces
use Rattle.vx_node.specs.declared.unit.Symbol.{Symbol}
use Rattle.vx_units.specs.Signs.{Signs, Byte, Named, bytes, named, size, grouped, with_byte}
use Rattle.vx_codegen.specs.Ungrouped.{ungrouped, stretch_piece, stretches_pieces}

pub bytes_behind : (xs ys : Bytes) → bytes (xs ++ ys) ≡ bytes xs ++ bytes ys
bytes_behind [] ys = refl
bytes_behind (x ∷ xs) ys = ap (λ rest. Byte x ∷ rest) (bytes_behind xs ys)

-- one more stretch
pub stretch_behind : (done : List (Bytes × Symbol)) (own : Bytes) (symbol : Symbol) →
    ungrouped (done ++ (own, symbol) ∷ []) ≡ (ungrouped done ++ bytes own) ++ named symbol
stretch_behind [] own symbol = refl
stretch_behind (first ∷ rest) own symbol =
    ap (λ more. bytes first.0 ++ (Named first.1 ∷ more)) (stretch_behind rest own symbol)
    ∙ ap (λ more. bytes first.0 ++ (Named first.1 ∷ more)) (append_assoc (ungrouped rest) (bytes own) (named symbol))
    ∙ sym (append_assoc (bytes first.0) (Named first.1 ∷ ungrouped rest) (bytes own ++ named symbol))
    ∙ sym (append_assoc (bytes first.0 ++ (Named first.1 ∷ ungrouped rest)) (bytes own) (named symbol))

-- a unit with one more name, when the bytes before it have gone into a stretch
pub name_behind : (done grown : List (Bytes × Symbol)) (waiting own rest : Bytes) (symbol : Symbol) (all : Signs) → grown ≡ done ++ (own, symbol) ∷ [] →
    rest ≡ [] → own ≡ waiting → all ≡ ungrouped done ++ bytes waiting → ungrouped grown ++ bytes rest ≡ all ++ named symbol
name_behind done grown waiting own rest symbol all is none same whole =
    ap (λ g. ungrouped g ++ bytes rest) is ∙ ap (λ r. ungrouped (done ++ (own, symbol) ∷ []) ++ bytes r) none
    ∙ append-nil (ungrouped (done ++ (own, symbol) ∷ [])) ∙ stretch_behind done own symbol
    ∙ ap (λ o. (ungrouped done ++ bytes o) ++ named symbol) same ∙ ap (λ a. a ++ named symbol) (sym whole)

-- ---- pieces

-- bytes before a name are one piece
before_name : (own : Bytes) (symbol : Symbol) (rest : Signs) →
    grouped (bytes own ++ (Named symbol ∷ rest)) ≡ stretch_piece own ++ (pieces.Symbol symbol ∷ grouped rest)
before_name [] symbol rest = refl
before_name (byte ∷ []) symbol rest = refl
before_name (byte ∷ next ∷ own) symbol rest = ap (with_byte byte) (before_name (next ∷ own) symbol rest)

before_nothing : (own : Bytes) → grouped (bytes own) ≡ stretch_piece own
before_nothing [] = refl
before_nothing (byte ∷ []) = refl
before_nothing (byte ∷ next ∷ own) = ap (with_byte byte) (before_nothing (next ∷ own))

pub pieces_are : (done : List (Bytes × Symbol)) (own : Bytes) → grouped (ungrouped done ++ bytes own) ≡ stretches_pieces done ++ stretch_piece own
pieces_are [] own = before_nothing own
pieces_are (first ∷ rest) own =
    ap grouped (append_assoc (bytes first.0) (Named first.1 ∷ ungrouped rest) (bytes own))
    ∙ before_name first.0 first.1 (ungrouped rest ++ bytes own)
    ∙ ap (λ more. stretch_piece first.0 ++ (pieces.Symbol first.1 ∷ more)) (pieces_are rest own)
    ∙ sym (append_assoc (stretch_piece first.0) (pieces.Symbol first.1 ∷ stretches_pieces rest) (stretch_piece own))

-- ---- sizes

more_size : (xs ys : Signs) (n : ℕ) → size ys ≡ n → size (xs ++ ys) ≡ size xs + n
more_size [] ys n is = omega arith
more_size (Byte byte ∷ xs) ys n is = let rest = more_size xs ys n is in omega arith
more_size (Named symbol ∷ xs) ys n is = let rest = more_size xs ys n is in omega arith

pub size_behind : (xs ys : Signs) → size (xs ++ ys) ≡ size xs + size ys
size_behind xs ys = more_size xs ys (size ys) refl

pub bytes_size : (own : Bytes) → size (bytes own) ≡ length own
bytes_size [] = refl
bytes_size (byte ∷ own) = let rest = bytes_size own in omega arith

-- one more stretch before the rest
pub stretch_size : (own : Bytes) (symbol : Symbol) (rest : List (Bytes × Symbol)) → size (ungrouped ((own, symbol) ∷ rest)) ≡ length own + 4 + size
    (ungrouped rest)
stretch_size own symbol rest =
    let all = size_behind (bytes own) (Named symbol ∷ ungrouped rest) in
    let first = bytes_size own in
    omega arith

-- a stretch taken from those that are left
pub size_left : (xs : List (Bytes × Symbol)) (place : ℕ) (x : Bytes × Symbol) → place < length xs → x ≡ get_or xs place x →
    size (ungrouped (drop place xs)) ≡ length x.0 + 4 + size (ungrouped (drop (place + 1) xs))
size_left xs place x within is = ap (λ ls. size (ungrouped ls)) (left_at xs place x within is) ∙ stretch_size x.0 x.1 (drop (place + 1) xs)

pub none_left : (xs : List (Bytes × Symbol)) (place : ℕ) → length xs ≤ place → size (ungrouped (drop place xs)) ≡ 0
none_left xs place past = ap (λ ls. size (ungrouped ls)) (drop_of_length-le xs past)
