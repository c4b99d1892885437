-- The bytes that one call moves, between a buffer and a position in a list.
use Rattle.std.proofs.Common.{◌≡◌, ℕ, ◌+◌, ◌-◌, ◌≤◌, List, ◌++◌, length, take, drop, min, arith}
use Rattle.std.proofs.lemmas.List.{take-append-drop, take_rest, take_at, drop-drop, length-take-le}

-- a copied front, and the bytes behind it, are the bytes from the position on
front_and_rest : (bytes into : List ℕ) (p n : ℕ) → n ≤ length (drop p bytes)
    → take n (take n (drop p bytes) ++ drop n into) ++ drop (p + n) bytes ≡ drop p bytes
front_and_rest bytes into p n fits =
    let front_length = length-take-le n (drop p bytes) fits in
    rw (take_at (take n (drop p bytes)) (drop n into) n front_length, ← drop-drop n p bytes)
    (take-append-drop n (drop p bytes))

-- the same where the front is copied out of a slice of the bytes
pub read_front : (bytes copied into : List ℕ) (p n most : ℕ)
    → copied ≡ take n (take (length bytes - p) (drop p bytes))
    → n ≡ min most (length (take (length bytes - p) (drop p bytes)))
    → take n (copied ++ drop n into) ++ drop (p + n) bytes ≡ drop p bytes
read_front bytes copied into p n most is_front is_least =
    let short = rw take_rest at is_least in
    let front = rw take_rest at is_front in
    rw front (front_and_rest bytes into p n (omega arith))
