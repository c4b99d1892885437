-- The classes of bytes that blocks are made of, besides those of names.
use Rattle.std.specs.Prelude.{ℕ, Bool, ◌==◌, ◌||◌, not}

-- a tab, a line feed, a carriage return or a space
abbrev pub is_white : ℕ → Bool
is_white b = b == 9 || b == 10 || b == 13 || b == 32

-- no line feed
abbrev pub is_in_line : ℕ → Bool
is_in_line b = not (b == 10)

-- a double quote
abbrev pub quote : ℕ
quote = 34

-- a backslash
abbrev pub backslash : ℕ
backslash = 92
