-- Reading from left to right, with the first fault that is met.
use Rattle.std.specs.Prelude.{ℕ, zero, suc, ◌+◌, Bool, true, false, List, [], ◌∷◌, length, take, drop, Result, Ok, Err, nat_lt, ◌==◌, if◌then◌else◌}
use Rattle.vx_format.specs.declared.fault.FormatFault.{FormatFault}
use Rattle.vx_format.specs.declared.fault.FormatFault.TheVariants.{Short, BadIndex}
use Rattle.vx_format.specs.Numbers.{Bytes, number_of}

-- a place, and the bytes from there on
pub record Cursor : Type 0 where
  pub place : ℕ
  pub left : Bytes

-- A reading takes what it wants from the front, or meets a fault.
abbrev pub Reading : Type 0 → Type 0
Reading A = Cursor → Result (A × Cursor) FormatFault

-- what was read is handed on, a fault stays
abbrev pub passed : {A B : Type 0} → Result (A × Cursor) FormatFault → (A → Reading B) → Result (B × Cursor) FormatFault
passed (Ok x) next = next x.0 x.1
passed (Err fault) next = Err fault

infixl 10 ◌>>=◌
abbrev pub ◌>>=◌ : {A B : Type 0} → Reading A → (A → Reading B) → Reading B
read >>= next = λ at. passed (read at) next

-- nothing is taken
abbrev pub give : {A : Type 0} → A → Reading A
give x = λ at. Ok (x, at)

-- what begins at the place is out of range
abbrev pub wrong : {A : Type 0} → ℕ → Reading A
wrong place = λ at. Err (BadIndex place)

-- the place where reading is
abbrev pub here : Reading ℕ
here = λ at. Ok (at.place, at)

-- so many bytes
abbrev pub bytes : ℕ → Reading Bytes
bytes count = λ at. if nat_lt (length at.left) count then Err (Short (at.place + length at.left)) else Ok (
  take count at.left,
  record { place = at.place + count; left = drop count at.left },
)

-- a number of so many bytes
abbrev pub a_number : ℕ → Reading ℕ
a_number width = do
  front ← bytes width
  give (number_of front)

-- goes on where the test is true
abbrev pub check : Bool → ℕ → Reading (Unit {0})
check true place = give tt
check false place = wrong place

-- a number of so many bytes that meets the test, or what begins there is out of range
abbrev pub valid : ℕ → (ℕ → Bool) → Reading ℕ
valid width test = do
  place ← here
  n ← a_number width
  ok ← check (test n) place
  give n

-- a number of so many bytes below a bound
abbrev pub below : ℕ → ℕ → Reading ℕ
below width bound = valid width (λ n. nat_lt n bound)

-- so many things, by their numbers from the first on
abbrev pub listed : {A : Type 0} → ℕ → ℕ → (ℕ → Reading A) → Reading (List A)
listed zero first read = give []
listed (suc count) first read = do
  x ← read first
  rest ← listed count (suc first) read
  give (x ∷ rest)

-- things up to the end, each read with the depth that those before it made
abbrev pub until : {A : Type 0} → ℕ → ℕ → (ℕ → Reading A) → (ℕ → A → ℕ) → ℕ → Reading (List A)
until zero end read grown depth = give []
until (suc most) end read grown depth = do
  place ← here
  if place == end then give [] else (do
    x ← read depth
    rest ← until most end read grown (grown depth x)
    give (x ∷ rest))
