-- Rows that the format must give.
use Rattle.std.proofs.Common.{◌≡◌, ℕ, true, false, [], ◌∷◌, ◌++◌, None, Ok, Err, refl}
use Rattle.std.specs.Prelude.{codes}
use Rattle.vx_format.specs.declared.fault.FormatFault.TheVariants.{Short, BadMagic, BadIndex, Trailing}
use Rattle.vx_format.specs.declared.fault.FormatFault.TheVariants as faults
use Rattle.vx_format.specs.declared.image.Version.TheVariants.{One, Two}
use Rattle.vx_format.specs.declared.image.Image.{Image}
use Rattle.vx_format.specs.declared.image.Instr.TheVariants as instrs
use Rattle.vx_format.specs.Layout.{code, image_bytes, is_image, is_name}
use Rattle.vx_format.specs.Numbers.{Bytes, number, number_of}
use Rattle.vx_format.specs.Format.{loaded, widen, an_image, an_optional, an_own, a_magic, a_shape, the_parts}

empty : loaded [] ≡ Err (Short 0)
unfolding loaded an_image a_magic
empty = refl

magic : loaded (88 ∷ 88 ∷ 88 ∷ 88 ∷ []) ≡ Err BadMagic
unfolding loaded an_image a_magic
magic = refl

version : loaded (86 ∷ 88 ∷ 73 ∷ 67 ∷ 7 ∷ []) ≡ Err (faults.Version 7)
unfolding loaded an_image a_magic number_of
version = refl

short : loaded (86 ∷ 88 ∷ 73 ∷ 67 ∷ 1 ∷ []) ≡ Err (Short 5)
unfolding loaded an_image a_magic number_of the_parts
short = refl

-- the unit of a method that prints "hi" by the primitive, and by a message to the table 5
by_primitive : code (record { locals = 0; captures = 0; formals = 0; code = instrs.Text (104 ∷ 105 ∷ []) ∷ instrs.Prim 11 ∷ instrs.Ret ∷ [] } ∷ [])
    ≡ 0 ∷ 0 ∷ 0 ∷ 1 ∷ 0 ∷ 0 ∷ 0 ∷ 0 ∷ 0 ∷ 0 ∷ 0 ∷ 0 ∷ 0 ∷ 0 ∷ 0 ∷ 0 ∷ 10 ∷ 2 ∷ 0 ∷ 0 ∷ 0 ∷ 2 ∷ 104 ∷ 105 ∷ 13 ∷ 11 ∷ 18 ∷ []
unfolding number
by_primitive = refl

by_message : code (record { locals = 0; captures = 0; formals = 0; code = instrs.Text (104 ∷ 105 ∷ []) ∷ instrs.Send 5 ∷ instrs.Ret ∷ [] } ∷ [])
    ≡ 0 ∷ 0 ∷ 0 ∷ 1 ∷ 0 ∷ 0 ∷ 0 ∷ 0 ∷ 0 ∷ 0 ∷ 0 ∷ 0 ∷ 0 ∷ 0 ∷ 0 ∷ 0 ∷ 13 ∷ 2 ∷ 0 ∷ 0 ∷ 0 ∷ 2 ∷ 104 ∷ 105 ∷ 10 ∷ 0 ∷ 0 ∷ 0 ∷ 5 ∷ 18 ∷ []
unfolding number
by_message = refl

-- ---- the least image: one object without slots, which is each of the six, and nothing else

abbrev least : Image
least = record {
  fields = 0;
  own = record { closure = 0; false_ = 0; int = 0; nil = 0; string = 0; true_ = 0 };
  main = None;
  shapes = [] ∷ [];
  tests = [];
  tables = [];
  codes = [];
}

-- the head of an image with so many objects, and no fields, tests, tables and codes
abbrev head : ℕ → ℕ → Bytes
head version objects =
    codes "VXIC" ++ version ∷ 0 ∷ 0 ∷ 0 ∷ 0 ∷ 0 ∷ 0 ∷ 0 ∷ objects ∷ 0 ∷ 0 ∷ 0 ∷ 0 ∷ 0 ∷ 0 ∷ 0 ∷ 0 ∷ 0 ∷ 0 ∷ 0 ∷ 0 ∷ []

-- six objects 0
abbrev six : Bytes
six = 0 ∷ 0 ∷ 0 ∷ 0 ∷ 0 ∷ 0 ∷ 0 ∷ 0 ∷ 0 ∷ 0 ∷ 0 ∷ 0 ∷ 0 ∷ 0 ∷ 0 ∷ 0 ∷ 0 ∷ 0 ∷ 0 ∷ 0 ∷ 0 ∷ 0 ∷ 0 ∷ 0 ∷ []

abbrev least_bytes : ℕ → Bytes
least_bytes version = head version 1 ++ six ++ 255 ∷ 255 ∷ 255 ∷ 255 ∷ 0 ∷ 0 ∷ 0 ∷ 0 ∷ []

least_one : image_bytes One least ≡ least_bytes 1
unfolding number
least_one = refl

least_two : image_bytes Two least ≡ least_bytes 2
unfolding number
least_two = refl

least_fits : is_image One least ≡ true
least_fits = refl

least_loaded : loaded (least_bytes 2) ≡ Ok (Two, least)
unfolding loaded an_image a_magic number_of the_parts an_own an_optional a_shape
least_loaded = refl

-- an index that is the number: there is no object, and none is named
no_object : loaded (head 1 0 ++ six) ≡ Err (BadIndex 25)
unfolding loaded an_image a_magic number_of the_parts an_own
no_object = refl

-- and one byte more
trailing : loaded (least_bytes 1 ++ 0 ∷ []) ≡ Err (Trailing 57)
unfolding loaded an_image a_magic number_of the_parts an_own an_optional a_shape
trailing = refl

-- the same in version 2
short_two : loaded (86 ∷ 88 ∷ 73 ∷ 67 ∷ 2 ∷ []) ≡ Err (Short 5)
unfolding loaded an_image a_magic number_of the_parts
short_two = refl

-- the versions differ in a byte where there is no table, and nothing widens to nothing
least_widened : widen (least_bytes 1) ≡ Ok (least_bytes 2)
unfolding number loaded an_image a_magic number_of the_parts an_own an_optional a_shape
least_widened = refl

nothing_widened : widen [] ≡ Err (Short 0)
unfolding loaded an_image a_magic
nothing_widened = refl

-- names: identifiers and operators, and neither a digit first nor two operators in one
names : (is_name (codes "_a1") ≡ true) × (is_name (codes "++") ≡ true) × (is_name (codes "1a") ≡ false) × (is_name (codes "+-") ≡ false) × (is_name [] ≡ false)
unfolding is_name
names = (refl, refl, refl, refl, refl)
