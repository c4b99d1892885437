-- Rows that narrowing must give.
use Rattle.std.proofs.Common.{◌≡◌, ℕ, zero, suc, ◌^◌, true, false, List, [], ◌∷◌, Some, None, refl}
use Rattle.vx_format.specs.declared.image.Does.TheVariants as leads
use Rattle.vx_format.specs.declared.image.Row.{Row}
use Rattle.vx_format.specs.declared.image.Table.{Table}
use Rattle.vx_format.specs.declared.image.Image.{Image}
use Rattle.vx_image.specs.Narrow.{is_narrow, is_narrow_mask, too_wide}

-- so many rows, each of which goes before the rows of a mask
abbrev rows : ℕ → ℕ → List Row
rows zero beats = []
rows (suc n) beats = record { does = leads.Prim 0; beats = beats } ∷ rows n beats

-- a table of them, of a selector without arguments
abbrev a_table : ℕ → ℕ → Table
a_table n beats = record { name = 109 ∷ []; arity = 0; rows = rows n beats; positions = [] }

sixty_four : is_narrow (a_table 64 1) ≡ true
unfolding is_narrow is_narrow_mask
sixty_four = refl

sixty_five : is_narrow (a_table 65 1) ≡ false
unfolding is_narrow is_narrow_mask
sixty_five = refl

highest : is_narrow (a_table 1 (2 ^ 63)) ≡ true
unfolding is_narrow is_narrow_mask
highest = refl

one_too_high : is_narrow (a_table 1 (2 ^ 64)) ≡ false
unfolding is_narrow is_narrow_mask
one_too_high = refl

abbrev with_tables : List Table → Image
with_tables tables = record {
  fields = 0;
  own = record { closure = 0; false_ = 0; int = 0; nil = 0; string = 0; true_ = 0 };
  main = None;
  shapes = [];
  tests = [];
  tables = tables;
  codes = [];
}

-- the first that is too wide is told
second : too_wide (with_tables (a_table 64 1 ∷ a_table 65 1 ∷ a_table 1 (2 ^ 64) ∷ [])) ≡ Some 1
unfolding is_narrow is_narrow_mask
second = refl

none : too_wide (with_tables (a_table 64 1 ∷ a_table 0 0 ∷ [])) ≡ None
unfolding is_narrow is_narrow_mask
none = refl
