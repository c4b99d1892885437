-- Which images fit version 1, and what narrowing answers.
use Rattle.std.specs.Prelude.{◌≡◌, ℕ, Bool, ◌&&◌, not, length, nat_le, Option, Some, None, Result, Ok, Err}
use Rattle.std.specs.List.{list_all, position_from}
use Rattle.vx_format.specs.declared.fault.FormatFault.{FormatFault}
use Rattle.vx_format.specs.declared.image.Version.{Version}
use Rattle.vx_format.specs.declared.image.Version.TheVariants.{One}
use Rattle.vx_format.specs.declared.image.Position.{Position}
use Rattle.vx_format.specs.declared.image.Table.{Table}
use Rattle.vx_format.specs.declared.image.Image.{Image}
use Rattle.vx_format.specs.Numbers.{Bytes}
use Rattle.vx_format.specs.Layout.{is_mask, most_rows, image_bytes}
use Rattle.vx_image.specs.declared.fault.LoadFault.{LoadFault}
use Rattle.vx_image.specs.declared.fault.LoadFault.TheVariants as load
use Rattle.vx_image.specs.declared.versions.NarrowFault.{NarrowFault}
use Rattle.vx_image.specs.declared.versions.NarrowFault.TheVariants as narrow
use Rattle.vx_image.specs.Gives.{Fails}

-- no bit stands at 64 or above
unfoldable pub is_narrow_mask : ℕ → Bool
is_narrow_mask mask = is_mask One mask

-- no mask of the position has a bit at 64 or above
abbrev pub is_narrow_position : Position → Bool
is_narrow_position p = is_narrow_mask p.default && (list_all (λ m. is_narrow_mask m.mask) p.classes && list_all (λ m. is_narrow_mask m.mask) p.tests)

-- the table has at most 64 rows, and no mask with a bit at 64 or above
unfoldable pub is_narrow : Table → Bool
is_narrow t = nat_le (length t.rows) (most_rows One) && (list_all (λ r. is_narrow_mask r.beats) t.rows && list_all is_narrow_position t.positions)

-- the first table that does not fit version 1
abbrev pub too_wide : Image → Option ℕ
too_wide x = position_from (λ t. not (is_narrow t)) 0 x.tables

-- a fault of the bytes, and not want of memory
abbrev pub IsFault : LoadFault → Result (Version × Image) FormatFault → Type 0
IsFault load.OutOfMemory meant = ⊥
IsFault fault meant = Fails fault meant

-- What narrowing answers, seen by view, about bytes that mean this. Of want of memory nothing is said.
abbrev pub NarrowsAs : {X : Type 0} → (X → Bytes) → Result X NarrowFault → Result (Version × Image) FormatFault → Type 0
NarrowsAs view (Ok bytes) meant = (v : Version) × (x : Image) × (meant ≡ Ok (v, x)) × (too_wide x ≡ None) × (view bytes ≡ image_bytes One x)
NarrowsAs view (Err (narrow.Load fault)) meant = IsFault fault meant
NarrowsAs view (Err (narrow.TooWide table)) meant = (v : Version) × (x : Image) × (meant ≡ Ok (v, x)) × (too_wide x ≡ Some table)
NarrowsAs view (Err narrow.OutOfMemory) meant = Unit {0}
