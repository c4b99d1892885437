-- What a function that reads gives, against the reading that the format has.
use Rattle.std.specs.Prelude.{◌≡◌, ℕ, ◌+◌, ◌-◌, true, false, nat_le, nat_lt, length, Result, Ok, Err}
use Rattle.vx_format.specs.declared.fault.FormatFault.{FormatFault}
use Rattle.vx_format.specs.declared.fault.FormatFault.TheVariants as faults
use Rattle.vx_format.specs.declared.image.Version.{Version}
use Rattle.vx_format.specs.declared.image.Image.{Image}
use Rattle.vx_format.specs.Numbers.{Bytes}
use Rattle.vx_format.specs.Reading.{Cursor}
use Rattle.vx_image.specs.declared.fault.LoadFault.{LoadFault}
use Rattle.vx_image.specs.declared.fault.LoadFault.TheVariants as load

-- The reading has this fault. Of want of memory nothing is said.
abbrev pub Fails : {Y : Type 0} → LoadFault → Result Y FormatFault → Type 0
Fails load.OutOfMemory read = Unit {0}
Fails (load.Short place) read = read ≡ Err (faults.Short place)
Fails load.BadMagic read = read ≡ Err faults.BadMagic
Fails (load.Version byte) read = read ≡ Err (faults.Version byte)
Fails (load.BadIndex place) read = read ≡ Err (faults.BadIndex place)
Fails (load.Trailing place) read = read ≡ Err (faults.Trailing place)

-- What a function returned, seen by view, is what the reading gives, unless memory ran out.
abbrev pub Gives : {X Y : Type 0} → (X → Y) → Result X LoadFault → Result Y FormatFault → Type 0
Gives view (Ok x) read = read ≡ Ok (view x)
Gives view (Err error) read = Fails error read

-- whether what has so many bytes at the place ends within the end, and whether its bytes are there
abbrev pub IsFixed : Result (Unit {0}) LoadFault → ℕ → ℕ → ℕ → Cursor → Type 0
IsFixed (Ok u) end place size at = (nat_le (place + size) end ≡ true) × (nat_lt (length at.left) (size - 1) ≡ false)
IsFixed (Err (load.BadIndex start)) end place size at = (nat_le (place + size) end ≡ false) × (start ≡ place)
IsFixed (Err (load.Short total)) end place size at =
    (nat_le (place + size) end ≡ true) × (nat_lt (length at.left) (size - 1) ≡ true) × (total ≡ at.place + length at.left)
IsFixed (Err load.OutOfMemory) end place size at = ⊥
IsFixed (Err load.BadMagic) end place size at = ⊥
IsFixed (Err (load.Version byte)) end place size at = ⊥
IsFixed (Err (load.Trailing start)) end place size at = ⊥

-- What load answers about bytes, where this is what they mean: they are kept where they mean an image, and else it is their fault.
abbrev pub LoadsAs : Bytes → Result Bytes LoadFault → Result (Version × Image) FormatFault → Type 0
LoadsAs bytes (Ok kept) meant = (kept ≡ bytes) × ((v : Version) × (x : Image) × (meant ≡ Ok (v, x)))
LoadsAs bytes (Err error) meant = Fails error meant
