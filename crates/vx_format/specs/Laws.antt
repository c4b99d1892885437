-- What holds of the format.
use Rattle.std.specs.Prelude.{◌≡◌, ℕ, ◌<◌, true, [], ◌∷◌, ◌++◌, length, Ok, Err}
use Rattle.vx_format.specs.declared.fault.FormatFault.TheVariants.{Short, Trailing}
use Rattle.vx_format.specs.declared.image.Version.{Version}
use Rattle.vx_format.specs.declared.image.Version.TheVariants.{Two}
use Rattle.vx_format.specs.declared.image.Image.{Image}
use Rattle.vx_format.specs.Numbers.{Bytes}
use Rattle.vx_format.specs.Layout.{is_image, image_bytes}
use Rattle.vx_format.specs.Format.{loaded}

-- each number is a byte
abbrev pub AreBytes : Bytes → Type 0
AreBytes [] = Unit {0}
AreBytes (b ∷ rest) = (b < 256) × AreBytes rest

-- what is loaded is an image with these bytes
abbrev pub LoadedIsLaid : Type 0
LoadedIsLaid = (bytes : Bytes) → AreBytes bytes → (v : Version) (x : Image) → loaded bytes ≡ Ok (v, x) → (is_image v x ≡ true) × (bytes ≡ image_bytes v x)

-- each image is loaded from its bytes
abbrev pub LaidIsLoaded : Type 0
LaidIsLoaded = (v : Version) (x : Image) → is_image v x ≡ true → loaded (image_bytes v x) ≡ Ok (v, x)

-- a proper front of an image is too short
abbrev pub FrontsAreShort : Type 0
FrontsAreShort = (v : Version) (x : Image) → is_image v x ≡ true → (front back : Bytes) → image_bytes v x ≡ front ++ back → 0 < length back
    → loaded front ≡ Err (Short (length front))

-- and what has more bytes has a fault behind the image
abbrev pub MoreIsTrailing : Type 0
MoreIsTrailing = (v : Version) (x : Image) → is_image v x ≡ true → (b : ℕ) (rest : Bytes)
    → loaded (image_bytes v x ++ b ∷ rest) ≡ Err (Trailing (length (image_bytes v x)))

-- each image fits version 2
abbrev pub AllFitTwo : Type 0
AllFitTwo = (v : Version) (x : Image) → is_image v x ≡ true → is_image Two x ≡ true

-- bytes are those of one image alone
abbrev pub BytesAreOfOne : Type 0
BytesAreOfOne = (v w : Version) (x y : Image) → is_image v x ≡ true → is_image w y ≡ true → image_bytes v x ≡ image_bytes w y → (v ≡ w) × (x ≡ y)
