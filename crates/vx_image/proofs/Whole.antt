-- What holds of an image that was read from bytes.
use Rattle.std.proofs.Common.{◌≡◌, ℕ, suc, ◌<◌, true, List, [], ◌∷◌, get_or, Result, Ok, Err, sym, ap, ◌∙◌}
use Rattle.vx_format.specs.declared.image.Version.{Version}
use Rattle.std.specs.Prelude.{IfOk}
use Rattle.vx_format.specs.declared.image.Version.TheVariants.{One}
use Rattle.vx_format.specs.declared.image.Image.{Image}
use Rattle.vx_format.specs.declared.fault.FormatFault.{FormatFault}
use Rattle.vx_format.specs.Layout.{Laid, image_bytes, is_image}
use Rattle.vx_format.specs.Format.{loaded, widen, widened}
use Rattle.vx_image.specs.Parts.{found, image_of}
use Rattle.vx_format.specs.Laws.{AreBytes, LaidIsLoaded, LoadedIsLaid}
use Rattle.vx_image.specs.declared.fault.LoadFault.{LoadFault}
use Rattle.vx_image.specs.Gives.{Gives, LoadsAs}

pub are_bytes : (bytes : List ℕ) → ((i : ℕ) → get_or bytes i 0 < 256) → AreBytes bytes
are_bytes [] h = tt
are_bytes (b ∷ bytes) h = (h 0, are_bytes bytes (λ i. h (suc i)))

-- the bytes are laid
pub is_laid : LoadedIsLaid → (bytes : List ℕ) → AreBytes bytes → (v : Version) (x : Image) → loaded bytes ≡ Ok (v, x) → Laid bytes
is_laid law bytes are v x e = let fit = law bytes are v x e in (v, x, fit.0, fit.1)

-- a copy of the bytes means it, too, and it fits
pub is_kept : LoadedIsLaid → (bytes copy : List ℕ) → copy ≡ bytes → AreBytes bytes → (v : Version) (x : Image) → loaded bytes ≡ Ok (v, x)
    → (loaded copy ≡ Ok (v, x)) × (is_image v x ≡ true) × (image_of copy ≡ x)
is_kept law bytes copy same are v x e =
    let means = ap loaded same ∙ e in
    (means, (law bytes are v x e).0, ap found means)

-- what was found fits its version
pub found_fits : LoadedIsLaid → (bytes : List ℕ) → AreBytes bytes → (r : Result (Version × Image) LoadFault) → Gives (λ x. x) r (loaded bytes)
    → IfOk r (λ x. is_image x.0 x.1 ≡ true)
found_fits law bytes are (Ok x) given = (law bytes are x.0 x.1 given).0
found_fits law bytes are (Err fault) given = tt

-- the same image in version 1 widens to what the bytes widen to
pub narrow_widens : LaidIsLoaded → (bytes narrow : List ℕ) (v : Version) (x : Image) → loaded bytes ≡ Ok (v, x) → is_image One x ≡ true
    → narrow ≡ image_bytes One x
    → widen narrow ≡ widen bytes
narrow_widens again bytes narrow v x means fit is = ap widened (ap loaded is ∙ again One x fit) ∙ sym (ap widened means)

-- what is kept, and what the bytes are known to mean
pub kept_as : (bytes kept : List ℕ) → kept ≡ bytes → (v : Version) (x : Image) (meant : Result (Version × Image) FormatFault) → loaded bytes ≡ Ok (v, x)
    → loaded bytes ≡ meant
    → LoadsAs bytes (Ok kept) meant
kept_as bytes kept same v x meant e given = (same, (v, x, sym given ∙ e))
