-- The same image is what both bytes mean.
use Rattle.std.proofs.Common.{◌≡◌, Result, Ok, Err, sym, ap, ◌∙◌, refl}
use Rattle.vx_format.specs.declared.fault.FormatFault.{FormatFault}
use Rattle.vx_format.specs.declared.image.Version.{Version}
use Rattle.vx_format.specs.declared.image.Version.TheVariants.{Two}
use Rattle.vx_format.specs.declared.image.Image.{Image}
use Rattle.vx_format.specs.Layout.{image_bytes}
use Rattle.vx_format.specs.Format.{loaded, widened}
use Rattle.vx_format.specs.Laws.{LoadedIsLaid, LaidIsLoaded, AllFitTwo}
use Rattle.vx_places.specs.Reports.{told, WidenedRunsAlike}

pub widened_alike : LoadedIsLaid → LaidIsLoaded → AllFitTwo → WidenedRunsAlike
widened_alike laid loads wider bytes wide are is n = by (loaded bytes) refl is
  where
    by : (found : Result (Version × Image) FormatFault) → loaded bytes ≡ found → widened found ≡ Ok wide → told n (loaded wide) ≡ told n (loaded bytes)
    by (Err fault) e w = absurd (cc)
    by (Ok found) e w =
        let same : image_bytes Two found.1 ≡ wide = cc in
        let fits = (laid bytes are found.0 found.1 e).0 in
        let there : loaded wide ≡ Ok (Two, found.1) = ap loaded (sym same) ∙ loads Two found.1 (wider found.0 found.1 fits) in
        ap (told n) there ∙ sym (ap (told n) e)
