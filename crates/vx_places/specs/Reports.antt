-- What bytes come to, as an image.
use Rattle.std.specs.Prelude.{◌≡◌, ℕ, [], Result, Ok, Err}
use Rattle.vx_model.specs.declared.report.Report.{Report}
use Rattle.vx_model.specs.declared.report.Report.TheVariants as r
use Rattle.vx_format.specs.declared.fault.FormatFault.{FormatFault}
use Rattle.vx_format.specs.declared.image.Version.{Version}
use Rattle.vx_format.specs.declared.image.Image.{Image}
use Rattle.vx_format.specs.Numbers.{Bytes}
use Rattle.vx_format.specs.Format.{loaded, widen}
use Rattle.vx_format.specs.Laws.{AreBytes}
use Rattle.vx_places.specs.ImageMachine.{report_of}

abbrev pub told : ℕ → Result (Version × Image) FormatFault → Report
told n (Ok found) = report_of found.1 n
told n (Err fault) = r.Stuck []

-- What bytes come to, after at most n instructions; bytes that are no image are stuck.
abbrev pub report : Bytes → ℕ → Report
report bytes n = told n (loaded bytes)

-- The same image in the other version comes to the same.
abbrev pub WidenedRunsAlike : Type 0
WidenedRunsAlike = (bytes wide : Bytes) → AreBytes bytes → widen bytes ≡ Ok wide → (n : ℕ) → report wide n ≡ report bytes n
