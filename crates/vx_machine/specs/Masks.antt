-- The mask of a value that may be missing, at a position that may be missing.
use Rattle.std.specs.Prelude.{ℕ, List, Option, Some}
use Rattle.vx_format.specs.declared.image.Image.{Image}
use Rattle.vx_format.specs.declared.image.Position.{Position}
use Rattle.vx_places.specs.Dispatch.{mask_of}
use Rattle.vx_machine.specs.declared.word.Word.{Word}
use Rattle.vx_machine.specs.declared.word.Object.{Object}
use Rattle.vx_machine.specs.Meaning.{Texts, things_of, value_of}

abbrev pub mask_one : Image → Texts → List Object → Option Word → Option Position → ℕ
mask_one image texts objects (Some word) (Some position) = mask_of image (things_of texts objects) (value_of texts word) position
mask_one image texts objects word position = 0
