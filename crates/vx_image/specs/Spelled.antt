-- Parts of the bytes of an image, as they are appended.
use Rattle.std.specs.Prelude.{[], ◌∷◌, length}
use Rattle.vx_format.specs.declared.image.Version.{Version}
use Rattle.vx_format.specs.declared.image.Image.{Image}
use Rattle.vx_format.specs.Numbers.{Bytes, number, text, each}
use Rattle.vx_format.specs.Layout.{shape, test, table, code}

-- the numbers of fields, objects, tests, tables and codes
abbrev pub counts : Image → Bytes
counts x = text (number 4 x.fields ∷ number 4 (length x.shapes) ∷ number 4 (length x.tests) ∷ number 4 (length x.tables) ∷ number 4 (length x.codes) ∷ [])

-- the shapes, tests, tables and codes
abbrev pub lists : Version → Image → Bytes
lists v x = text (each shape x.shapes ∷ each test x.tests ∷ each (table v) x.tables ∷ each code x.codes ∷ [])
