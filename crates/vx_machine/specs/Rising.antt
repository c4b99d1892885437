-- Lists of classes that rise.
use Rattle.std.specs.Prelude.{◌≡◌, ℕ, ◌<◌, List, Some, slice_get}
use Rattle.vx_format.specs.declared.image.ClassMask.{ClassMask}

-- each class is greater than those before it
abbrev pub Rises : List ClassMask → Type 0
Rises entries = (i j : ℕ) (a b : ClassMask) → i < j → slice_get entries i ≡ Some a → slice_get entries j ≡ Some b → a.symbol < b.symbol
