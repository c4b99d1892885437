-- The open levels, as the reader keeps them.
use Rattle.std.specs.Prelude.{◌≡◌, ℕ, List, ◌∷◌}
use Rattle.vx_syntax.specs.Depth.{depth}
use Rattle.vx_reader.specs.declared.levels.Levels.{Levels}

-- all of them, the innermost first
abbrev pub all : Levels → List ℕ
all levels = levels.inner ∷ levels.outside

-- the depth that is kept is theirs
abbrev pub Adds : Levels → Type 0
Adds levels = levels.depth ≡ depth (all levels)
