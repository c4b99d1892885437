-- Programs and their images, written out.
use Rattle.std.proofs.Common.{◌≡◌, ℕ, List, [], ◌∷◌, ◌++◌, refl}
use Rattle.vx_syntax.specs.declared.decl.Decl.TheVariants as d
use Rattle.vx_syntax.specs.Declarations.{any}
use Rattle.vx_program.specs.Prelude.{prelude, primitives}
use Rattle.vx_batch.specs.Image.{image_of}

-- the name `a`, and the name `b`
abbrev a : List ℕ
a = 97 ∷ []

abbrev b : List ℕ
b = 98 ∷ []

no_object : image_of prelude ≡ 86 ∷ 88 ∷ 73 ∷ 67 ∷ 0 ∷ 0 ∷ 0 ∷ 0 ∷ 0 ∷ []
unfolding prelude primitives
no_object = refl

two_objects : image_of (d.Object a (any ∷ []) ∷ prelude ++ d.Object b (any ∷ []) ∷ [])
    ≡ 86 ∷ 88 ∷ 73 ∷ 67 ∷ 0 ∷ 0 ∷ 0 ∷ 0 ∷ 2 ∷ 1 ∷ 97 ∷ 0 ∷ 0 ∷ 0 ∷ 1 ∷ 3 ∷ 97 ∷ 110 ∷ 121 ∷ 1 ∷ 98 ∷ 0 ∷ 0 ∷ 0 ∷ 1 ∷ 3 ∷ 97 ∷ 110 ∷ 121 ∷ []
unfolding prelude primitives
two_objects = refl

one_above_the_other : image_of (d.Object a (b ∷ []) ∷ prelude ++ d.Object b (any ∷ []) ∷ [])
    ≡ 86 ∷ 88 ∷ 73 ∷ 67 ∷ 0 ∷ 0 ∷ 0 ∷ 0 ∷ 2 ∷ 1 ∷ 97 ∷ 0 ∷ 0 ∷ 0 ∷ 1 ∷ 1 ∷ 98 ∷ 1 ∷ 98 ∷ 0 ∷ 0 ∷ 0 ∷ 1 ∷ 3 ∷ 97 ∷ 110 ∷ 121 ∷ []
unfolding prelude primitives
one_above_the_other = refl
