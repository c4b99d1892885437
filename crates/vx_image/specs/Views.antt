-- What views of parts show.
use Rattle.std.specs.Prelude.{ℕ, List, [], ◌∷◌, length, Some, None}
use Rattle.vx_format.specs.declared.image.Initial.{Initial}
use Rattle.vx_format.specs.declared.image.Initial.TheVariants as values
use Rattle.vx_format.specs.declared.image.Does.{Does}
use Rattle.vx_format.specs.declared.image.Does.TheVariants as leads
use Rattle.vx_format.specs.declared.image.Own.{Own}
use Rattle.vx_format.specs.declared.image.Block.{Block}
use Rattle.vx_image.specs.declared.views.Initial as views
use Rattle.vx_image.specs.declared.views.Initial.TheVariants as shown
use Rattle.vx_image.specs.declared.views.Row as rows
use Rattle.vx_image.specs.declared.views.Row.TheVariants as row
use Rattle.vx_image.specs.declared.views.BlockHead.{BlockHead}

-- what a slot holds at first, by what was shown of it
abbrev pub initial_of : views.Initial → Initial
initial_of shown.Nil = values.Nil
initial_of shown.False = values.False
initial_of shown.True = values.True
initial_of (shown.Int z) = values.Int z
initial_of (shown.Text bytes) = values.Text bytes.now

-- what is shown of a row
abbrev pub row_of : Does → rows.Row
row_of (leads.Code code None) = row.Code code None 0
row_of (leads.Code code (Some split)) = row.Code code (Some split.position) (length split.pairs)
row_of (leads.Prim p) = row.Prim p
row_of (leads.Get field) = row.Get field
row_of (leads.Set field) = row.Set field

-- how many pairs the split has, where there is one
abbrev pub pairs_of : Does → ℕ
pairs_of (leads.Code code None) = 0
pairs_of (leads.Code code (Some split)) = length split.pairs
pairs_of (leads.Prim p) = 0
pairs_of (leads.Get field) = 0
pairs_of (leads.Set field) = 0

-- what is shown of a block
abbrev pub head_of : Block → BlockHead
head_of b = record { locals = b.locals; captures = b.captures; formals = b.formals }

-- the six objects that an image names itself, in the order in which it does
abbrev pub six : Own → List ℕ
six own = own.closure ∷ own.false_ ∷ own.int ∷ own.nil ∷ own.string ∷ own.true_ ∷ []
